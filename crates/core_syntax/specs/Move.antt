-- What a step does.
use Rattle.std.specs.Prelude.{Option, Some, None}
use Rattle.core_syntax.specs.declared.errors.TrapKind.{TrapKind}

-- what a step does: there is none since it is a value, it traps, it goes on, or no rule applies, which no typed term meets
pub data Move (A : Type 0) : Type 0 where
  Rests : Move A
  Trapped : TrapKind → Move A
  Goes : A → Move A
  Lost : Move A

-- a part's move, put into the whole by f, and another where the part is a value
abbrev pub first_move : {A B : Type 0} → Move A → (A → B) → Move B → Move B
first_move Rests f later = later
first_move (Trapped k) f later = Trapped k
first_move (Goes a) f later = Goes (f a)
first_move Lost f later = Lost

-- f of what is there, and no rule where there is nothing
abbrev pub if_there : {A B : Type 0} → Option A → (A → Move B) → Move B
if_there None f = Lost
if_there (Some a) f = f a

-- f of where a move goes, if it goes on
abbrev pub where_it_goes : {A B : Type 0} → Move A → (A → Option B) → Option B
where_it_goes (Goes a) f = f a
where_it_goes _ f = None
