-- The checker's state, and the context that it stands for.
use Rattle.std.specs.Prelude.{ℕ, ◌≡◌, ◌+◌, ◌-◌, ◌≤◌, List, [], ◌∷◌, ◌++◌, length, None}
use Rattle.core_syntax.specs.declared.index.Sort.{Sort}
use Rattle.core_syntax.specs.declared.ty.Ty.{Ty as Tree}
use Rattle.core_syntax.specs.Syntax.{Ty}
use Rattle.core_syntax.specs.Refine.{ty_of}
use Rattle.core_syntax.specs.Lists.{onto, each, Each}
use Rattle.core_syntax.specs.Subst.{ty_renamed}
use Rattle.core_syntax.specs.declared.note.Note.{Note}
use Rattle.core_syntax.specs.Typing.{Context}
use Rattle.type_check.specs.declared.state.Bound.{Bound}
use Rattle.type_check.specs.Contexts.{IsReady}

-- the types of the definitions, what is in scope, the outermost first, and the notes so far
pub record State : Type 0 where
  pub defs : List Tree
  pub types : ℕ
  pub sorts : List Sort
  pub terms : List Bound
  pub notes : List Note

-- the note in a place that is held
abbrev pub empty_note : Note
empty_note = record { cells = []; cell = None; shape = []; sorts = [] }

-- a term variable of this type, bound here
abbrev pub bound_at : State → Tree → Bound
bound_at s t = record { ty = t; types = s.types; indices = length s.sorts }

-- a state with index variables of these sorts more
abbrev pub within_sorts : List Sort → State → State
within_sorts ss s = record s { sorts = s.sorts ++ ss }

-- and behind them a term variable of this type, as in the body of an `unbox`
abbrev pub within_box : List Sort → Tree → State → State
within_box ss t s = record (within_sorts ss s) { terms = s.terms ++ bound_at (within_sorts ss s) t ∷ [] }

-- a type under so many index binders and type binders more
abbrev pub further : ℕ → ℕ → Ty → Ty
further indices types t = ty_renamed (λ k. indices + k) (λ k. types + k) t

-- the type of a term variable where so many type variables and index variables are in scope
abbrev pub seen : ℕ → ℕ → Bound → Ty
seen types indices b = further (indices - b.indices) (types - b.types) (ty_of b.ty)

-- the context of a state
abbrev pub context_of : State → Context
context_of s = record { defs = each ty_of s.defs; types = s.types; sorts = onto s.sorts []; terms = each (seen s.types (length s.sorts)) (onto s.terms []) }

-- a variable was bound where no more type variables and index variables were in scope
abbrev pub IsOlder : ℕ → ℕ → Bound → Type 0
IsOlder types indices b = (b.types ≤ types) × (b.indices ≤ indices)

-- a context is ready, and each term variable was bound in it
pub record IsSteady (s : State) : Type 0 where
  pub ready : IsReady (context_of s)
  pub older : Each (IsOlder s.types (length s.sorts)) s.terms
