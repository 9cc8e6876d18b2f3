-- The checker's state between the parts of a program.
use Rattle.std.specs.Prelude.{◌≡◌, true, List, []}
use Rattle.core_syntax.specs.declared.ty.Ty.{Ty as Tree}
use Rattle.core_syntax.specs.Syntax.{Ty, ty_at, Def}
use Rattle.core_syntax.specs.Lists.{each, EachTwo}
use Rattle.core_syntax.specs.NormTypes.{norm_ty}
use Rattle.core_syntax.specs.Refine.{ty_of}
use Rattle.core_syntax.specs.Typing.{is_printable, defs_only}
use Rattle.core_syntax.specs.Blame.{Premises, premise, ◌then◌, written, defs_premises, inputs_premises}
use Rattle.core_syntax.specs.Notes.{note_of, DefsNotesAre}
use Rattle.type_check.specs.declared.state.Bound.{Bound}
use Rattle.type_check.specs.Contexts.{IsSound}
use Rattle.type_check.specs.State.{State}

-- the premises of an input type
abbrev pub input_premises : Ty → Premises
input_premises t = written (defs_only []) t then premise 29 (ty_at t) (is_printable t ≡ true)

-- the written type of a definition is sound, and this is its normal type
pub record IsDefined (d : Def) (n : Tree) : Type 0 where
  pub sound : IsSound 0 [] d.ty
  pub ty_is : ty_of n ≡ norm_ty d.ty

-- a written input type is sound, and this is the variable of its normal type, bound where no type variables and index variables were in scope
pub record IsEntered (t : Ty) (b : Bound) : Type 0 where
  pub sound : IsSound 0 [] t
  pub ty_is : ty_of b.ty ≡ norm_ty t
  pub types_none : b.types ≡ 0
  pub indices_none : b.indices ≡ 0

-- the state behind these definitions and inputs of a program: their premises are met, their normal types are in scope, and the notes are theirs
pub record IsBehind (defs : List Def) (inputs : List Ty) (s : State) : Type 0 where
  pub types_none : s.types ≡ 0
  pub sorts_none : s.sorts ≡ []
  pub defs_met : (defs_premises [] defs).met
  pub defs_are : EachTwo IsDefined defs s.defs
  pub inputs_met : (inputs_premises inputs).met
  pub inputs_are : EachTwo IsEntered inputs s.terms
  pub notes_are : DefsNotesAre [] defs (each note_of s.notes)
