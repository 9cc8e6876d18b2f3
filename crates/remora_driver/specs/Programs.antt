-- The programs that a text means.
use Rattle.std.specs.Prelude.{◌≤◌, ℕ, List, length}
use Rattle.core_syntax.specs.Blame.{IsAccepted}
use Rattle.core_syntax.specs.Checks.{IsChecked}
use Rattle.core_syntax.specs.Literals.{LiteralsFit}
use Rattle.core_syntax.specs.Lists.{each}
use Rattle.core_syntax.specs.Made.{IsWellMade}
use Rattle.core_syntax.specs.Notes.{NodeNote}
use Rattle.core_syntax.specs.NormTypes.{norm_ty}
use Rattle.core_syntax.specs.Syntax.{Ty, Program}
use Rattle.core_syntax.specs.Typing.{Typed}
use Rattle.sexp_reader.specs.Forms.{Forms}
use Rattle.sexp_reader.specs.Reads.{Reads}
use Rattle.name_resolve.specs.Means.{Means}
use Rattle.remora_driver.specs.Jobs.{longest_source}

-- the text means this program
pub record IsSource (bytes : List ℕ) (P : Program) : Type 0 where
  pub forms : Forms
  pub reads : Reads bytes forms
  pub means : Means forms P

-- the text means this program, which is typed and whose measures hold
pub record IsAcceptedSource (bytes : List ℕ) (P : Program) : Type 0 where
  pub short : length bytes ≤ longest_source
  pub means : IsSource bytes P
  pub accepted : ∥ IsAccepted P ∥₁
  -- the rules of typing type it
  pub typed : ∥ Typed P ∥₁

-- the types of a program's inputs, in normal form
abbrev pub input_types : Program → List Ty
input_types P = each norm_ty P.inputs

-- it is well made and checked, where its body has this type and these are the notes of its nodes
pub record IsMade (P : Program) (result : Ty) (notes : List NodeNote) : Type 0 where
  pub made : IsWellMade P
  pub checked : IsChecked P result (input_types P) notes

-- the text means this accepted program, and these are the notes of its nodes
pub record IsProgram (bytes : List ℕ) (P : Program) (notes : List NodeNote) : Type 0 where
  pub source : IsAcceptedSource bytes P
  -- its literals are those that a text can hold
  pub literals : LiteralsFit P
  pub made : ∥ ((t : Ty) × IsMade P t notes) ∥₁
