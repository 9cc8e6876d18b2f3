-- What a checked program keeps.
use Rattle.std.specs.Prelude.{◌≡◌, List}
use Rattle.core_syntax.specs.Syntax.{Ty, Program}
use Rattle.core_syntax.specs.Lists.{each}
use Rattle.core_syntax.specs.NormTypes.{norm_ty}
use Rattle.core_syntax.specs.Typing.{Has, body_context}
use Rattle.core_syntax.specs.Blame.{IsAccepted}
use Rattle.core_syntax.specs.Notes.{NodeNote, ProgramNotesAre}

-- all premises of a program are met, this is the type of its body and these are those of its inputs, in normal form, and these are its notes
pub record IsChecked (P : Program) (result : Ty) (inputs : List Ty) (notes : List NodeNote) : Type 0 where
  pub accepted : IsAccepted P
  pub result_normal : norm_ty result ≡ result
  pub result_has : Has (body_context P) P.body result
  pub inputs_are : inputs ≡ each norm_ty P.inputs
  pub notes_are : ProgramNotesAre P notes
