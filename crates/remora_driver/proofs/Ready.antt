-- A program that a text means, with data that fits its inputs.
use Rattle.std.proofs.Common.{◌≡◌, subst, ℕ, List}
use Rattle.std.proofs.Math.Logic.{∥∥₁_map}
use Rattle.core_syntax.specs.declared.checked.Checked.{Checked}
use Rattle.core_syntax.specs.Checks.{IsChecked}
use Rattle.core_syntax.specs.Data.{Data, FitsValues}
use Rattle.core_syntax.specs.Lists.{each}
use Rattle.core_syntax.specs.Notes.{NodeNote}
use Rattle.core_syntax.specs.Refine.{ty_of}
use Rattle.core_syntax.specs.Syntax.{Ty, Program}
use Rattle.core_syntax.specs.Wholes.{program_of}
use Rattle.lowering.specs.Laws.{code_of_program}
use Rattle.lowering.proofs.InputTypes.{code_has_inputs}
use Rattle.reduction_laws.specs.Laws.{IsReady}
use Rattle.remora_driver.specs.Due.{types_of_inputs}
use Rattle.remora_driver.specs.Programs.{IsMade, IsProgram, input_types}
use Rattle.remora_driver.specs.Reductions.{notes_of}

-- it is ready to be run
pub ready : (P : Program) (t : Ty) (notes : List NodeNote) (xs : List Data) → IsMade P t notes → FitsValues (input_types P) xs → IsReady P t notes xs
ready P t notes xs is fits = record { inputs = input_types P; made = is.made; checked = is.checked; fits = fits }

-- its code's inputs are of the types of its own
pub inputs_are : (bytes : List ℕ) (P : Program) (notes : List NodeNote) → IsProgram bytes P notes → types_of_inputs (code_of_program P notes) ≡ input_types P
inputs_are bytes P notes is = code_has_inputs P notes is.source.typed

-- what the checker gives is made so
pub checked_inputs : (c : Checked) → ∥ each ty_of c.inputs ≡ input_types (program_of c.program) ∥₁
checked_inputs c = ∥∥₁_map c.checked (λ x. x.inputs_are)

pub checked_made : (c : Checked) → ∥ ((t : Ty) × IsMade (program_of c.program) t (notes_of c)) ∥₁
checked_made c =
    ∥∥₁_map c.checked (λ x. (
      ty_of c.body,
      record { made = c.program.well_made; checked = subst (λ (ts : List Ty). IsChecked (program_of c.program) (ty_of c.body) ts (notes_of c)) x.inputs_are x },
    ))
