use Rattle.std.proofs.Common.{refl, sym, subst, List}
use Rattle.core_syntax.specs.Data.{FitsValues}
use Rattle.core_syntax.specs.Lists.{each}
use Rattle.core_syntax.specs.Wholes.{program_of}
use Rattle.array_values.specs.Data.{array_data}
use Rattle.array_values.specs.Values.{Array}
use Rattle.value_text.specs.DataFits.{Fits}
use Rattle.value_text.specs.DataTexts.{IsDue}
use Rattle.remora_driver.specs.Due.{data_refused, IsDueOn, unfit, fitting}
use Rattle.remora_driver.specs.Programs.{input_types}
use Rattle.remora_driver.specs.Reductions.{EndsIn}
use Rattle.remora_driver.proofs.Called.{told_further}
use Rattle.remora_driver.proofs.task.reduce_checked.Goals as goal

pub reduction_answer-requires : goal.reduction_answer-requires
reduction_answer-requires c =
    subst (λ (l : List Array). FitsValues (input_types (program_of c.args.checked.now.program)) (each array_data l)) (sym c.as_slice.ensures.value) c.in-Ok.ensures.found.fits

pub returns-in-Ok : goal.returns-in-Ok
returns-in-Ok c =
    told_further (EndsIn c.args.checked.now c.args.budget (each array_data c.as_slice.result.now)) (IsDueOn (input_types (program_of c.args.checked.now.program)) c.args.given.now (EndsIn c.args.checked.now c.args.budget)) c.reduction_answer.result
    (λ a end. fitting (each array_data c.as_slice.result.now) (subst (λ (l : List Array). Fits c.args.given.now (input_types (program_of c.args.checked.now.program)) (each array_data l)) (sym c.as_slice.ensures.value) c.in-Ok.ensures.found) end)
    c.reduction_answer.ensures

pub returns-in-Err-Refused : goal.returns-in-Err-Refused
returns-in-Err-Refused c = rw c.in-Err-Refused.field-0-is (
  data_refused c.in-Err-Refused.number c.in-Err-Refused.span,
  unfit c.in-Err-Refused.number c.in-Err-Refused.span (subst (IsDue c.args.given.now (input_types (program_of c.args.checked.now.program))) c.in-Err-Refused.field-0-is c.in-Err-Refused.ensures.blame) refl,
  refl,
)
