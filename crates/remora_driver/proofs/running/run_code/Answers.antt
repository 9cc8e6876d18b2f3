use Rattle.std.proofs.Common.{◌≡◌, refl, sym, subst, List, length, map}
use Rattle.core_syntax.specs.Lists.{each}
use Rattle.array_values.specs.Data.{array_data}
use Rattle.array_values.specs.Values.{Array}
use Rattle.machine_table.specs.Codes.{Param, param_of}
use Rattle.machine_table.specs.ParamTypes.{type_of}
use Rattle.value_text.specs.DataFits.{Fits}
use Rattle.value_text.specs.DataTexts.{DataBlame, IsDue}
use Rattle.value_text.specs.declared.errors.DataRefusal.{DataRefusal}
use Rattle.remora_driver.specs.Calls.{TellsDue}
use Rattle.remora_driver.specs.Due.{data_refused, HasCodeEnd, IsCodeDue, unfit, fitting}
use Rattle.remora_driver.proofs.Called.{told_further}
use Rattle.remora_driver.proofs.Dues.{as_many}
use Rattle.remora_driver.proofs.running.run_code.Goals as goal

pub code_answer-requires : goal.code_answer-requires
code_answer-requires c =
    let fits = subst (λ (ps : List Param). Fits c.args.given.now (each type_of ps) (each array_data c.in-Ok.inputs.items)) c.params.ensures.params c.in-Ok.ensures.found in
    subst (λ (xs : List Array). length xs ≡ length c.args.code.now.params) (sym c.as_slice.ensures.value) (as_many c.args.code.now.params c.in-Ok.inputs.items fits.fits)

pub returns-in-Ok : goal.returns-in-Ok
returns-in-Ok c =
    let fits = subst (λ (ps : List Param). Fits c.args.given.now (each type_of ps) (each array_data c.in-Ok.inputs.items)) c.params.ensures.params c.in-Ok.ensures.found in
    told_further (HasCodeEnd c.args.how c.args.code.now c.args.budget (each array_data c.in-Ok.inputs.items)) (IsCodeDue c.args.how c.args.code.now c.args.given.now c.args.budget) c.code_answer.result
    (λ a end. fitting (each array_data c.in-Ok.inputs.items) fits end) (subst (λ (xs : List Array). TellsDue (HasCodeEnd c.args.how c.args.code.now c.args.budget (each array_data xs)) c.code_answer.result) c.as_slice.ensures.value c.code_answer.ensures)

pub returns-in-Err-Refused : goal.returns-in-Err-Refused
returns-in-Err-Refused c = rw c.in-Err-Refused.field-0-is (
  data_refused c.in-Err-Refused.number c.in-Err-Refused.span,
  unfit c.in-Err-Refused.number c.in-Err-Refused.span
      (subst (λ (ps : List Param). DataBlame c.args.given.now (each type_of ps) (c.in-Err-Refused.number, c.in-Err-Refused.span)) c.params.ensures.params
      (subst (λ (e : DataRefusal). IsDue c.args.given.now (each type_of (map param_of c.params.result.now)) e) c.in-Err-Refused.field-0-is c.in-Err-Refused.ensures.blame)) refl,
  refl,
)
