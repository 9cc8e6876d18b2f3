use Rattle.std.proofs.Common.{refl, subst, [], Err}
use Rattle.machine_table.specs.Codes.{Code}
use Rattle.remora_driver.specs.declared.errors.SourceRefusal.{SourceRefusal}
use Rattle.remora_driver.specs.Due.{refused, run_refused, runs, IsCodeDue, IsRunDue}
use Rattle.remora_driver.specs.Jobs.{usual_budget}
use Rattle.remora_driver.specs.Sources.{Compiles}
use Rattle.remora_driver.proofs.Called.{told_further}
use Rattle.remora_driver.proofs.soaking.run_told.Goals as goal

pub returns-in-Ok : goal.returns-in-Ok
returns-in-Ok c =
    let is = c.in-Ok.ensures in
    told_further (IsCodeDue c.args.how c.in-Ok.code [] usual_budget) (IsRunDue c.args.how c.args.source.now [] usual_budget) c.run_code.result
    (λ a due. runs is.program is.notes is.runs (subst (λ (code : Code). IsCodeDue c.args.how code [] usual_budget a) is.compiled due)) c.run_code.ensures

pub returns-in-Err-Refused : goal.returns-in-Err-Refused
returns-in-Err-Refused c = rw c.in-Err-Refused.field-0-is (
  refused c.in-Err-Refused.number c.in-Err-Refused.span,
  run_refused c.in-Err-Refused.number c.in-Err-Refused.span (subst (λ (e : SourceRefusal). Compiles c.args.source.now (Err e)) c.in-Err-Refused.field-0-is c.in-Err-Refused.ensures) refl,
  refl,
)
