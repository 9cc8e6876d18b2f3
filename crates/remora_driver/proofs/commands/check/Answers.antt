use Rattle.std.proofs.Common.{subst, Err}
use Rattle.std.proofs.Math.Logic.{∥∥₁_map}
use Rattle.core_syntax.specs.Refine.{ty_of}
use Rattle.core_syntax.specs.Wholes.{program_of}
use Rattle.remora_driver.specs.Sources.{ChecksSource}
use Rattle.remora_driver.proofs.Dues.{check_due, refused_check}
use Rattle.remora_driver.proofs.commands.check.Goals as goal

pub returns-in-Ok : goal.returns-in-Ok
returns-in-Ok c =
    check_due c.args.source.now (program_of c.in-Ok.checked.program) (ty_of c.in-Ok.checked.body) c.checked_answer.result c.in-Ok.ensures (∥∥₁_map c.in-Ok.checked.checked (λ x. x.result_has)) c.checked_answer.ensures

pub returns-in-Err-Refused : goal.returns-in-Err-Refused
returns-in-Err-Refused c =
    refused_check c.args.source.now c.in-Err-Refused.number c.in-Err-Refused.span c.refusal.result
    (subst (λ e. ChecksSource c.args.source.now (Err e)) c.in-Err-Refused.field-0-is c.in-Err-Refused.ensures) c.refusal.ensures
