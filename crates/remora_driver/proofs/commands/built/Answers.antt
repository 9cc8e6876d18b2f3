use Rattle.std.proofs.Common.{subst}
use Rattle.remora_driver.specs.Calls.{RefusesBuild}
use Rattle.remora_driver.specs.Due.{refused}
use Rattle.remora_driver.proofs.Dues.{built_due}
use Rattle.remora_driver.proofs.commands.built.Goals as goal

pub returns-in-Err-Refused : goal.returns-in-Err-Refused
returns-in-Err-Refused c =
    built_due c.args.source.now (refused c.in-Err-Refused.number c.in-Err-Refused.span) c.refusal.result
    (subst (RefusesBuild c.args.source.now) c.in-Err-Refused.field-0-is c.in-Err-Refused.ensures.refused) c.refusal.ensures
