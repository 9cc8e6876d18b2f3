use Rattle.std.proofs.Common.{sym, subst, Err}
use Rattle.std.specs.Prelude.{IfOk}
use Rattle.remora_driver.specs.declared.errors.SourceRefusal.{SourceRefusal}
use Rattle.remora_driver.specs.Tasks.{Opens}
use Rattle.remora_driver.proofs.Tasks.{refused_opens}
use Rattle.remora_driver.proofs.commands.unopened.Goals as goal

pub returns-in-Refused : goal.returns-in-Refused
returns-in-Refused c =
    subst (λ (e : SourceRefusal). IfOk c.answered.result (λ b. Opens (Err e) b)) (sym c.in-Refused.is)
    (refused_opens c.in-Refused.number c.in-Refused.span c.refusal.result c.answered.result c.refusal.ensures c.answered.ensures)
