use Rattle.std.proofs.Common.{sym, subst, Result}
use Rattle.std.specs.Prelude.{IfOk}
use Rattle.remora_driver.specs.declared.errors.SourceRefusal.{SourceRefusal}
use Rattle.remora_driver.specs.declared.task.Task.{Task}
use Rattle.remora_driver.specs.Tasks.{Opens}
use Rattle.remora_driver.proofs.commands.opened.Goals as goal

pub returns-in-Err : goal.returns-in-Err
returns-in-Err c = subst (λ (r : Result Task SourceRefusal). IfOk c.unopened.result (λ b. Opens r b)) (sym c.in-Err.is) c.unopened.ensures
