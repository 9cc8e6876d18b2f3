use Rattle.std.proofs.Common.{sym, subst}
use Rattle.remora_driver.specs.declared.task.Task.{Task}
use Rattle.remora_driver.specs.Calls.{TellsDue}
use Rattle.remora_driver.specs.Tasks.{IsTaskDue}
use Rattle.remora_driver.proofs.task.Task.answer.Goals as goal

pub returns-in-Run : goal.returns-in-Run
returns-in-Run c = subst (λ (t : Task). TellsDue (IsTaskDue t c.args.given.now) c.run_code.result) (sym c.in-Run.is) c.run_code.ensures

pub returns-in-Reduce : goal.returns-in-Reduce
returns-in-Reduce c = subst (λ (t : Task). TellsDue (IsTaskDue t c.args.given.now) c.reduce_checked.result) (sym c.in-Reduce.is) c.reduce_checked.ensures
