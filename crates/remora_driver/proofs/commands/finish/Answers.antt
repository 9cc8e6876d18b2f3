use Rattle.remora_driver.specs.Tasks.{IsTaskDue}
use Rattle.remora_driver.proofs.Called.{replied_due}
use Rattle.remora_driver.proofs.commands.finish.Goals as goal

pub returns : goal.returns
returns c = replied_due (IsTaskDue c.args.task.now c.args.given.now) c.answer.result c.replied.result c.answer.ensures c.replied.ensures
