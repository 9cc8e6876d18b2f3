use Rattle.remora_driver.proofs.Tasks.{reduce_task_of, reduce_untasked}
use Rattle.remora_driver.proofs.task.reduce_task.Goals as goal

pub returns-in-Ok : goal.returns-in-Ok
returns-in-Ok c = reduce_task_of c.args.source.now c.args.budget c.in-Ok.checked c.in-Ok.ensures

pub returns-in-Err : goal.returns-in-Err
returns-in-Err c = reduce_untasked c.args.source.now c.args.budget c.in-Err.refusal c.in-Err.ensures
