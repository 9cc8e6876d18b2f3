use Rattle.remora_driver.proofs.Tasks.{exec_task_of, exec_untasked}
use Rattle.remora_driver.proofs.task.exec_task.Goals as goal

pub returns-in-Ok : goal.returns-in-Ok
returns-in-Ok c = exec_task_of c.args.text.now c.args.budget c.in-Ok.code c.in-Ok.ensures.0 c.in-Ok.ensures.1

pub returns-in-Err : goal.returns-in-Err
returns-in-Err c = exec_untasked c.args.text.now c.args.budget c.in-Err.refusal c.in-Err.ensures
