use Rattle.remora_driver.proofs.Tasks.{run_task_of, run_untasked}
use Rattle.remora_driver.proofs.task.run_task.Goals as goal

pub returns-in-Ok : goal.returns-in-Ok
returns-in-Ok c = run_task_of c.args.source.now c.args.budget c.in-Ok.code c.in-Ok.ensures

pub returns-in-Err : goal.returns-in-Err
returns-in-Err c = run_untasked c.args.source.now c.args.budget c.in-Err.refusal c.in-Err.ensures
