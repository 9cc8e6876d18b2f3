use Rattle.remora_driver.specs.declared.job.Job.TheVariants.{Exec}
use Rattle.remora_driver.proofs.Tasks.{answers_due}
use Rattle.remora_driver.proofs.calls.exec.Goals as goal

pub returns : goal.returns
returns c = answers_due (Exec c.args.budget) c.args.code.now c.args.given.now c.exec_task.result c.answer_on.result c.exec_task.ensures c.answer_on.ensures
