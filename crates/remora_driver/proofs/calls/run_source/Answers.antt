use Rattle.remora_driver.specs.declared.job.Job.TheVariants.{Run}
use Rattle.remora_driver.specs.declared.telling.Telling.TheVariants.{Value}
use Rattle.remora_driver.specs.Due.{IsRunDue}
use Rattle.remora_driver.proofs.Called.{told_unstuck}
use Rattle.remora_driver.proofs.Meant.{run_unstuck}
use Rattle.remora_driver.proofs.Tasks.{answers_due}
use Rattle.remora_driver.proofs.calls.run_source.Goals as goal

pub returns-clause-due : goal.returns-clause-due
returns-clause-due c = answers_due (Run c.args.budget) c.args.source.now c.args.given.now c.run_task.result c.answer_on.result c.run_task.ensures c.answer_on.ensures

pub returns-clause-unstuck : goal.returns-clause-unstuck
returns-clause-unstuck c =
    told_unstuck (IsRunDue Value c.args.source.now c.args.given.now c.args.budget) c.answer_on.result (λ kind due. run_unstuck c.args.source.now c.args.given.now c.args.budget kind due) (returns-clause-due c)
