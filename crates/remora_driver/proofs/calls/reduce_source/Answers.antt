use Rattle.remora_driver.specs.declared.job.Job.TheVariants.{Reduce}
use Rattle.remora_driver.specs.Due.{IsReduceDue}
use Rattle.remora_driver.proofs.Called.{told_unstuck}
use Rattle.remora_driver.proofs.Reductions.{reduce_unstuck}
use Rattle.remora_driver.proofs.Tasks.{answers_due}
use Rattle.remora_driver.proofs.calls.reduce_source.Goals as goal

pub returns-clause-due : goal.returns-clause-due
returns-clause-due c = answers_due (Reduce c.args.budget) c.args.source.now c.args.given.now c.reduce_task.result c.answer_on.result c.reduce_task.ensures c.answer_on.ensures

pub returns-clause-unstuck : goal.returns-clause-unstuck
returns-clause-unstuck c =
    told_unstuck (IsReduceDue c.args.source.now c.args.given.now c.args.budget) c.answer_on.result (λ kind due. reduce_unstuck c.args.source.now c.args.given.now c.args.budget kind due) (returns-clause-due c)
