use Rattle.machine.proofs.Runs.{one_step}
use Rattle.machine.proofs.step.one.Goals as goal

pub returns-in-Ok-clause-next : goal.returns-in-Ok-clause-next
returns-in-Ok-clause-next c = λ blocks s e. one_step blocks c.args.stepped c.in-Ok.next s c.in-Ok.is e
