use Rattle.remora_driver.specs.Due.{IsSoakDue}
use Rattle.remora_driver.proofs.Called.{replied_due}
use Rattle.remora_driver.proofs.commands.soaked.Goals as goal

pub returns : goal.returns
returns c = replied_due (IsSoakDue c.args.count) c.soak.result c.replied.result c.soak.ensures c.replied.ensures
