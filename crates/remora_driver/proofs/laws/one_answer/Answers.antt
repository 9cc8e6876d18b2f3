use Rattle.remora_driver.proofs.OneDue.{one_due}
use Rattle.remora_driver.proofs.laws.one_answer.Goals as goal

pub returns : goal.returns
returns c = one_due
