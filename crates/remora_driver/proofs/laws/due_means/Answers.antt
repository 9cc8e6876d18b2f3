use Rattle.remora_driver.proofs.Meant as meant
use Rattle.remora_driver.proofs.laws.due_means.Goals as goal

pub returns : goal.returns
returns c = meant.job_means
