use Rattle.remora_driver.proofs.RunsReduced as runs
use Rattle.remora_driver.proofs.laws.run_is_reduce.Goals as goal

pub returns : goal.returns
returns c = runs.run_is_reduce
