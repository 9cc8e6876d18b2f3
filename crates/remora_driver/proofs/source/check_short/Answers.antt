use Rattle.remora_driver.proofs.Sourced.{source_checked}
use Rattle.remora_driver.proofs.source.check_short.Goals as goal

pub returns-in-Ok : goal.returns-in-Ok
returns-in-Ok c = source_checked c.args.source.now c.in-Ok.program c.checked.result c.requires c.in-Ok.ensures c.checked.ensures
