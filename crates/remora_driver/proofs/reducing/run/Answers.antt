use Rattle.remora_driver.proofs.Reductions.{steps_print, ends_from}
use Rattle.remora_driver.proofs.reducing.run.Goals as goal

pub end_of-end-requires : goal.end_of-end-requires
end_of-end-requires c = steps_print c.args.closed c.args.budget c.reduce-next.result c.requires c.reduce-next.ensures

pub returns : goal.returns
returns c = ends_from c.args.closed c.args.budget c.reduce-next.result c.end_of-end.result c.reduce-next.ensures c.end_of-end.ensures
