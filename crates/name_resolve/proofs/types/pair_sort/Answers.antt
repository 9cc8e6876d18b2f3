use Rattle.name_resolve.specs.TypeForms.{sort_of}
use Rattle.name_resolve.proofs.ListLemmas.{no_pair}
use Rattle.name_resolve.proofs.Refusals.{is_refused}
use Rattle.name_resolve.proofs.types.pair_sort.Goals as goal

pub returns-in-None : goal.returns-in-None
returns-in-None c = is_refused _ 7 c.args.pair.now.at _ c.malformed.ensures (no_pair sort_of c.args.pair.now c.in-None.ensures)
