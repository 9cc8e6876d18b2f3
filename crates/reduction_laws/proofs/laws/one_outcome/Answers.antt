use Rattle.reduction_laws.proofs.runs.Results.{has_outcome, has_one_outcome, ends_once, traps_once}
use Rattle.reduction_laws.proofs.laws.one_outcome.Goals as goal

pub returns : goal.returns
returns c = record { some = has_outcome; one = has_one_outcome; once = ends_once; trap = traps_once }
