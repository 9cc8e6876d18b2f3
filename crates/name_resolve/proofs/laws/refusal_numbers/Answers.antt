use Rattle.name_resolve.proofs.MeaningLaws.{is_numbered}
use Rattle.name_resolve.proofs.laws.refusal_numbers.Goals as goal

pub returns : goal.returns
returns c = is_numbered
