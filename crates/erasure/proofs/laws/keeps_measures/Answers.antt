use Rattle.erasure.proofs.bounded.MeasuredTerms.{program_fits}
use Rattle.erasure.proofs.laws.keeps_measures.Goals as goal

pub returns : goal.returns
returns c = program_fits
