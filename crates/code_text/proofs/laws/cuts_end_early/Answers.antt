use Rattle.code_text.proofs.Verdicts.{cut_short}
use Rattle.code_text.proofs.laws.cuts_end_early.Goals as goal

pub returns : goal.returns
returns c = cut_short
