use Rattle.core_syntax.proofs.OneBlame.{one_blame}
use Rattle.type_check.proofs.whole_programs.Complete.{typed_blame}
use Rattle.type_check.proofs.laws.refusals_of_programs.Goals as goal

pub returns : goal.returns
returns c = record { one = one_blame; measures = typed_blame }
