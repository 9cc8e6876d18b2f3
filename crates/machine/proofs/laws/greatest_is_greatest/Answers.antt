use Rattle.machine.proofs.Principal.{first_greatest}
use Rattle.machine.proofs.laws.greatest_is_greatest.Goals as goal

pub returns : goal.returns
returns c = λ fs. first_greatest fs fs
