-- What the definitions of meaning and of refusals come to.
use Rattle.name_resolve.specs.Laws.{MeansOneProgram, HasOneRefusal, MeansUnrefused, IsNumbered}
use Rattle.name_resolve.specs.Means.{program}
use Rattle.name_resolve.proofs.Numbers.{numbered}
use Rattle.name_resolve.proofs.TermNumbers.{program_n}

pub means_one_program : MeansOneProgram
means_one_program forms P Q h k = cc

pub has_one_refusal : HasOneRefusal
has_one_refusal forms r s h k = cc

pub means_unrefused : MeansUnrefused
means_unrefused forms P r h k = absurd (cc)

pub is_numbered : IsNumbered
is_numbered forms r h = numbered (program forms) r (program_n forms) h
