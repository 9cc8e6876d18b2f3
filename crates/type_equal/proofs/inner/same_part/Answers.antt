use Rattle.type_equal.proofs.SameLemmas.{normal_one}
use Rattle.type_equal.proofs.inner.same_part.Goals as goal

pub returns : goal.returns
returns c = λ p q. normal_one _ _ _ p q c.same_types.ensures
