use Rattle.core_syntax.specs.Terms.{TPrim}
use Rattle.substitution.proofs.rebuilt.primitive.Goals as goal

pub returns : goal.returns
returns c = λ i. TPrim c.args.primitive (c.in_ok-types.ensures i) (c.in_ok-indices.ensures i)
