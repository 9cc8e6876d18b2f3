use Rattle.core_syntax.specs.Terms.{TNoAtoms}
use Rattle.substitution.proofs.rebuilt.no_atoms.Goals as goal

pub returns : goal.returns
returns c = λ i. TNoAtoms (c.in_ok-dims.ensures i) (c.in_ok-atom.ensures i)
