use Rattle.core_syntax.specs.Terms.{TNoCells}
use Rattle.substitution.proofs.rebuilt.no_cells.Goals as goal

pub returns : goal.returns
returns c = λ i. TNoCells (record { dims = c.in_ok-dims.ensures i; cell = c.in_ok-cell.ensures i })
