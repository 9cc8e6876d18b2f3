use Rattle.std.proofs.Common.{◌∙◌}
use Rattle.core_syntax.specs.RefineTerms.{terms_of}
use Rattle.core_syntax.specs.Terms.{TFrame}
use Rattle.substitution.proofs.rebuilt.frame.Goals as goal

pub returns : goal.returns
returns c = c.frame.ensures ∙ (λ i. TFrame (c.in_ok-dims.ensures i) (terms_of c.args.cells.items) (c.in_ok-cell.ensures i))
