use Rattle.std.proofs.Common.{◌∙◌}
use Rattle.core_syntax.specs.RefineTerms.{term_of}
use Rattle.core_syntax.specs.Terms.{TBoxed}
use Rattle.core_syntax.proofs.RowsOfTerms.{of_boxed}
use Rattle.substitution.proofs.rebuilt.boxed.Goals as goal

pub returns : goal.returns
returns c = of_boxed c.in_ok-indices.indices c.args.content c.in_ok-ty.ty ∙ (λ i. TBoxed (c.in_ok-indices.ensures i) (term_of c.args.content) (c.in_ok-ty.ensures i))
