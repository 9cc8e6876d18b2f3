use Rattle.std.proofs.Common.{◌∙◌}
use Rattle.core_syntax.specs.RefineTerms.{term_of}
use Rattle.core_syntax.specs.Terms.{TUnbox}
use Rattle.substitution.proofs.rebuilt.unboxing.Goals as goal

pub returns : goal.returns
returns c = c.unboxing.ensures ∙ (λ i. TUnbox (c.in_ok-sorts.ensures i) (term_of c.args.boxed) (term_of c.args.body) (c.in_ok-answer.ensures i))
