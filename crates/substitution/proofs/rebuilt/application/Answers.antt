use Rattle.std.proofs.Common.{◌∙◌}
use Rattle.core_syntax.specs.RefineTerms.{term_of, terms_of}
use Rattle.core_syntax.specs.Terms.{TApp}
use Rattle.substitution.proofs.rebuilt.application.Goals as goal

pub returns : goal.returns
returns c = c.application.ensures ∙ (λ i. TApp (term_of c.args.function) (terms_of c.args.args.items) (c.in_ok-cells.ensures i) (c.in_ok-answer.ensures i))
