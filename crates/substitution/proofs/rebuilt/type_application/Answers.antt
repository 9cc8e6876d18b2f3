use Rattle.std.proofs.Common.{◌∙◌}
use Rattle.core_syntax.specs.RefineTerms.{term_of}
use Rattle.core_syntax.specs.Terms.{TTypeApp}
use Rattle.substitution.proofs.rebuilt.type_application.Goals as goal

pub returns : goal.returns
returns c = c.type_application.ensures ∙ (λ i. TTypeApp (term_of c.args.function) (c.in_ok-types.ensures i) (c.in_ok-answer.ensures i))
