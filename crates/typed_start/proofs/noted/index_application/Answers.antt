use Rattle.std.proofs.Common.{◌∙◌}
use Rattle.core_syntax.specs.Lists.{each}
use Rattle.core_syntax.specs.Refine.{index_of}
use Rattle.core_syntax.specs.RefineTerms.{term_of}
use Rattle.core_syntax.specs.Terms.{TIndexApp}
use Rattle.typed_start.proofs.noted.index_application.Goals as goal

pub returns : goal.returns
returns c = c.index_application.ensures ∙ (λ i. TIndexApp (term_of c.args.function) (each index_of (c.in_ok-indices.ensures i)) (c.in_ok-answer.ensures i))
