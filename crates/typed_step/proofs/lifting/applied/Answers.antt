use Rattle.std.proofs.Common.{◌∙◌}
use Rattle.core_syntax.specs.Lists.{each}
use Rattle.core_syntax.specs.Refine.{index_of, ty_of}
use Rattle.core_syntax.specs.RefineTerms.{term_of}
use Rattle.core_syntax.specs.Terms.{TApp}
use Rattle.typed_step.proofs.LiftTrees.{terms_listed}
use Rattle.typed_step.proofs.lifting.applied.Goals as goal

pub returns : goal.returns
returns c =
    c.application.ensures ∙ (λ i. TApp (term_of c.args.function) (terms_listed c.args.args.items i) (each index_of (c.in_ok-cells.ensures i)) (ty_of (c.in_ok-answer.ensures i)))
