use Rattle.std.proofs.Common.{◌≡◌, ◌∙◌, ap, subst, IfOk}
use Rattle.core_syntax.specs.Lists.{each}
use Rattle.core_syntax.specs.Refine.{index_of}
use Rattle.core_syntax.specs.RefineTerms.{term_of}
use Rattle.core_syntax.specs.Terms.{TBoxed}
use Rattle.core_syntax.proofs.RowsOfTerms.{of_boxed}
use Rattle.typed_prims.specs.ArrayAnswers.{answer_is, gives_single}
use Rattle.typed_prims.proofs.boxes.boxed_content.Goals as goal

pub returns-in-Ok : goal.returns-in-Ok
returns-in-Ok c =
    subst (λ a. IfOk c.single.result (λ x. answer_is x ≡ gives_single a))
    (of_boxed c.args.indices c.args.content c.in-Ok.ty ∙ ap (TBoxed (each index_of c.args.indices) (term_of c.args.content)) c.in-Ok.ensures) c.single.ensures
