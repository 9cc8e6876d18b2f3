use Rattle.std.proofs.Common.{◌∙◌}
use Rattle.core_syntax.specs.Lists.{each}
use Rattle.core_syntax.specs.Refine.{index_of, ty_of}
use Rattle.core_syntax.specs.RefineTerms.{term_of}
use Rattle.core_syntax.specs.Terms.{TBoxed}
use Rattle.core_syntax.proofs.RowsOfTerms.{of_boxed}
use Rattle.typed_start.proofs.noted.boxed.Goals as goal

pub returns : goal.returns
returns c = of_boxed c.in_ok-indices.indices c.args.content c.in_ok-ty.ty ∙ (λ i. TBoxed (each index_of (c.in_ok-indices.ensures i)) (term_of c.args.content) (ty_of (c.in_ok-ty.ensures i)))
