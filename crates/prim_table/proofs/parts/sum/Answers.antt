use Rattle.std.proofs.Common.{ap, ◌∙◌}
use Rattle.core_syntax.specs.Refine.{indices_of}
use Rattle.core_syntax.specs.Syntax.{Sum, no_span}
use Rattle.core_syntax.proofs.TreeRows.{form_of_sum}
use Rattle.prim_table.proofs.parts.sum.Goals as goal

pub returns : goal.returns
returns c = form_of_sum no_span c.in_ok-parts.parts ∙ ap (λ is. Sum no_span (indices_of is)) c.in_ok-parts.ensures
