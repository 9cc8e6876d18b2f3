use Rattle.std.proofs.Common.{◌∙◌, ap, arith}
use Rattle.core_syntax.specs.Refine.{indices_of}
use Rattle.core_syntax.specs.Syntax.{no_span}
use Rattle.core_syntax.specs.Syntax as syntax
use Rattle.core_syntax.proofs.TreeRows.{form_of_sum}
use Rattle.type_equal.proofs.PartsLemmas.{many_sum}
use Rattle.type_equal.proofs.tree.sum.Goals as goal

pub returns-then-len-gt1 : goal.returns-then-len-gt1
returns-then-len-gt1 c =
    form_of_sum no_span c.from_vec.result ∙ ap (λ xs. syntax.Sum no_span (indices_of xs)) c.from_vec.ensures ∙ many_sum c.args.parts.items (omega arith)
