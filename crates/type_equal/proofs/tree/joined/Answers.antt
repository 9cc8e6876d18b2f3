use Rattle.std.proofs.Common.{◌∙◌, ap, arith}
use Rattle.core_syntax.specs.Refine.{indices_of}
use Rattle.core_syntax.specs.Syntax.{no_span}
use Rattle.core_syntax.specs.Syntax as syntax
use Rattle.core_syntax.proofs.TreeRows.{form_of_dims, form_of_join}
use Rattle.type_equal.proofs.PartsLemmas.{many_join, no_join}
use Rattle.type_equal.proofs.tree.joined.Goals as goal

pub returns-then-len-eq0 : goal.returns-then-len-eq0
returns-then-len-eq0 c =
    form_of_dims no_span c.from_vec.result ∙ ap (λ xs. syntax.Dims no_span (indices_of xs)) c.from_vec.ensures ∙ no_join c.args.parts.items (omega arith)

pub returns-then-len-gt1 : goal.returns-then-len-gt1
returns-then-len-gt1 c =
    form_of_join no_span c.from_vec-then-len-gt1.result ∙ ap (λ xs. syntax.Join no_span (indices_of xs)) c.from_vec-then-len-gt1.ensures
    ∙ many_join c.args.parts.items (omega arith)
