use Rattle.std.proofs.Common.{ap, ◌∙◌}
use Rattle.core_syntax.specs.Refine.{indices_of}
use Rattle.core_syntax.specs.Syntax.{Dims, no_span}
use Rattle.core_syntax.proofs.TreeRows.{form_of_dims}
use Rattle.term_values.proofs.Kepts.{numbered}
use Rattle.term_values.proofs.indices.numbers.Goals as goal

pub returns : goal.returns
returns c =
    form_of_dims no_span c.from_vec.result ∙ ap (λ xs. Dims no_span (indices_of xs)) c.from_vec.ensures
    ∙ numbered c.args.dims.now c.loop-dim.parts.items c.loop-dim.dim-index c.loop-dim-test.false c.loop-dim.invariant
