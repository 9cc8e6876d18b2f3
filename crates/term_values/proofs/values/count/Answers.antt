use Rattle.std.proofs.Common.{arith, ◌<◌, ◌∙◌, length, ◌^◌, ◌+◌, ◌*◌, ap, min}
use Rattle.term_values.proofs.Products.{counted_more, counted_all}
use Rattle.term_values.proofs.values.count.Goals as goal

pub loop-dim-preserved : goal.loop-dim-preserved
loop-dim-preserved c =
    let lt : c.loop-dim.dim-index < length c.args.dims.now = omega arith in
    c.min-count.ensures ∙ (ap (λ d. min (c.loop-dim.count * d) (2 ^ 24 + 1)) c.from.ensures ∙ counted_more c.args.dims.now c.loop-dim.dim-index (2 ^ 24 + 1) c.loop-dim.count lt c.loop-dim.invariant)

pub returns : goal.returns
returns c = counted_all c.args.dims.now c.loop-dim.dim-index (2 ^ 24 + 1) c.loop-dim.count c.loop-dim-test.false c.loop-dim.invariant
