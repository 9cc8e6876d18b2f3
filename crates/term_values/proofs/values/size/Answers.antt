use Rattle.std.proofs.Common.{◌^◌, ◌-◌, ◌∙◌}
use Rattle.term_values.proofs.Products.{counted_more, counted_all}
use Rattle.term_values.proofs.values.size.Goals as goal

pub loop-dim-preserved : goal.loop-dim-preserved
loop-dim-preserved c = c.saturating_mul-size.ensures ∙ counted_more c.args.dims.now c.loop-dim.dim-index (2 ^ 64 - 1) c.loop-dim.size c.loop-dim-test.true c.loop-dim.invariant

pub returns : goal.returns
returns c = counted_all c.args.dims.now c.loop-dim.dim-index (2 ^ 64 - 1) c.loop-dim.size c.loop-dim-test.false c.loop-dim.invariant
