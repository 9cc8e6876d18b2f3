use Rattle.std.proofs.Common.{◌^◌, ◌-◌, ◌∙◌}
use Rattle.prim_kernels.proofs.Products.{counted_more, counted_all}
use Rattle.prim_kernels.proofs.made.width.Goals as goal

pub loop-dim-preserved : goal.loop-dim-preserved
loop-dim-preserved c = c.saturating_mul-width.ensures ∙ counted_more c.args.cell.now c.loop-dim.dim-index (2 ^ 64 - 1) c.loop-dim.width c.loop-dim-test.true c.loop-dim.invariant

pub returns : goal.returns
returns c = counted_all c.args.cell.now c.loop-dim.dim-index (2 ^ 64 - 1) c.loop-dim.width c.loop-dim-test.false c.loop-dim.invariant
