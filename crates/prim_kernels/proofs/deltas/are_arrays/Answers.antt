use Rattle.array_values.specs.Arrays.{IsArray}
use Rattle.prim_kernels.proofs.Ready.{each_next, each_whole}
use Rattle.prim_kernels.proofs.deltas.are_arrays.Goals as goal

pub loop-array-preserved : goal.loop-array-preserved
loop-array-preserved c = each_next IsArray c.args.args.now c.loop-array.array-index c.array-item.result c.loop-array-test.true c.array-item.is c.dims-dims.ensures.array c.loop-array.invariant

pub returns : goal.returns
returns c = each_whole IsArray c.args.args.now c.loop-array.array-index c.loop-array-test.false c.loop-array.invariant
