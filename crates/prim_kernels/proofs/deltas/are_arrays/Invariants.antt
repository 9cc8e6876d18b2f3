use Rattle.std.proofs.Common.{take}
use Rattle.core_syntax.specs.Lists.{Each}
use Rattle.array_values.specs.Arrays.{IsArray}
use Rattle.prim_kernels.proofs.deltas.are_arrays.Given as goal

abbrev pub invariant-loop-array : goal.invariant-loop-array
invariant-loop-array l = Each IsArray (take l.array-index l.args)
