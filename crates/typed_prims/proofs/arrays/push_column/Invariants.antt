use Rattle.std.proofs.Common.{◌≡◌, ◌*◌, ◌++◌}
use Rattle.core_syntax.specs.Arrays.{runs}
use Rattle.core_syntax.specs.Lists.{each, joined, product}
use Rattle.prim_kernels.specs.Kernels.{column_at}
use Rattle.typed_prims.proofs.arrays.push_column.Given as goal

abbrev pub invariant-loop-row : goal.invariant-loop-row
invariant-loop-row l = l.all.items ≡ l.fn.all.items ++ joined (column_at l.column (each (runs l.row_length (product l.cell)) (runs l.row (l.row_length * product l.cell) l.atoms)))
