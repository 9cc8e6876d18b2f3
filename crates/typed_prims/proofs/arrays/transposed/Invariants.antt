use Rattle.std.proofs.Common.{◌≡◌, ◌*◌}
use Rattle.core_syntax.specs.Arrays.{columns, runs}
use Rattle.core_syntax.specs.Lists.{each, joined, product}
use Rattle.typed_prims.proofs.arrays.transposed.Given as goal

abbrev pub invariant-loop-column : goal.invariant-loop-column
invariant-loop-column l = l.all.items ≡ joined (each joined (columns l.column (each (runs l.row_length (product l.cell)) (runs l.rows (l.row_length * product l.cell) l.atoms))))
