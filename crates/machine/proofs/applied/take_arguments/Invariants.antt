use Rattle.std.proofs.Common.{◌≡◌, [], ◌++◌, drop, length, reverse}
use Rattle.core_syntax.specs.Lists.{each}
use Rattle.array_values.specs.Envs.{index_data}
use Rattle.machine_table.specs.Indices.{shape_under}
use Rattle.machine_table.specs.Machine.{pop}
use Rattle.machine.specs.Applied.{Fitting, array_of}
use Rattle.machine.proofs.applied.take_arguments.Given as goal

abbrev pub invariant-loop-rest : goal.invariant-loop-rest
invariant-loop-rest l = record {
  front : l.rest ++ drop (length l.rest) l.cells ≡ l.cells;
  popped : pop (length l.rest) (each array_of (reverse l.arguments.items)) (reverse l.left.items) ≡ pop (length l.cells) [] (reverse l.fn.operands.items);
  fits : Fitting l.fit (drop (length l.rest) (each (shape_under (each index_data l.indices)) l.cells)) (reverse l.arguments.items);
}

abbrev pub decreases-loop-rest : goal.decreases-loop-rest
decreases-loop-rest l = length l.rest
