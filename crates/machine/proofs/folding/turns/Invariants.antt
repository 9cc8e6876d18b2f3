use Rattle.std.proofs.Common.{◌-◌, ◌≡◌, ◌≤◌, ◌∷◌, List, drop}
use Rattle.core_syntax.specs.Arrays.{single}
use Rattle.array_values.specs.declared.value.Value.{Value}
use Rattle.machine_table.specs.declared.code.Block.{Block}
use Rattle.machine_table.specs.Machine as table
use Rattle.machine.specs.Scalars.{Leads, given_atom}
use Rattle.prim_kernels.specs.Deltas.{leading_cells}
use Rattle.machine.proofs.folding.turns.Given as goal

abbrev pub invariant-loop-place : goal.invariant-loop-place
invariant-loop-place l = record {
  least : l.next ≤ l.place;
  most : l.place ≤ l.end;
  leads : (blocks : List Block) (s : table.State Value) → Leads blocks (l.place - l.next) (table.Folding l.function (single (given_atom l.fn.first)) (drop l.next (leading_cells l.items.dims l.items.atoms)) ∷ s)
      (table.Folding l.function (single (given_atom l.accumulator)) (drop l.place (leading_cells l.items.dims l.items.atoms)) ∷ s);
}

abbrev pub decreases-loop-place : goal.decreases-loop-place
decreases-loop-place l = l.end - l.place
