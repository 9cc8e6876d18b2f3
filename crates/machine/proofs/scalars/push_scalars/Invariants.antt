use Rattle.std.proofs.Common.{◌-◌, ◌≡◌, ◌≤◌, ◌∷◌, List, length}
use Rattle.array_values.specs.declared.value.Value.{Value}
use Rattle.machine_table.specs.declared.code.Block.{Block}
use Rattle.machine_table.specs.Machine as table
use Rattle.machine.specs.Scalars.{Leads, scalar_map}
use Rattle.machine.specs.Works.{work_places_of}
use Rattle.machine.proofs.scalars.push_scalars.Given as goal

abbrev pub invariant-loop-place : goal.invariant-loop-place
invariant-loop-place l = record {
  here : length l.results.items ≡ l.place;
  least : l.given ≤ l.place;
  most : l.place ≤ l.end;
  none : l.place ≡ l.given → l.results.items ≡ l.fn.results.items;
  leads : (blocks : List Block) (s : table.State Value) → Leads blocks (l.place - l.given) (scalar_map l.frame (work_places_of l.frame l.function l.arguments) l.fn.results.items ∷ s) (scalar_map l.frame (work_places_of l.frame l.function l.arguments) l.results.items ∷ s);
}

abbrev pub decreases-loop-place : goal.decreases-loop-place
decreases-loop-place l = l.end - l.place
