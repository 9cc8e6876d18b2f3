-- Maps and folds over scalars, and many steps at once.
use Rattle.std.specs.Prelude.{◌≡◌, ℕ, List, length, drop, Some}
use Rattle.core_syntax.specs.Arrays.{single}
use Rattle.core_syntax.specs.Lists.{each}
use Rattle.array_values.specs.declared.value.Value.{Value}
use Rattle.array_values.specs.declared.value.Value.TheVariants as atom
use Rattle.machine_table.specs.declared.code.Block.{Block}
use Rattle.machine_table.specs.Begins.{Place}
use Rattle.machine_table.specs.Machine as table
use Rattle.machine_table.specs.Machine.{Mapping}
use Rattle.machine_table.specs.ValueRules.{value_rules}
use Rattle.machine.specs.declared.scalars.Given.{Given}
use Rattle.machine.specs.declared.scalars.Given.TheVariants as given

-- the atom of a scalar that a primitive gives
abbrev pub given_atom : Given → Value
given_atom (given.Int z) = atom.Int z
given_atom (given.Bool b) = atom.Bool b

-- n steps lead from a state to another
abbrev pub Leads : List Block → ℕ → table.State Value → table.State Value → Type 0
Leads blocks n s t = table.from value_rules blocks n (table.Goes s) ≡ Some (table.Goes t)

-- a map whose results are these scalars, and whose places behind them are left
abbrev pub scalar_map : List ℕ → List (Place Value) → List Value → table.Activation Value
scalar_map F ps xs = Mapping F (each single xs) (drop (length xs) ps)
