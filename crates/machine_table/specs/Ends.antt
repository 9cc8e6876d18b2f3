-- When a code ends, and how.
use Rattle.std.specs.Prelude.{ℕ, List}
use Rattle.core_syntax.specs.Arrays.{Arrayed}
use Rattle.machine_table.specs.Values.{ValueRules}
use Rattle.machine_table.specs.Codes.{Code}
use Rattle.machine_table.specs.Machine.{Outcome, EndsAt}

-- the n-th step of a code on these inputs, the last innermost, ends with that outcome
abbrev pub Ends : {A : Type 0} → ValueRules A → Code → (inputs : List (Arrayed A)) → (n : ℕ) → Outcome A → Type 0
Ends R c inputs n o = EndsAt R c.blocks inputs n o
