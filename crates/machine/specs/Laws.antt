-- The laws of when a code has ended, and of the arithmetic of frames.
use Rattle.std.specs.Prelude.{◌≡◌, ℕ, ◌*◌, ◌/◌, ◌<◌, ◌≤◌, ◌↔◌, List, ◌++◌, length, take, drop, Some, slice_get, MatchOption, true, false}
use Rattle.core_syntax.specs.Arrays.{array, all_prefixes, greatest}
use Rattle.core_syntax.specs.Lists.{Each, product}
use Rattle.array_values.specs.Values.{Array}
use Rattle.array_values.specs.declared.value.Value.{Value}
use Rattle.machine_table.specs.Codes.{Code}
use Rattle.machine_table.specs.Ends.{Ends}
use Rattle.machine_table.specs.Machine.{Outcome}
use Rattle.machine_table.specs.ValueRules.{value_rules}
use Rattle.machine_table.specs.Values.{cells_at}
use Rattle.machine.specs.Answers.{GoesOn}

-- a code on some arrays hasn't ended within n steps exactly where none of them is its end
abbrev pub GoesOnUntilEnd : Type 0
GoesOnUntilEnd = (c : Code) (inputs : List Array) (n : ℕ) → GoesOn c inputs n ↔ ((k : ℕ) (o : Outcome Value) → k ≤ n → Ends value_rules c inputs k o → ⊥)

-- the cell of an array over the frame f, at place j of a frame that goes on from f by rest: the one whose own place is the leading part of j
abbrev pub CellAtPlace : Type 0
CellAtPlace = (f rest c : List ℕ) (a : Array) (j : ℕ) → length a.atoms ≡ product f * product c → j < product (f ++ rest)
    → slice_get (cells_at (f ++ rest) f c a) j ≡ Some (array c (take (product c) (drop (j / product rest * product c) a.atoms)))

-- `greatest` is one of the frames that has all of them as prefixes, and nothing exactly where there is none
abbrev pub GreatestIsGreatest : Type 0
GreatestIsGreatest = (fs : List (List ℕ)) → MatchOption (greatest fs) (Each (λ F. all_prefixes fs F ≡ false) fs) (λ F. ((k : ℕ) × (slice_get fs k ≡ Some F)) × (all_prefixes fs F ≡ true))
