use Rattle.std.proofs.Common.{◌≡◌, ◌++◌, take}
use Rattle.std.specs.List.{flat_map}
use Rattle.index_dims.proofs.CountLemmas.{tree_variables}
use Rattle.index_dims.proofs.counting.+push_variables.Given as goal

abbrev pub invariant-loop-part : goal.invariant-loop-part
invariant-loop-part l = l.variables.items ≡ l.initial.variables.items ++ flat_map tree_variables (take l.part-index l.part-items)
