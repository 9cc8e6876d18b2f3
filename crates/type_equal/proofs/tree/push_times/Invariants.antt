use Rattle.std.proofs.Common.{◌≡◌, ◌++◌, replicate}
use Rattle.core_syntax.specs.Lists.{each}
use Rattle.core_syntax.specs.Refine.{index_of}
use Rattle.core_syntax.specs.Nodes.{var}
use Rattle.type_equal.proofs.tree.push_times.Given as goal

abbrev pub invariant-loop-turn : goal.invariant-loop-turn
invariant-loop-turn l = each index_of l.parts.items ≡ each index_of l.initial.parts.items ++ replicate l.turn (var l.var)
