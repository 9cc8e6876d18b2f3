use Rattle.std.proofs.Common.{◌≡◌, take}
use Rattle.core_syntax.specs.Lists.{each}
use Rattle.type_equal.specs.Counted.{count_of, clipped}
use Rattle.type_equal.specs.Put.{index_tree}
use Rattle.type_equal.proofs.tables.counts.Given as goal

abbrev pub invariant-loop-index : goal.invariant-loop-index
invariant-loop-index l = l.counts.items ≡ each (λ i. clipped (count_of (index_tree i))) (take l.index-index l.indices)
