use Rattle.std.proofs.Common.{◌≡◌, take}
use Rattle.core_syntax.specs.Lists.{each}
use Rattle.core_syntax.specs.Nodes.{number}
use Rattle.core_syntax.specs.Refine.{index_of}
use Rattle.term_values.proofs.indices.numbers.Given as goal

abbrev pub invariant-loop-dim : goal.invariant-loop-dim
invariant-loop-dim l = each index_of l.parts.items ≡ each (λ n. number n) (take l.dim-index l.dims)
