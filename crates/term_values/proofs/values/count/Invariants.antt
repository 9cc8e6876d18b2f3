use Rattle.std.proofs.Common.{◌≡◌, ◌+◌, ◌^◌, take, min}
use Rattle.core_syntax.specs.Lists.{product}
use Rattle.term_values.proofs.values.count.Given as goal

abbrev pub invariant-loop-dim : goal.invariant-loop-dim
invariant-loop-dim l = l.count ≡ min (product (take l.dim-index l.dims)) (2 ^ 24 + 1)
