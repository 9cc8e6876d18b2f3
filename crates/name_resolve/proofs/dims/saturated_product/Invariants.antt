use Rattle.std.proofs.Common.{◌≡◌, ◌-◌, ◌^◌, min, take}
use Rattle.core_syntax.specs.Lists.{product}
use Rattle.name_resolve.proofs.dims.saturated_product.Given as goal

abbrev pub invariant-loop-number : goal.invariant-loop-number
invariant-loop-number l = l.product ≡ min (product (take l.number-index l.numbers)) (2 ^ 64 - 1)
