use Rattle.std.proofs.Common.{◌≡◌, ◌^◌, ◌-◌, min, take}
use Rattle.core_syntax.specs.Refine.{indices_of}
use Rattle.core_syntax.specs.Typed.{closed}
use Rattle.core_syntax.specs.Value.{dim_sum}
use Rattle.term_values.proofs.indices.+number.Given as goal

abbrev pub invariant-sum-loop-part : goal.invariant-sum-loop-part
invariant-sum-loop-part l = l.sum ≡ min (dim_sum closed (indices_of (take l.part-index l.parts))) (2 ^ 64 - 1)
