use Rattle.std.proofs.Common.{◌≡◌, drop}
use Rattle.core_syntax.specs.Refine.{indices_of}
use Rattle.type_equal.specs.Counted.{counts_of, put_under, put_large_dims}
use Rattle.type_equal.proofs.counting.any_large_dim.Given as goal

abbrev pub invariant-loop-part : goal.invariant-loop-part
invariant-loop-part l =
    put_large_dims (counts_of (put_under l.under l.counts)) (indices_of l.fn.parts) ≡ put_large_dims (counts_of (put_under l.under l.counts)) (indices_of (drop l.part-index l.fn.parts))
