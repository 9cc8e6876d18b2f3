use Rattle.std.proofs.Common.{◌≡◌, drop}
use Rattle.core_syntax.specs.Refine.{indices_of}
use Rattle.type_equal.specs.Counted.{counts_of, put_under, put_any_large}
use Rattle.type_equal.proofs.counting.+large.Given as goal

abbrev pub invariant-any_large_in-loop-part : goal.invariant-any_large_in-loop-part
invariant-any_large_in-loop-part l =
    put_any_large (counts_of (put_under l.under l.counts)) (indices_of l.fn.parts) ≡ put_any_large (counts_of (put_under l.under l.counts)) (indices_of (drop l.part-index l.fn.parts))
