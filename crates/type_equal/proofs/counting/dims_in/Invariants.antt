use Rattle.std.proofs.Common.{◌≡◌, ◌+◌, ◌-◌, ◌^◌, ◌≤◌, min, drop}
use Rattle.core_syntax.specs.Refine.{indices_of}
use Rattle.type_equal.specs.Counted.{counts_of, put_under, put_dims}
use Rattle.type_equal.proofs.counting.dims_in.Given as goal

abbrev pub invariant-loop-part : goal.invariant-loop-part
invariant-loop-part l =
    record {
      within : l.total ≤ 2 ^ 64 - 1;
      counted : min (l.total + put_dims (counts_of (put_under l.under l.counts)) (indices_of (drop l.part-index l.fn.parts))) (2 ^ 64 - 1) ≡ min (put_dims (counts_of (put_under l.under l.counts)) (indices_of l.fn.parts)) (2 ^ 64 - 1);
    }
