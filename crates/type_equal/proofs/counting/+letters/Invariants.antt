use Rattle.std.proofs.Common.{◌≡◌, ◌+◌, ◌-◌, ◌^◌, ◌≤◌, min, drop}
use Rattle.core_syntax.specs.Refine.{indices_of}
use Rattle.type_equal.specs.Counted.{counts_of, put_under, put_all_letters}
use Rattle.type_equal.proofs.counting.+letters.Given as goal

abbrev pub invariant-all_letters_in-loop-part : goal.invariant-all_letters_in-loop-part
invariant-all_letters_in-loop-part l =
    record {
      within : l.total ≤ 2 ^ 64 - 1;
      counted : min (l.total + put_all_letters (counts_of (put_under l.under l.counts)) (indices_of (drop l.part-index l.fn.parts))) (2 ^ 64 - 1) ≡ min (put_all_letters (counts_of (put_under l.under l.counts)) (indices_of l.fn.parts)) (2 ^ 64 - 1);
    }
