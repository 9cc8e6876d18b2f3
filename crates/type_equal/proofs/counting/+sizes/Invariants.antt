use Rattle.std.proofs.Common.{◌≡◌, ◌+◌, ◌-◌, ◌^◌, ◌≤◌, min, drop}
use Rattle.core_syntax.specs.Refine.{tys_of}
use Rattle.type_equal.specs.Counted.{put_under, put_sizes}
use Rattle.type_equal.proofs.counting.+sizes.Given as goal

abbrev pub invariant-sizes_in-loop-ty : goal.invariant-sizes_in-loop-ty
invariant-sizes_in-loop-ty l =
    record {
      within : l.total ≤ 2 ^ 64 - 1;
      counted : min (l.total + put_sizes (put_under l.under.types l.sizes) (put_under l.under.indices l.counts) (tys_of (drop l.ty-index l.fn.types))) (2 ^ 64 - 1) ≡ min (put_sizes (put_under l.under.types l.sizes) (put_under l.under.indices l.counts) (tys_of l.fn.types)) (2 ^ 64 - 1);
    }
