use Rattle.std.proofs.Common.{◌≡◌, ◌+◌, ◌-◌, ◌^◌, ◌≤◌, min, drop}
use Rattle.core_syntax.specs.Refine.{tys_of}
use Rattle.core_syntax.specs.NormTypes.{tys_size}
use Rattle.type_equal.proofs.measuring.+sizes.Given as goal

abbrev pub invariant-total_size-loop-ty : goal.invariant-total_size-loop-ty
invariant-total_size-loop-ty l =
    record {
      within : l.total ≤ 2 ^ 64 - 1;
      counted : min (l.total + tys_size (tys_of (drop l.ty-index l.fn.types))) (2 ^ 64 - 1) ≡ min (tys_size (tys_of l.fn.types)) (2 ^ 64 - 1);
    }
