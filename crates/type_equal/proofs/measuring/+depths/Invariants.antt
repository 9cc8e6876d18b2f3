use Rattle.std.proofs.Common.{◌≡◌, ◌-◌, ◌^◌, ◌≤◌, min, max, drop}
use Rattle.core_syntax.specs.Refine.{tys_of}
use Rattle.core_syntax.specs.NormTypes.{tys_depth}
use Rattle.type_equal.proofs.measuring.+depths.Given as goal

abbrev pub invariant-greatest_depth-loop-ty : goal.invariant-greatest_depth-loop-ty
invariant-greatest_depth-loop-ty l =
    record {
      within : l.greatest ≤ 2 ^ 64 - 1;
      counted : min (max l.greatest (tys_depth (tys_of (drop l.ty-index l.fn.types)))) (2 ^ 64 - 1) ≡ min (tys_depth (tys_of l.fn.types)) (2 ^ 64 - 1);
    }
