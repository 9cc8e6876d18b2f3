use Rattle.std.proofs.Common.{◌≡◌, ◌+◌, ◌-◌, ◌^◌, ◌≤◌, min, drop}
use Rattle.core_syntax.specs.Linear.{coefs_total}
use Rattle.type_equal.proofs.tables.times.Given as goal

abbrev pub invariant-loop-coef : goal.invariant-loop-coef
invariant-loop-coef l =
    record {
      within : l.total ≤ 2 ^ 64 - 1;
      counted : min (l.total + coefs_total (drop l.coef-index l.coefs)) (2 ^ 64 - 1) ≡ min (coefs_total l.coefs) (2 ^ 64 - 1);
    }
