use Rattle.std.proofs.Common.{◌≡◌, ◌^◌, ◌-◌, ◌+◌, min, take}
use Rattle.core_syntax.specs.NormValue.{coefs_value}
use Rattle.value_text.specs.Answers.{inside}
use Rattle.value_text.specs.DataRead.{hidden}
use Rattle.value_text.proofs.hidden.sum.Given as goal

abbrev pub invariant-loop-coef : goal.invariant-loop-coef
invariant-loop-coef l = l.sum ≡ min (l.constant + coefs_value (hidden (inside l.hidden)) (take l.coef-index l.coefs)) (2 ^ 64 - 1)
