use Rattle.std.proofs.Common.{◌≡◌, take}
use Rattle.core_syntax.specs.Lists.{Each}
use Rattle.type_check.proofs.one_by_one.FnSteps.{IsNormal}
use Rattle.type_check.proofs.functions.trees.Given as goal

abbrev pub invariant-loop-ty : goal.invariant-loop-ty
invariant-loop-ty l = (l.trees.items ≡ take l.ty-index l.types) × Each IsNormal l.trees.items
