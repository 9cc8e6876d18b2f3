use Rattle.std.proofs.Common.{◌≡◌, take}
use Rattle.type_check.specs.Functions.{within_terms}
use Rattle.type_check.proofs.binders.enter_terms.Given as goal

abbrev pub invariant-loop-ty : goal.invariant-loop-ty
invariant-loop-ty l = l.checker ≡ within_terms (take l.ty-index l.types) l.initial.checker
