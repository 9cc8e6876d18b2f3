use Rattle.std.proofs.Common.{take}
use Rattle.core_syntax.specs.Lists.{Each}
use Rattle.core_syntax.specs.Refine.{expr_of}
use Rattle.core_syntax.specs.Literals.{ExprLiterals}
use Rattle.reduction_laws.proofs.literals.read_defs.Given as goal

abbrev pub invariant-loop-def : goal.invariant-loop-def
invariant-loop-def l = Each (λ d. ExprLiterals (expr_of d.value)) (take l.def-index l.defs)
