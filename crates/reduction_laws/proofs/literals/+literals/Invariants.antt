use Rattle.std.proofs.Common.{take}
use Rattle.core_syntax.specs.Refine.{exprs_of, atoms_of}
use Rattle.core_syntax.specs.Literals.{ExprsLiterals, AtomsLiterals}
use Rattle.reduction_laws.proofs.literals.+literals.Given as goal

abbrev pub invariant-read_exprs-loop-expr : goal.invariant-read_exprs-loop-expr
invariant-read_exprs-loop-expr l = ExprsLiterals (exprs_of (take l.expr-index l.exprs))

abbrev pub invariant-read_atoms-loop-atom : goal.invariant-read_atoms-loop-atom
invariant-read_atoms-loop-atom l = AtomsLiterals (atoms_of (take l.atom-index l.atoms))
