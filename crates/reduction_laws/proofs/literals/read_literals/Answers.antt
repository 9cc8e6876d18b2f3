use Rattle.std.proofs.Common.{subst}
use Rattle.core_syntax.specs.Lists.{Each}
use Rattle.core_syntax.specs.Refine.{expr_of}
use Rattle.core_syntax.specs.Literals.{ExprLiterals}
use Rattle.reduction_laws.proofs.programs.LiteralRows.{each_defs}
use Rattle.reduction_laws.proofs.literals.read_literals.Goals as goal

pub returns : goal.returns
returns c = (each_defs c.args.program.now.defs (subst (Each (λ d. ExprLiterals (expr_of d.value))) c.as_slice.ensures c.read_defs.ensures), c.read_expr.ensures)
