use Rattle.std.proofs.Common.{ap, ◌∙◌}
use Rattle.core_syntax.specs.Refine.{expr_of, exprs_of}
use Rattle.core_syntax.proofs.ExprRows.{form_of_app}
use Rattle.core_syntax.specs.Syntax as syntax
use Rattle.core_syntax.proofs.expr.Expr.application.Goals as goal

pub returns : goal.returns
returns c = form_of_app c.args.at c.in_ok-function.function c.args.args ∙ ap (λ f. syntax.App c.args.at (expr_of f) (exprs_of c.args.args)) c.in_ok-function.ensures
