use Rattle.std.proofs.Common.{ap, ◌∙◌}
use Rattle.core_syntax.specs.Lists.{each}
use Rattle.core_syntax.specs.Refine.{expr_of, ty_of}
use Rattle.core_syntax.proofs.ExprRows.{form_of_type_app}
use Rattle.core_syntax.specs.Syntax as syntax
use Rattle.core_syntax.proofs.expr.Expr.type_application.Goals as goal

pub returns : goal.returns
returns c = form_of_type_app c.args.at c.in_ok-function.function c.args.types ∙ ap (λ f. syntax.TypeApp c.args.at (expr_of f) (each ty_of c.args.types)) c.in_ok-function.ensures
