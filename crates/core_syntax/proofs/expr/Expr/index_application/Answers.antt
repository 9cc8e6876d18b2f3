use Rattle.std.proofs.Common.{ap, ◌∙◌}
use Rattle.core_syntax.specs.Lists.{each}
use Rattle.core_syntax.specs.Refine.{expr_of, index_of}
use Rattle.core_syntax.proofs.ExprRows.{form_of_index_app}
use Rattle.core_syntax.specs.Syntax as syntax
use Rattle.core_syntax.proofs.expr.Expr.index_application.Goals as goal

pub returns : goal.returns
returns c = form_of_index_app c.args.at c.in_ok-function.function c.args.indices ∙ ap (λ f. syntax.IndexApp c.args.at (expr_of f) (each index_of c.args.indices)) c.in_ok-function.ensures
