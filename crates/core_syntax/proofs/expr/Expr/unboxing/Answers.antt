use Rattle.std.proofs.Common.{ap, ◌∙◌}
use Rattle.core_syntax.specs.Refine.{expr_of, ty_of}
use Rattle.core_syntax.proofs.ExprRows.{form_of_unbox}
use Rattle.core_syntax.specs.Syntax as syntax
use Rattle.core_syntax.proofs.expr.Expr.unboxing.Goals as goal

pub returns : goal.returns
returns c = form_of_unbox c.args.at c.args.count c.in_ok-content.content c.args.answer c.in_ok-body.body
    ∙ ap (λ e. syntax.Unbox c.args.at c.args.count (expr_of e) (ty_of c.args.answer) (expr_of c.in_ok-body.body)) c.in_ok-content.ensures
    ∙ ap (λ e. syntax.Unbox c.args.at c.args.count (expr_of c.args.content) (ty_of c.args.answer) (expr_of e)) c.in_ok-body.ensures
