use Rattle.std.proofs.Common.{ap, ◌∙◌}
use Rattle.core_syntax.specs.Refine.{expr_of, ty_of, tys_of}
use Rattle.core_syntax.proofs.ExprRows.{form_of_fn}
use Rattle.core_syntax.specs.Syntax as syntax
use Rattle.core_syntax.proofs.expr.Atom.function.Goals as goal

pub returns : goal.returns
returns c = form_of_fn c.args.at c.args.inputs c.args.answer c.in_ok-body.body ∙ ap (λ e. syntax.Fn c.args.at (tys_of c.args.inputs) (ty_of c.args.answer) (expr_of e)) c.in_ok-body.ensures
