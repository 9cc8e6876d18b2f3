use Rattle.std.proofs.Common.{ap, ◌∙◌}
use Rattle.core_syntax.specs.Refine.{expr_of}
use Rattle.core_syntax.proofs.ExprRows.{form_of_type_fn}
use Rattle.core_syntax.specs.Syntax as syntax
use Rattle.core_syntax.proofs.expr.Atom.type_function.Goals as goal

pub returns : goal.returns
returns c = form_of_type_fn c.args.at c.args.count c.in_ok-body.body ∙ ap (λ e. syntax.TypeFn c.args.at c.args.count (expr_of e)) c.in_ok-body.ensures
