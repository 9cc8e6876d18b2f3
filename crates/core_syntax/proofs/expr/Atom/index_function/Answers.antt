use Rattle.std.proofs.Common.{ap, ◌∙◌}
use Rattle.core_syntax.specs.Refine.{expr_of}
use Rattle.core_syntax.proofs.ExprRows.{form_of_index_fn}
use Rattle.core_syntax.specs.Syntax as syntax
use Rattle.core_syntax.proofs.expr.Atom.index_function.Goals as goal

pub returns : goal.returns
returns c = form_of_index_fn c.args.at c.args.sorts c.in_ok-body.body ∙ ap (λ e. syntax.IndexFn c.args.at c.args.sorts (expr_of e)) c.in_ok-body.ensures
