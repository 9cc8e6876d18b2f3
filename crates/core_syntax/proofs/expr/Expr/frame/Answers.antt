use Rattle.core_syntax.proofs.ExprRows.{form_of_frame}
use Rattle.core_syntax.proofs.expr.Expr.frame.Goals as goal

pub returns : goal.returns
returns c = form_of_frame c.args.at c.args.dims c.args.cells
