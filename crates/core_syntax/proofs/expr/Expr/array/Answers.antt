use Rattle.core_syntax.proofs.ExprRows.{form_of_array}
use Rattle.core_syntax.proofs.expr.Expr.array.Goals as goal

pub returns : goal.returns
returns c = form_of_array c.args.at c.args.dims c.args.atoms
