use Rattle.std.proofs.Common.{ap, ◌∙◌}
use Rattle.core_syntax.specs.Lists.{each}
use Rattle.core_syntax.specs.Refine.{expr_of, ty_of, index_of}
use Rattle.core_syntax.proofs.ExprRows.{form_of_boxed}
use Rattle.core_syntax.specs.Syntax as syntax
use Rattle.core_syntax.proofs.expr.Atom.boxed.Goals as goal

pub returns : goal.returns
returns c = form_of_boxed c.args.at c.args.indices c.in_ok-content.content c.args.ty ∙ ap (λ e. syntax.Boxed c.args.at (each index_of c.args.indices) (expr_of e) (ty_of c.args.ty)) c.in_ok-content.ensures
