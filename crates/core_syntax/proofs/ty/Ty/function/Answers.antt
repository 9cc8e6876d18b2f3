use Rattle.std.proofs.Common.{ap, ◌∙◌}
use Rattle.core_syntax.specs.Refine.{ty_of, tys_of}
use Rattle.core_syntax.proofs.TyRows.{form_of_fun}
use Rattle.core_syntax.specs.Syntax as syntax
use Rattle.core_syntax.proofs.ty.Ty.function.Goals as goal

pub returns : goal.returns
returns c = form_of_fun c.args.at c.args.inputs c.in_ok-answer.answer ∙ ap (λ t. syntax.Fun c.args.at (tys_of c.args.inputs) (ty_of t)) c.in_ok-answer.ensures
