use Rattle.std.proofs.Common.{ap, ◌∙◌}
use Rattle.core_syntax.specs.Refine.{ty_of}
use Rattle.core_syntax.proofs.TyRows.{form_of_forall}
use Rattle.core_syntax.specs.Syntax as syntax
use Rattle.core_syntax.proofs.ty.Ty.forall.Goals as goal

pub returns : goal.returns
returns c = form_of_forall c.args.at c.args.count c.in_ok-body.body ∙ ap (λ t. syntax.Forall c.args.at c.args.count (ty_of t)) c.in_ok-body.ensures
