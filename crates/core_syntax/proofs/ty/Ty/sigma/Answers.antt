use Rattle.std.proofs.Common.{ap, ◌∙◌}
use Rattle.core_syntax.specs.Refine.{ty_of}
use Rattle.core_syntax.proofs.TyRows.{form_of_sigma}
use Rattle.core_syntax.specs.Syntax as syntax
use Rattle.core_syntax.proofs.ty.Ty.sigma.Goals as goal

pub returns : goal.returns
returns c = form_of_sigma c.args.at c.args.sorts c.in_ok-body.body ∙ ap (λ t. syntax.Sigma c.args.at c.args.sorts (ty_of t)) c.in_ok-body.ensures
