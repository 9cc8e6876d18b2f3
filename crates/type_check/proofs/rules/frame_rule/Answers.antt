use Rattle.core_syntax.specs.Refine.{ty_of}
use Rattle.core_syntax.specs.Syntax.{Frame, more_exprs}
use Rattle.type_check.specs.Found.{Found}
use Rattle.type_check.specs.FoundParts.{FoundCells}
use Rattle.type_check.proofs.exits.RuleLemmas.{ruled_two}
use Rattle.type_check.proofs.rules.frame_rule.Goals as goal

pub returns : goal.returns
returns c = λ before e es mid f g.
    ruled_two before mid c.args.checker.now (Frame c.args.at c.args.dims.now (more_exprs e es)) (λ Γ. Found Γ e (ty_of c.args.ty.now)) (λ Γ. FoundCells Γ (ty_of c.args.ty.now) es) f g c.frame.result
    (λ Γ ns ms p q. c.frame.ensures Γ e es ns ms p q)
