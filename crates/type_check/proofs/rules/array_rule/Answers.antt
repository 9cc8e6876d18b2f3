use Rattle.core_syntax.specs.Refine.{ty_of}
use Rattle.core_syntax.specs.Syntax.{Array, more_atoms}
use Rattle.type_check.specs.Found.{FoundAtom}
use Rattle.type_check.specs.FoundParts.{FoundAtoms}
use Rattle.type_check.proofs.exits.RuleLemmas.{ruled_two}
use Rattle.type_check.proofs.rules.array_rule.Goals as goal

pub returns : goal.returns
returns c = λ before x xs mid f g.
    ruled_two before mid c.args.checker.now (Array c.args.at c.args.dims.now (more_atoms x xs)) (λ Γ. FoundAtom Γ x (ty_of c.args.ty.now)) (λ Γ. FoundAtoms Γ (ty_of c.args.ty.now) xs) f g c.literal.result
    (λ Γ ns ms p q. c.literal.ensures Γ x xs ns ms p q)
