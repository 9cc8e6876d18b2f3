use Rattle.std.proofs.Common.{sym, subst}
use Rattle.core_syntax.specs.Refine.{ty_of}
use Rattle.core_syntax.specs.Syntax.{Boxed}
use Rattle.type_check.specs.Found.{FoundAtom}
use Rattle.type_check.proofs.rules.box_rule.Goals as goal

pub returns-in-Ok-clause-concludes : goal.returns-in-Ok-clause-concludes
returns-in-Ok-clause-concludes c = λ Γ at is t e ns o h p f.
    subst (λ u. FoundAtom Γ (Boxed at is e t) (ty_of u) ns) (sym c.into_ty.ensures.tree) (c.in-Ok.ensures Γ at is t e ns o h p f)
