use Rattle.std.proofs.Common.{◌≡◌, ap, subst, IfOk}
use Rattle.core_syntax.specs.Move.{Goes}
use Rattle.core_syntax.specs.RefineTerms.{term_of}
use Rattle.typed_prims.proofs.folds.goes.Goals as goal

pub returns-in-Ok : goal.returns-in-Ok
returns-in-Ok c = λ t h. ap Goes (subst (λ x. IfOk x (λ u. term_of u ≡ t)) c.in-Ok.is h)
