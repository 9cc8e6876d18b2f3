-- Array types whose atoms have a type of another form.
use Rattle.std.proofs.Common.{◌≡◌, subst, false}
use Rattle.core_syntax.specs.declared.span.Span.{Span}
use Rattle.core_syntax.specs.Syntax.{Index, Ty, BaseTy, TyVar, Fun, Forall, Pi, Sigma, Arr}
use Rattle.core_syntax.specs.Blame.{IsForall, IsPi, IsSigma}
use Rattle.type_check.specs.Forms.{is_forall, is_pi, is_sigma}

no_forall : (u : Ty) (at : Span) (s : Index) → false ≡ is_forall u → IsForall (Arr at u s) → ⊥
no_forall (Forall at' n t) at s e h = cc
no_forall (BaseTy at' b) at s e h = h
no_forall (TyVar at' k) at s e h = h
no_forall (Fun at' ts r) at s e h = h
no_forall (Pi at' ss t) at s e h = h
no_forall (Sigma at' ss t) at s e h = h
no_forall (Arr at' t i) at s e h = h

no_pi : (u : Ty) (at : Span) (s : Index) → false ≡ is_pi u → IsPi (Arr at u s) → ⊥
no_pi (Pi at' ss t) at s e h = cc
no_pi (BaseTy at' b) at s e h = h
no_pi (TyVar at' k) at s e h = h
no_pi (Fun at' ts r) at s e h = h
no_pi (Forall at' n t) at s e h = h
no_pi (Sigma at' ss t) at s e h = h
no_pi (Arr at' t i) at s e h = h

no_sigma : (u : Ty) (at : Span) (s : Index) → false ≡ is_sigma u → IsSigma (Arr at u s) → ⊥
no_sigma (Sigma at' ss t) at s e h = cc
no_sigma (BaseTy at' b) at s e h = h
no_sigma (TyVar at' k) at s e h = h
no_sigma (Fun at' ts r) at s e h = h
no_sigma (Forall at' n t) at s e h = h
no_sigma (Pi at' ss t) at s e h = h
no_sigma (Arr at' t i) at s e h = h

pub not_forall : (t u : Ty) (at : Span) (s : Index) → t ≡ Arr at u s → false ≡ is_forall u → IsForall t → ⊥
not_forall t u at s is e h = no_forall u at s e (subst IsForall is h)

pub not_pi : (t u : Ty) (at : Span) (s : Index) → t ≡ Arr at u s → false ≡ is_pi u → IsPi t → ⊥
not_pi t u at s is e h = no_pi u at s e (subst IsPi is h)

pub not_sigma : (t u : Ty) (at : Span) (s : Index) → t ≡ Arr at u s → false ≡ is_sigma u → IsSigma t → ⊥
not_sigma t u at s is e h = no_sigma u at s e (subst IsSigma is h)
