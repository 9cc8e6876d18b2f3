-- A type that is well made is in scope, as the kind of a type asks of it.
use Rattle.std.proofs.Common.{length}
use Rattle.core_syntax.specs.Syntax.{Ty, BaseTy, TyVar, Fun, Forall, Pi, Sigma, Arr, Tys, no_tys, more_tys}
use Rattle.core_syntax.specs.Made.{Scope, TyMade, ArraysMade, ArrayMade, TyInScope, TysInScope, types_more, indices_more}

mutual
  pub made_in_scope : (Γ : Scope) (t : Ty) → TyMade Γ t → TyInScope Γ.types Γ.indices t
  made_in_scope Γ (BaseTy at b) made = tt
  made_in_scope Γ (TyVar at k) made = made
  made_in_scope Γ (Fun at ts r) (some, inputs, array, output) = (arrays_in_scope Γ ts inputs, made_in_scope Γ r output)
  made_in_scope Γ (Forall at n t) (some, small, array, body) = (small.0, made_in_scope (types_more n Γ) t body)
  made_in_scope Γ (Pi at ss t) (some, small, array, body) = (small.1, made_in_scope (indices_more (length ss) Γ) t body)
  made_in_scope Γ (Sigma at ss t) (some, small, array, body) = (small.1, made_in_scope (indices_more (length ss) Γ) t body)
  made_in_scope Γ (Arr at t i) (elem, shape) = (made_in_scope Γ t elem, shape)

  pub arrays_in_scope : (Γ : Scope) (ts : Tys) → ArraysMade Γ ts → TysInScope Γ.types Γ.indices ts
  arrays_in_scope Γ no_tys made = tt
  arrays_in_scope Γ (more_tys t ts) (array, first, others) = (made_in_scope Γ t first, arrays_in_scope Γ ts others)

-- a type that is well made in an array type's place is in scope too
pub array_in_scope : (Γ : Scope) (t : Ty) → ArrayMade Γ t → TyInScope Γ.types Γ.indices t
array_in_scope Γ t made = made_in_scope Γ t made.1
