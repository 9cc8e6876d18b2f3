-- Renaming and substitution keep array types in their places.
use Rattle.std.proofs.Common.{refl, ℕ, zero, suc, length}
use Rattle.core_syntax.specs.declared.span.Span.{Span}
use Rattle.core_syntax.specs.Syntax.{Index, Ty, BaseTy, TyVar, Fun, Forall, Pi, Sigma, Arr, Tys, no_tys, more_tys}
use Rattle.core_syntax.specs.Made.{IsArray, HoldsArrays, AreArrays}
use Rattle.core_syntax.specs.Subst.{Fate, Keep, Put, Fates, moved, under, under_n, in_place, indices_under, past_n, same, ty_renamed, tys_renamed, ty_put, tys_put, ty_under_type, fate_under_index, fates_under_index}

pub array_renamed : (ρ τ : ℕ → ℕ) (t : Ty) → IsArray t → IsArray (ty_renamed ρ τ t)
array_renamed ρ τ (Arr at t i) h = refl
array_renamed ρ τ (BaseTy at b) h = h
array_renamed ρ τ (TyVar at k) h = h
array_renamed ρ τ (Fun at ts r) h = h
array_renamed ρ τ (Forall at n t) h = h
array_renamed ρ τ (Pi at ss t) h = h
array_renamed ρ τ (Sigma at ss t) h = h

mutual
  pub holds_renamed : (ρ τ : ℕ → ℕ) (t : Ty) → HoldsArrays t → HoldsArrays (ty_renamed ρ τ t)
  holds_renamed ρ τ (BaseTy at b) h = tt
  holds_renamed ρ τ (TyVar at k) h = tt
  holds_renamed ρ τ (Fun at ts r) h = (all_hold_renamed ρ τ ts h.0, array_renamed ρ τ r h.1, holds_renamed ρ τ r h.2)
  holds_renamed ρ τ (Forall at n t) h = (array_renamed ρ (past_n n τ) t h.0, holds_renamed ρ (past_n n τ) t h.1)
  holds_renamed ρ τ (Pi at ss t) h = (array_renamed (past_n (length ss) ρ) τ t h.0, holds_renamed (past_n (length ss) ρ) τ t h.1)
  holds_renamed ρ τ (Sigma at ss t) h = (array_renamed (past_n (length ss) ρ) τ t h.0, holds_renamed (past_n (length ss) ρ) τ t h.1)
  holds_renamed ρ τ (Arr at t i) h = holds_renamed ρ τ t h

  pub all_hold_renamed : (ρ τ : ℕ → ℕ) (ts : Tys) → AreArrays ts → AreArrays (tys_renamed ρ τ ts)
  all_hold_renamed ρ τ no_tys h = tt
  all_hold_renamed ρ τ (more_tys t ts) h = ((array_renamed ρ τ t h.0.0, holds_renamed ρ τ t h.0.1), all_hold_renamed ρ τ ts h.1)

-- what is put in a variable's place holds them too
abbrev pub FateHolds : Fate Ty → Type 0
FateHolds (Keep k) = Unit {0}
FateHolds (Put t) = HoldsArrays t

abbrev pub FatesHold : Fates Ty → Type 0
FatesHold τ = (k : ℕ) → FateHolds (τ k)

moved_holds : (f : Fate Ty) → FateHolds f → FateHolds (moved ty_under_type f)
moved_holds (Keep k) h = tt
moved_holds (Put t) h = holds_renamed same suc t h

under_holds : (τ : Fates Ty) → FatesHold τ → FatesHold (under ty_under_type τ)
under_holds τ h zero = tt
under_holds τ h (suc k) = moved_holds (τ k) (h k)

under_n_holds : (n : ℕ) (τ : Fates Ty) → FatesHold τ → FatesHold (under_n n ty_under_type τ)
under_n_holds zero τ h = h
under_n_holds (suc n) τ h = under_holds (under_n n ty_under_type τ) (under_n_holds n τ h)

index_holds : (f : Fate Ty) → FateHolds f → FateHolds (fate_under_index f)
index_holds (Keep k) h = tt
index_holds (Put t) h = holds_renamed suc same t h

indices_hold : (n : ℕ) (τ : Fates Ty) → FatesHold τ → FatesHold (fates_under_index n τ)
indices_hold zero τ h k = h k
indices_hold (suc n) τ h k = index_holds (fates_under_index n τ k) (indices_hold n τ h k)

pub array_put : (σ : Fates Index) (τ : Fates Ty) (t : Ty) → IsArray t → IsArray (ty_put σ τ t)
array_put σ τ (Arr at t i) h = refl
array_put σ τ (BaseTy at b) h = h
array_put σ τ (TyVar at k) h = cc
array_put σ τ (Fun at ts r) h = h
array_put σ τ (Forall at n t) h = h
array_put σ τ (Pi at ss t) h = h
array_put σ τ (Sigma at ss t) h = h

fate_holds : (at : Span) (f : Fate Ty) → FateHolds f → HoldsArrays (in_place (TyVar at) f)
fate_holds at (Keep k) h = tt
fate_holds at (Put t) h = h

mutual
  pub holds_put : (σ : Fates Index) (τ : Fates Ty) → FatesHold τ → (t : Ty) → HoldsArrays t → HoldsArrays (ty_put σ τ t)
  holds_put σ τ f (BaseTy at b) h = tt
  holds_put σ τ f (TyVar at k) h = fate_holds at (τ k) (f k)
  holds_put σ τ f (Fun at ts r) h = (all_hold_put σ τ f ts h.0, array_put σ τ r h.1, holds_put σ τ f r h.2)
  holds_put σ τ f (Forall at n t) h =
      (array_put σ (under_n n ty_under_type τ) t h.0, holds_put σ (under_n n ty_under_type τ) (under_n_holds n τ f) t h.1)
  holds_put σ τ f (Pi at ss t) h = (
    array_put (indices_under (length ss) σ) (fates_under_index (length ss) τ) t h.0,
    holds_put (indices_under (length ss) σ) (fates_under_index (length ss) τ) (indices_hold (length ss) τ f) t h.1,
  )
  holds_put σ τ f (Sigma at ss t) h = (
    array_put (indices_under (length ss) σ) (fates_under_index (length ss) τ) t h.0,
    holds_put (indices_under (length ss) σ) (fates_under_index (length ss) τ) (indices_hold (length ss) τ f) t h.1,
  )
  holds_put σ τ f (Arr at t i) h = holds_put σ τ f t h

  pub all_hold_put : (σ : Fates Index) (τ : Fates Ty) → FatesHold τ → (ts : Tys) → AreArrays ts → AreArrays (tys_put σ τ ts)
  all_hold_put σ τ f no_tys h = tt
  all_hold_put σ τ f (more_tys t ts) h = ((array_put σ τ t h.0.0, holds_put σ τ f t h.0.1), all_hold_put σ τ f ts h.1)
