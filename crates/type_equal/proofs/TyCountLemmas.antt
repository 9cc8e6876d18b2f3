-- The measures of a type in which types and indices are put.
use Rattle.std.proofs.Common.{◌≡◌, ◌∙◌, refl, ap, ℕ, zero, suc, ◌+◌, max, length, Bool, false, ◌||◌}
use mathlib.Core.Path.{fun_ext}
use Rattle.core_syntax.specs.Syntax.{Index, Ty, BaseTy, TyVar, Fun, Forall, Pi, Sigma, Arr, Tys, no_tys, more_tys}
use Rattle.core_syntax.specs.Norm.{measured}
use Rattle.core_syntax.specs.NormTypes.{ty_size, tys_size, ty_depth, tys_depth, ty_has_large, tys_have_large, measure_ty}
use Rattle.core_syntax.specs.Subst.{Fate, Keep, Put, Fates, moved, under, under_n, in_place, past_n, ty_renamed, tys_renamed, ty_put, tys_put, same, ty_under_type, fate_under_index, fates_under_index, indices_under}
use Rattle.type_equal.specs.Counted.{as_it_is, put_size, put_sizes, put_large_ty, put_large_tys}
use Rattle.type_equal.proofs.CountLemmas.{counted, count_renamed, counted_under_n, letters_put, large_put}

-- ---- renaming counts nothing

mutual
  pub size_renamed : (ρ τ : ℕ → ℕ) (t : Ty) → ty_size (ty_renamed ρ τ t) ≡ ty_size t
  size_renamed ρ τ (BaseTy at b) = refl
  size_renamed ρ τ (TyVar at k) = refl
  size_renamed ρ τ (Fun at ts r) = λ i. 1 + (sizes_renamed ρ τ ts i + size_renamed ρ τ r i)
  size_renamed ρ τ (Forall at n t) = λ i. 1 + (n + size_renamed ρ (past_n n τ) t i)
  size_renamed ρ τ (Pi at ss t) = λ i. 1 + (length ss + size_renamed (past_n (length ss) ρ) τ t i)
  size_renamed ρ τ (Sigma at ss t) = λ i. 1 + (length ss + size_renamed (past_n (length ss) ρ) τ t i)
  size_renamed ρ τ (Arr at t s) = λ i. 1 + (size_renamed ρ τ t i + (1 + (count_renamed ρ s i).letters))

  sizes_renamed : (ρ τ : ℕ → ℕ) (ts : Tys) → tys_size (tys_renamed ρ τ ts) ≡ tys_size ts
  sizes_renamed ρ τ no_tys = refl
  sizes_renamed ρ τ (more_tys t ts) = λ i. size_renamed ρ τ t i + sizes_renamed ρ τ ts i

mutual
  pub depth_renamed : (ρ τ : ℕ → ℕ) (t : Ty) → ty_depth (ty_renamed ρ τ t) ≡ ty_depth t
  depth_renamed ρ τ (BaseTy at b) = refl
  depth_renamed ρ τ (TyVar at k) = refl
  depth_renamed ρ τ (Fun at ts r) = λ i. 1 + max (depths_renamed ρ τ ts i) (depth_renamed ρ τ r i)
  depth_renamed ρ τ (Forall at n t) = λ i. 1 + depth_renamed ρ (past_n n τ) t i
  depth_renamed ρ τ (Pi at ss t) = λ i. 1 + depth_renamed (past_n (length ss) ρ) τ t i
  depth_renamed ρ τ (Sigma at ss t) = λ i. 1 + depth_renamed (past_n (length ss) ρ) τ t i
  depth_renamed ρ τ (Arr at t s) = λ i. 1 + depth_renamed ρ τ t i

  depths_renamed : (ρ τ : ℕ → ℕ) (ts : Tys) → tys_depth (tys_renamed ρ τ ts) ≡ tys_depth ts
  depths_renamed ρ τ no_tys = refl
  depths_renamed ρ τ (more_tys t ts) = λ i. max (depth_renamed ρ τ t i) (depths_renamed ρ τ ts i)

mutual
  pub large_renamed : (ρ τ : ℕ → ℕ) (t : Ty) → ty_has_large (ty_renamed ρ τ t) ≡ ty_has_large t
  large_renamed ρ τ (BaseTy at b) = refl
  large_renamed ρ τ (TyVar at k) = refl
  large_renamed ρ τ (Fun at ts r) = λ i. larges_renamed ρ τ ts i || large_renamed ρ τ r i
  large_renamed ρ τ (Forall at n t) = large_renamed ρ (past_n n τ) t
  large_renamed ρ τ (Pi at ss t) = large_renamed (past_n (length ss) ρ) τ t
  large_renamed ρ τ (Sigma at ss t) = large_renamed (past_n (length ss) ρ) τ t
  large_renamed ρ τ (Arr at t s) = λ i. large_renamed ρ τ t i || (count_renamed ρ s i).large

  larges_renamed : (ρ τ : ℕ → ℕ) (ts : Tys) → tys_have_large (tys_renamed ρ τ ts) ≡ tys_have_large ts
  larges_renamed ρ τ no_tys = refl
  larges_renamed ρ τ (more_tys t ts) = λ i. large_renamed ρ τ t i || larges_renamed ρ τ ts i

pub measure_renamed : (ρ τ : ℕ → ℕ) (t : Ty) → measure_ty (ty_renamed ρ τ t) ≡ measure_ty t
measure_renamed ρ τ t = λ i. measured (large_renamed ρ τ t i) (size_renamed ρ τ t i) (depth_renamed ρ τ t i)

-- ---- sizes of what is put

abbrev pub sized : Fate Ty → Fate ℕ
sized (Keep k) = Keep k
sized (Put t) = Put (ty_size t)

sized_moved : (f : Fate Ty) → sized (moved ty_under_type f) ≡ moved as_it_is (sized f)
sized_moved (Keep k) = refl
sized_moved (Put t) = ap Put (size_renamed same suc t)

sized_under : (τ : Fates Ty) (k : ℕ) → sized (under ty_under_type τ k) ≡ under as_it_is (λ j. sized (τ j)) k
sized_under τ zero = refl
sized_under τ (suc k) = sized_moved (τ k)

pub sized_under_n : (n : ℕ) (τ : Fates Ty) → (λ (k : ℕ). sized (under_n n ty_under_type τ k)) ≡ under_n n as_it_is (λ k. sized (τ k))
sized_under_n zero τ = refl
sized_under_n (suc n) τ = fun_ext (sized_under (under_n n ty_under_type τ)) ∙ ap (under as_it_is) (sized_under_n n τ)

sized_under_index : (f : Fate Ty) → sized (fate_under_index f) ≡ sized f
sized_under_index (Keep k) = refl
sized_under_index (Put t) = ap Put (size_renamed suc same t)

sized_under_indices : (n : ℕ) (τ : Fates Ty) → ◌≡◌ {A = Fates ℕ} (λ k. sized (fates_under_index n τ k)) (λ k. sized (τ k))
sized_under_indices zero τ = refl
sized_under_indices (suc n) τ = fun_ext (λ k. sized_under_index (fates_under_index n τ k)) ∙ sized_under_indices n τ

at_size : (at : _) (f : Fate Ty) → ty_size (in_place (TyVar at) f) ≡ in_place (λ _. 1) (sized f)
at_size at (Keep k) = refl
at_size at (Put t) = refl

mutual
  pub size_put : (σ : Fates Index) (τ : Fates Ty) (t : Ty) → ty_size (ty_put σ τ t) ≡ put_size (λ k. sized (τ k)) (λ k. counted (σ k)) t
  size_put σ τ (BaseTy at b) = refl
  size_put σ τ (TyVar at k) = at_size at (τ k)
  size_put σ τ (Fun at ts r) = λ i. 1 + (sizes_put σ τ ts i + size_put σ τ r i)
  size_put σ τ (Forall at n t) = λ i. 1 + (n + (size_put σ (under_n n ty_under_type τ) t ∙ ap (λ υ. put_size υ (λ k. counted (σ k)) t) (sized_under_n n τ)) i)
  size_put σ τ (Pi at ss t) =
      λ i. 1 + (length ss + (size_put (indices_under (length ss) σ) (fates_under_index (length ss) τ) t ∙ λ j. put_size (sized_under_indices (length ss) τ j) (counted_under_n (length ss) σ j) t) i)
  size_put σ τ (Sigma at ss t) =
      λ i. 1 + (length ss + (size_put (indices_under (length ss) σ) (fates_under_index (length ss) τ) t ∙ λ j. put_size (sized_under_indices (length ss) τ j) (counted_under_n (length ss) σ j) t) i)
  size_put σ τ (Arr at t s) = λ i. 1 + (size_put σ τ t i + (1 + letters_put σ s i))

  sizes_put : (σ : Fates Index) (τ : Fates Ty) (ts : Tys) → tys_size (tys_put σ τ ts) ≡ put_sizes (λ k. sized (τ k)) (λ k. counted (σ k)) ts
  sizes_put σ τ no_tys = refl
  sizes_put σ τ (more_tys t ts) = λ i. size_put σ τ t i + sizes_put σ τ ts i

-- ---- large constants, where none is in the types that are put

abbrev pub fate_large : Fate Ty → Bool
fate_large (Keep k) = false
fate_large (Put t) = ty_has_large t

large_moved : (f : Fate Ty) → fate_large (moved ty_under_type f) ≡ fate_large f
large_moved (Keep k) = refl
large_moved (Put t) = large_renamed same suc t

large_under_index : (f : Fate Ty) → fate_large (fate_under_index f) ≡ fate_large f
large_under_index (Keep k) = refl
large_under_index (Put t) = large_renamed suc same t

abbrev pub NoneLarge : Fates Ty → Type 0
NoneLarge τ = (k : ℕ) → fate_large (τ k) ≡ false

none_under : (n : ℕ) (τ : Fates Ty) → NoneLarge τ → NoneLarge (under_n n ty_under_type τ)
none_under zero τ h k = h k
none_under (suc n) τ h zero = refl
none_under (suc n) τ h (suc k) = large_moved (under_n n ty_under_type τ k) ∙ none_under n τ h k

none_under_index : (n : ℕ) (τ : Fates Ty) → NoneLarge τ → NoneLarge (fates_under_index n τ)
none_under_index zero τ h k = h k
none_under_index (suc n) τ h k = large_under_index (fates_under_index n τ k) ∙ none_under_index n τ h k

at_large_ty : (at : _) (f : Fate Ty) → fate_large f ≡ false → ty_has_large (in_place (TyVar at) f) ≡ false
at_large_ty at (Keep k) h = refl
at_large_ty at (Put t) h = h

mutual
  pub large_put_ty : (σ : Fates Index) (τ : Fates Ty) (t : Ty) → NoneLarge τ → ty_has_large (ty_put σ τ t) ≡ put_large_ty (λ k. counted (σ k)) t
  large_put_ty σ τ (BaseTy at b) h = refl
  large_put_ty σ τ (TyVar at k) h = at_large_ty at (τ k) (h k)
  large_put_ty σ τ (Fun at ts r) h = λ i. larges_put_ty σ τ ts h i || large_put_ty σ τ r h i
  large_put_ty σ τ (Forall at n t) h = large_put_ty σ (under_n n ty_under_type τ) t (none_under n τ h)
  large_put_ty σ τ (Pi at ss t) h =
      large_put_ty (indices_under (length ss) σ) (fates_under_index (length ss) τ) t (none_under_index (length ss) τ h) ∙ ap (λ υ. put_large_ty υ t) (counted_under_n (length ss) σ)
  large_put_ty σ τ (Sigma at ss t) h =
      large_put_ty (indices_under (length ss) σ) (fates_under_index (length ss) τ) t (none_under_index (length ss) τ h) ∙ ap (λ υ. put_large_ty υ t) (counted_under_n (length ss) σ)
  large_put_ty σ τ (Arr at t s) h = λ i. large_put_ty σ τ t h i || large_put σ s i

  larges_put_ty : (σ : Fates Index) (τ : Fates Ty) (ts : Tys) → NoneLarge τ → tys_have_large (tys_put σ τ ts) ≡ put_large_tys (λ k. counted (σ k)) ts
  larges_put_ty σ τ no_tys h = refl
  larges_put_ty σ τ (more_tys t ts) h = λ i. large_put_ty σ τ t h i || larges_put_ty σ τ ts h i
