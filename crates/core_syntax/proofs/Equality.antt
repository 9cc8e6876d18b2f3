-- Equality of types is an equivalence, and substitution keeps it.
use Rattle.std.proofs.Common.{◌≡◌, refl, subst, sym, ◌∙◌, ℕ, List, length}
use Rattle.core_syntax.specs.Syntax.{Index, Num, Var, Sum, Dims, Join, Indices, end, more, Ty, BaseTy, TyVar, Fun, Forall, Pi, Sigma, Arr, Tys, no_tys, more_tys}
use Rattle.core_syntax.specs.Value.{Valuation, dim_val, dim_sum, dim_vals, shape_val, shape_join, SameShape}
use Rattle.core_syntax.specs.TypeEqual.{Same, AllSame}
use Rattle.core_syntax.specs.Subst.{Fate, Keep, Put, Fates, under_n, in_place, index_put, indices_put, indices_under, ty_put, tys_put, ty_under_type, fates_under_index}

mutual
  pub same_refl : (t : Ty) → Same t t
  same_refl (BaseTy at b) = refl
  same_refl (TyVar at k) = refl
  same_refl (Fun at ts r) = (all_same_refl ts, same_refl r)
  same_refl (Forall at n t) = (refl, same_refl t)
  same_refl (Pi at ss t) = (refl, same_refl t)
  same_refl (Sigma at ss t) = (refl, same_refl t)
  same_refl (Arr at t i) = (same_refl t, λ v. refl)

  pub all_same_refl : (ts : Tys) → AllSame ts ts
  all_same_refl no_tys = tt
  all_same_refl (more_tys t ts) = (same_refl t, all_same_refl ts)

mutual
  pub same_sym : (t u : Ty) → Same t u → Same u t
  same_sym (BaseTy at b) (BaseTy at' c) h = sym h
  same_sym (TyVar at k) (TyVar at' l) h = sym h
  same_sym (Fun at ts r) (Fun at' us s) h = (all_same_sym ts us h.0, same_sym r s h.1)
  same_sym (Forall at n t) (Forall at' m u) h = (sym h.0, same_sym t u h.1)
  same_sym (Pi at ss t) (Pi at' rs u) h = (sym h.0, same_sym t u h.1)
  same_sym (Sigma at ss t) (Sigma at' rs u) h = (sym h.0, same_sym t u h.1)
  same_sym (Arr at t i) (Arr at' u j) h = (same_sym t u h.0, λ v. sym (h.1 v))
  same_sym _ _ h = absurd h

  pub all_same_sym : (ts us : Tys) → AllSame ts us → AllSame us ts
  all_same_sym no_tys no_tys h = tt
  all_same_sym (more_tys t ts) (more_tys u us) h = (same_sym t u h.0, all_same_sym ts us h.1)
  all_same_sym _ _ h = absurd h

mutual
  pub same_trans : (t u w : Ty) → Same t u → Same u w → Same t w
  same_trans (BaseTy at b) (BaseTy at' c) (BaseTy at'' d) h k = h ∙ k
  same_trans (TyVar at b) (TyVar at' c) (TyVar at'' d) h k = h ∙ k
  same_trans (Fun at ts r) (Fun at' us s) (Fun at'' ws q) h k = (all_same_trans ts us ws h.0 k.0, same_trans r s q h.1 k.1)
  same_trans (Forall at n t) (Forall at' m u) (Forall at'' l w) h k = (h.0 ∙ k.0, same_trans t u w h.1 k.1)
  same_trans (Pi at n t) (Pi at' m u) (Pi at'' l w) h k = (h.0 ∙ k.0, same_trans t u w h.1 k.1)
  same_trans (Sigma at n t) (Sigma at' m u) (Sigma at'' l w) h k = (h.0 ∙ k.0, same_trans t u w h.1 k.1)
  same_trans (Arr at t i) (Arr at' u j) (Arr at'' w l) h k = (same_trans t u w h.0 k.0, λ v. h.1 v ∙ k.1 v)
  same_trans (BaseTy at b) (BaseTy at' c) _ h k = absurd k
  same_trans (TyVar at b) (TyVar at' c) _ h k = absurd k
  same_trans (Fun at ts r) (Fun at' us s) _ h k = absurd k
  same_trans (Forall at n t) (Forall at' m u) _ h k = absurd k
  same_trans (Pi at n t) (Pi at' m u) _ h k = absurd k
  same_trans (Sigma at n t) (Sigma at' m u) _ h k = absurd k
  same_trans (Arr at t i) (Arr at' u j) _ h k = absurd k
  same_trans _ _ _ h k = absurd h

  pub all_same_trans : (ts us ws : Tys) → AllSame ts us → AllSame us ws → AllSame ts ws
  all_same_trans no_tys no_tys no_tys h k = tt
  all_same_trans (more_tys t ts) (more_tys u us) (more_tys w ws) h k = (same_trans t u w h.0 k.0, all_same_trans ts us ws h.1 k.1)
  all_same_trans no_tys no_tys _ h k = absurd k
  all_same_trans (more_tys t ts) (more_tys u us) _ h k = absurd k
  all_same_trans _ _ _ h k = absurd h

-- ---- the value of a substituted index

-- the number and the list that a fate of a variable stands for
abbrev pub dim_of_fate : Valuation → Fate Index → ℕ
dim_of_fate v (Keep k) = v.dim k
dim_of_fate v (Put i) = dim_val v i

abbrev pub shape_of_fate : Valuation → Fate Index → List ℕ
shape_of_fate v (Keep k) = v.shape k
shape_of_fate v (Put i) = shape_val v i

-- the valuation that a substitution makes of one
abbrev pub valued_by : Valuation → Fates Index → Valuation
valued_by v σ = record { dim = λ k. dim_of_fate v (σ k); shape = λ k. shape_of_fate v (σ k) }

dim_in_place : (v : Valuation) (at : Rattle.core_syntax.specs.declared.span.Span.Span) (f : Fate Index) → dim_val v (in_place (Var at) f) ≡ dim_of_fate v f
dim_in_place v at (Keep k) = refl
dim_in_place v at (Put i) = refl

shape_in_place : (v : Valuation) (at : Rattle.core_syntax.specs.declared.span.Span.Span) (f : Fate Index) → shape_val v (in_place (Var at) f) ≡ shape_of_fate v f
shape_in_place v at (Keep k) = refl
shape_in_place v at (Put i) = refl

mutual
  pub dim_val-put : (v : Valuation) (σ : Fates Index) (i : Index) → dim_val v (index_put σ i) ≡ dim_val (valued_by v σ) i
  dim_val-put v σ (Num at n) = refl
  dim_val-put v σ (Var at k) = dim_in_place v at (σ k)
  dim_val-put v σ (Sum at is) = dim_sum-put v σ is
  dim_val-put v σ (Dims at is) = refl
  dim_val-put v σ (Join at is) = refl

  pub dim_sum-put : (v : Valuation) (σ : Fates Index) (is : Indices) → dim_sum v (indices_put σ is) ≡ dim_sum (valued_by v σ) is
  dim_sum-put v σ end = refl
  dim_sum-put v σ (more i is) = rw (dim_val-put v σ i, dim_sum-put v σ is) refl

pub dim_vals-put : (v : Valuation) (σ : Fates Index) (is : Indices) → dim_vals v (indices_put σ is) ≡ dim_vals (valued_by v σ) is
dim_vals-put v σ end = refl
dim_vals-put v σ (more i is) = rw (dim_val-put v σ i, dim_vals-put v σ is) refl

mutual
  pub shape_val-put : (v : Valuation) (σ : Fates Index) (i : Index) → shape_val v (index_put σ i) ≡ shape_val (valued_by v σ) i
  shape_val-put v σ (Num at n) = refl
  shape_val-put v σ (Var at k) = shape_in_place v at (σ k)
  shape_val-put v σ (Sum at is) = refl
  shape_val-put v σ (Dims at is) = dim_vals-put v σ is
  shape_val-put v σ (Join at is) = shape_join-put v σ is

  pub shape_join-put : (v : Valuation) (σ : Fates Index) (is : Indices) → shape_join v (indices_put σ is) ≡ shape_join (valued_by v σ) is
  shape_join-put v σ end = refl
  shape_join-put v σ (more i is) = rw (shape_val-put v σ i, shape_join-put v σ is) refl

-- substitution of indices keeps shapes equal
pub same_shape-put : (σ : Fates Index) (i j : Index) → SameShape i j → SameShape (index_put σ i) (index_put σ j)
same_shape-put σ i j h v = shape_val-put v σ i ∙ h (valued_by v σ) ∙ sym (shape_val-put v σ j)

-- ---- substitution keeps types equal

same_fate : (at at' : Rattle.core_syntax.specs.declared.span.Span.Span) (f : Fate Ty) → Same (in_place (TyVar at) f) (in_place (TyVar at') f)
same_fate at at' (Keep k) = refl
same_fate at at' (Put t) = same_refl t

mutual
  pub same-put : (σ : Fates Index) (τ : Fates Ty) (t u : Ty) → Same t u → Same (ty_put σ τ t) (ty_put σ τ u)
  same-put σ τ (BaseTy at b) (BaseTy at' c) h = h
  same-put σ τ (TyVar at k) (TyVar at' l) h = subst (λ m. Same (in_place (TyVar at) (τ k)) (in_place (TyVar at') (τ m))) h (same_fate at at' (τ k))
  same-put σ τ (Fun at ts r) (Fun at' us s) h = (all_same-put σ τ ts us h.0, same-put σ τ r s h.1)
  same-put σ τ (Forall at n t) (Forall at' m u) h =
      (h.0, subst (λ m. Same (ty_put σ (under_n n ty_under_type τ) t) (ty_put σ (under_n m ty_under_type τ) u)) h.0 (same-put σ (under_n n ty_under_type τ) t u h.1))
  same-put σ τ (Pi at ss t) (Pi at' rs u) h =
      (h.0, subst (λ rs. Same (ty_put (indices_under (length ss) σ) (fates_under_index (length ss) τ) t) (ty_put (indices_under (length rs) σ) (fates_under_index (length rs) τ) u)) h.0 (same-put (indices_under (length ss) σ) (fates_under_index (length ss) τ) t u h.1))
  same-put σ τ (Sigma at ss t) (Sigma at' rs u) h =
      (h.0, subst (λ rs. Same (ty_put (indices_under (length ss) σ) (fates_under_index (length ss) τ) t) (ty_put (indices_under (length rs) σ) (fates_under_index (length rs) τ) u)) h.0 (same-put (indices_under (length ss) σ) (fates_under_index (length ss) τ) t u h.1))
  same-put σ τ (Arr at t i) (Arr at' u j) h = (same-put σ τ t u h.0, same_shape-put σ i j h.1)
  same-put σ τ _ _ h = absurd h

  pub all_same-put : (σ : Fates Index) (τ : Fates Ty) (ts us : Tys) → AllSame ts us → AllSame (tys_put σ τ ts) (tys_put σ τ us)
  all_same-put σ τ no_tys no_tys h = tt
  all_same-put σ τ (more_tys t ts) (more_tys u us) h = (same-put σ τ t u h.0, all_same-put σ τ ts us h.1)
  all_same-put σ τ _ _ h = absurd h
