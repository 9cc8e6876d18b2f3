-- The values of closed indices in the place of the indices: types stay equal.
use Rattle.std.proofs.Common.{◌≡◌, refl, sym, ◌∙◌, ap, subst, ℕ, zero, suc, List, [], ◌∷◌, length}
use Rattle.core_syntax.specs.declared.index.Sort.{Sort}
use Rattle.core_syntax.specs.Syntax.{Index, Num, Var, Sum, Dims, Join, Ty, BaseTy, TyVar, Fun, Forall, Pi, Sigma, Arr, Tys, no_tys, more_tys}
use Rattle.core_syntax.specs.Lists.{onto, each, Each, EachTwo}
use Rattle.core_syntax.specs.Sorts.{IsSorted}
use Rattle.core_syntax.specs.Value.{Valuation, dim_val, shape_val}
use Rattle.core_syntax.specs.TypeEqual.{Same, AllSame}
use Rattle.core_syntax.specs.Subst.{Fates, kept, put_first, under, under_n, in_place, index_under, indices_under, ty_put, tys_put, ty_under_type, fates_under_index, with_indices}
use Rattle.core_syntax.specs.Typed.{closed, closed_value, value_index}
use Rattle.core_syntax.proofs.Equality.{same_refl, valued_by, dim_of_fate, shape_of_fate, shape_val-put}
use Rattle.core_syntax.proofs.Valued.{renumbered, valuations, moved_dim, moved_shape}
use Rattle.reduction_laws.proofs.putting.Binders.{each-onto}
use Rattle.reduction_laws.proofs.putting.Rules.{two_map}
use Rattle.reduction_laws.proofs.steps.Parts.{closed_sum, closed_dims, closed_join, nowhere, numbers_val, numbers_sorted}

-- the index that stands for the value of a closed one
abbrev pub valued_index : Index → Index
valued_index i = value_index (closed_value i)

-- two indices with one value, at either sort
abbrev pub SameBoth : Index → Index → Type 0
SameBoth i j = (v : Valuation) → (dim_val v i ≡ dim_val v j) × (shape_val v i ≡ shape_val v j)

pub valued_same : (q : Sort) (i : Index) → IsSorted [] q i → SameBoth i (valued_index i)
valued_same q (Num at n) h v = (refl, refl)
valued_same q (Var at k) h v = absurd (nowhere k q h)
valued_same q (Sum at is) h v = (closed_sum is h.1 v closed, refl)
valued_same q (Dims at is) h v = (refl, closed_dims is h.1 v closed ∙ sym (numbers_val v (shape_val closed (Dims at is))))
valued_same q (Join at is) h v = (refl, closed_join is h.1 v closed ∙ sym (numbers_val v (shape_val closed (Join at is))))

pub valued_sorted : (q : Sort) (i : Index) → IsSorted [] q i → IsSorted [] q (valued_index i)
valued_sorted q (Num at n) h = h
valued_sorted q (Var at k) h = absurd (nowhere k q h)
valued_sorted q (Sum at is) h = h.0
valued_sorted q (Dims at is) h = (h.0, (numbers_sorted [] (shape_val closed (Dims at is))).1)
valued_sorted q (Join at is) h = (h.0, (numbers_sorted [] (shape_val closed (Join at is))).1)

-- ---- fates that say the same

-- two lists of fates put equal indices
pub record SameFates (σ σ' : Fates Index) : Type 0 where
  pub dims : (v : Valuation) (k : ℕ) → dim_of_fate v (σ k) ≡ dim_of_fate v (σ' k)
  pub shapes : (v : Valuation) (k : ℕ) → shape_of_fate v (σ k) ≡ shape_of_fate v (σ' k)

same_under : (σ σ' : Fates Index) → SameFates σ σ' → SameFates (under index_under σ) (under index_under σ')
same_under σ σ' s = record { dims = dims; shapes = shapes }
  where
    dims : (v : Valuation) (k : ℕ) → dim_of_fate v (under index_under σ k) ≡ dim_of_fate v (under index_under σ' k)
    dims v zero = refl
    dims v (suc k) = moved_dim v (σ k) ∙ s.dims (renumbered v suc) k ∙ sym (moved_dim v (σ' k))

    shapes : (v : Valuation) (k : ℕ) → shape_of_fate v (under index_under σ k) ≡ shape_of_fate v (under index_under σ' k)
    shapes v zero = refl
    shapes v (suc k) = moved_shape v (σ k) ∙ s.shapes (renumbered v suc) k ∙ sym (moved_shape v (σ' k))

same_under_n : (n : ℕ) (σ σ' : Fates Index) → SameFates σ σ' → SameFates (indices_under n σ) (indices_under n σ')
same_under_n zero σ σ' s = s
same_under_n (suc n) σ σ' s = same_under (indices_under n σ) (indices_under n σ') (same_under_n n σ σ' s)

mutual
  pub ty_same_fates : (σ σ' : Fates Index) (τ : Fates Ty) → SameFates σ σ' → (t : Ty) → Same (ty_put σ τ t) (ty_put σ' τ t)
  ty_same_fates σ σ' τ s (BaseTy at b) = refl
  ty_same_fates σ σ' τ s (TyVar at k) = same_refl (in_place (TyVar at) (τ k))
  ty_same_fates σ σ' τ s (Fun at ts r) = (tys_same_fates σ σ' τ s ts, ty_same_fates σ σ' τ s r)
  ty_same_fates σ σ' τ s (Forall at n t) = (refl, ty_same_fates σ σ' (under_n n ty_under_type τ) s t)
  ty_same_fates σ σ' τ s (Pi at ss t) = (refl, ty_same_fates (indices_under (length ss) σ) (indices_under (length ss) σ') (fates_under_index (length ss) τ) (same_under_n (length ss) σ σ' s) t)
  ty_same_fates σ σ' τ s (Sigma at ss t) = (refl, ty_same_fates (indices_under (length ss) σ) (indices_under (length ss) σ') (fates_under_index (length ss) τ) (same_under_n (length ss) σ σ' s) t)
  ty_same_fates σ σ' τ s (Arr at t i) =
      (ty_same_fates σ σ' τ s t, λ v. shape_val-put v σ i ∙ ap (λ w. shape_val w i) (valuations (valued_by v σ) (valued_by v σ') (s.dims v) (s.shapes v)) ∙ sym (shape_val-put v σ' i))

  tys_same_fates : (σ σ' : Fates Index) (τ : Fates Ty) → SameFates σ σ' → (ts : Tys) → AllSame (tys_put σ τ ts) (tys_put σ' τ ts)
  tys_same_fates σ σ' τ s no_tys = tt
  tys_same_fates σ σ' τ s (more_tys t ts) = (ty_same_fates σ σ' τ s t, tys_same_fates σ σ' τ s ts)

-- ---- a body with the values of indices in place

pub each_each : {A B C : Type 0} (f : B → C) (g : A → B) (xs : List A) → each f (each g xs) ≡ each (λ a. f (g a)) xs
each_each f g [] = refl
each_each f g (x ∷ xs) = ap (λ ys. f (g x) ∷ ys) (each_each f g xs)

first_same : (is : List Index) → Each (λ i. SameBoth i (valued_index i)) is → SameFates (put_first is) (put_first (each valued_index is))
first_same is h = record { dims = λ v k. dims v is k h; shapes = λ v k. shapes v is k h }
  where
    dims : (v : Valuation) (is : List Index) (k : ℕ) → Each (λ i. SameBoth i (valued_index i)) is → dim_of_fate v (put_first is k) ≡ dim_of_fate v (put_first (each valued_index is) k)
    dims v [] k h = refl
    dims v (i ∷ is) zero h = (h.0 v).0
    dims v (i ∷ is) (suc k) h = dims v is k h.1

    shapes : (v : Valuation) (is : List Index) (k : ℕ) → Each (λ i. SameBoth i (valued_index i)) is → shape_of_fate v (put_first is k) ≡ shape_of_fate v (put_first (each valued_index is) k)
    shapes v [] k h = refl
    shapes v (i ∷ is) zero h = (h.0 v).1
    shapes v (i ∷ is) (suc k) h = shapes v is k h.1

pub each_reversed : {A : Type 0} (P : A → Type 0) (xs ys : List A) → Each P xs → Each P ys → Each P (onto xs ys)
each_reversed P [] ys h k = k
each_reversed P (x ∷ xs) ys h k = each_reversed P xs (x ∷ ys) h.1 (h.0, k)

each_valued : (ss : List Sort) (is : List Index) → EachTwo (IsSorted []) ss is → Each (λ i. SameBoth i (valued_index i)) is
each_valued [] [] h = tt
each_valued [] (i ∷ is) h = absurd h
each_valued (s ∷ ss) [] h = absurd h
each_valued (s ∷ ss) (i ∷ is) h = (valued_same s i h.0, each_valued ss is h.1)

-- the values of index arguments, as indices
abbrev pub values_put : List Index → List Index
values_put is = each value_index (each closed_value is)

pub values_sorted : (ss : List Sort) (is : List Index) → EachTwo (IsSorted []) ss is → EachTwo (IsSorted []) ss (values_put is)
values_sorted ss is h = subst (EachTwo (IsSorted []) ss) (sym (each_each value_index closed_value is)) (two_map (IsSorted []) (IsSorted []) valued_index ss is valued_sorted h)

pub with_values : (ss : List Sort) (is : List Index) (t : Ty) → EachTwo (IsSorted []) ss is → Same (with_indices is t) (with_indices (values_put is) t)
with_values ss is t h =
    subst (λ js. Same (with_indices is t) (ty_put (put_first js) kept t)) (each-onto valued_index is [] ∙ ap (λ js. onto js []) (sym (each_each value_index closed_value is)))
    (ty_same_fates (put_first (onto is [])) (put_first (each valued_index (onto is []))) kept (first_same (onto is []) (each_reversed (λ i. SameBoth i (valued_index i)) is [] (each_valued ss is h) tt)) t)
