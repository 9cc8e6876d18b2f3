-- The bodies of binders with types or indices in their variables' places.
use Rattle.std.proofs.Common.{◌≡◌, refl, sym, ◌∙◌, subst, ℕ, zero, suc, ◌+◌, arith, List, [], ◌∷◌, ◌++◌, length, Some}
use Rattle.std.specs.Prelude.{slice_get}
use Rattle.core_syntax.specs.declared.index.Sort.{Sort}
use Rattle.core_syntax.specs.declared.index.Sort.TheVariants as sort
use Rattle.core_syntax.specs.Syntax.{Index, Num, Var, Sum, Dims, Join, Indices, end, more, Ty, BaseTy, TyVar, Fun, Forall, Pi, Sigma, Arr, Tys, no_tys, more_tys}
use Rattle.core_syntax.specs.Lists.{onto, Each, EachTwo}
use Rattle.core_syntax.specs.Sorts.{IsSorted, AreSorted}
use Rattle.core_syntax.specs.Kinds.{IsWellFormed, AreWellFormed}
use Rattle.core_syntax.specs.Made.{HoldsArrays}
use Rattle.core_syntax.specs.Value.{Valuation, dim_val, dim_sum, dim_vals, shape_val, shape_join, SameShape, SameAt}
use Rattle.core_syntax.specs.TypeEqual.{Same, AllSame}
use Rattle.core_syntax.specs.Subst.{Put, Fates, kept, put_first, put_all, under, under_n, index_under, index_put, indices_under, ty_put, tys_put, ty_under_type, fates_under_index, with_types, with_indices}
use Rattle.core_syntax.specs.Typing.{Context, IsAtomType}
use Rattle.core_syntax.proofs.Equality.{same_refl, valued_by, dim_of_fate, shape_of_fate, shape_val-put}
use Rattle.core_syntax.proofs.Valued.{renumbered, moved_dim, moved_shape}
use Rattle.core_syntax.proofs.Unique.{some_is}
use Rattle.type_check.proofs.substitution.PutSorted.{under_inside, FatesSorted, FateFormed, FatesFormed, formed_put}
use Rattle.type_check.proofs.substitution.PutArrays.{FatesHold, holds_put}

-- ---- lists

pub onto_append : {A : Type 0} (xs ys zs : List A) → onto xs (ys ++ zs) ≡ onto xs ys ++ zs
onto_append [] ys zs = refl
onto_append (x ∷ xs) ys zs = onto_append xs (x ∷ ys) zs

length-onto : {A : Type 0} (xs ys : List A) → length (onto xs ys) ≡ length xs + length ys
length-onto [] ys = omega arith
length-onto (x ∷ xs) ys = omega (arith, length-onto xs (x ∷ ys))

two_onto : {A B : Type 0} (R : A → B → Type 0) (xs : List A) (ys : List B) (xs' : List A) (ys' : List B) → EachTwo R xs ys → EachTwo R xs' ys' → EachTwo R (onto xs xs') (onto ys ys')
two_onto R [] [] xs' ys' h k = k
two_onto R [] (y ∷ ys) xs' ys' h k = absurd h
two_onto R (x ∷ xs) [] xs' ys' h k = absurd h
two_onto R (x ∷ xs) (y ∷ ys) xs' ys' h k = two_onto R xs ys (x ∷ xs') (y ∷ ys') h.1 (h.0, k)

each_onto : {A : Type 0} (P : A → Type 0) (xs ys : List A) → Each P xs → Each P ys → Each P (onto xs ys)
each_onto P [] ys h k = k
each_onto P (x ∷ xs) ys h k = each_onto P xs (x ∷ ys) h.1 (h.0, k)

-- ---- what is put is sorted and formed

first_sorted : (ss outer : List Sort) (is : List Index) → EachTwo (IsSorted outer) ss is → FatesSorted (ss ++ outer) outer (put_first is)
first_sorted [] outer [] h k s e = e
first_sorted [] outer (i ∷ is) h k s e = absurd h
first_sorted (q ∷ ss) outer [] h k s e = absurd h
first_sorted (q ∷ ss) outer (i ∷ is) h zero s e = subst (λ s. IsSorted outer s i) (some_is q s e) h.0
first_sorted (q ∷ ss) outer (i ∷ is) h (suc k) s e = first_sorted ss outer is h.1 k s e

all_sorted : (ss outer : List Sort) (is : List Index) → EachTwo (IsSorted outer) ss is → FatesSorted (onto ss outer) outer (put_all is)
all_sorted ss outer is h =
    subst (λ all. FatesSorted all outer (put_all is)) (sym (onto_append ss [] outer)) (first_sorted (onto ss []) outer (onto is []) (two_onto (IsSorted outer) ss is [] [] h tt))

first_formed : (types : ℕ) (sorts : List Sort) (us : List Ty) → Each (λ u. FateFormed types sorts (Put u)) us → FatesFormed (length us + types) types sorts (put_first us)
first_formed types sorts [] h k lt = omega arith
first_formed types sorts (u ∷ us) h zero lt = h.0
first_formed types sorts (u ∷ us) h (suc k) lt = first_formed types sorts us h.1 k (omega arith)

all_formed : (types : ℕ) (sorts : List Sort) (us : List Ty) → Each (λ u. FateFormed types sorts (Put u)) us → FatesFormed (length us + types) types sorts (put_all us)
all_formed types sorts us h =
    subst (λ n. FatesFormed n types sorts (put_all us)) (omega (arith, length-onto us (let none : List Ty = [] in none))) (first_formed types sorts (onto us []) (each_onto (λ u. FateFormed types sorts (Put u)) us [] h tt))

first_hold : (us : List Ty) → Each HoldsArrays us → FatesHold (put_first us)
first_hold [] h k = tt
first_hold (u ∷ us) h zero = h.0
first_hold (u ∷ us) h (suc k) = first_hold us h.1 k

-- ---- instances are formed and hold array types in their places

pub with_types_formed : (Γ : Context) (us : List Ty) (b : Ty) → Each (IsAtomType Γ) us → IsWellFormed (length us + Γ.types) Γ.sorts b → IsWellFormed Γ.types Γ.sorts (with_types us b)
with_types_formed Γ us b h w = formed_put (length us + Γ.types) Γ.types Γ.sorts Γ.sorts kept (put_all us) (λ k s e. e) (all_formed Γ.types Γ.sorts us h) b w

pub with_indices_formed : (types : ℕ) (sorts ss : List Sort) (is : List Index) (b : Ty) → EachTwo (IsSorted sorts) ss is → IsWellFormed types (onto ss sorts) b → IsWellFormed types sorts (with_indices is b)
with_indices_formed types sorts ss is b h w = formed_put types types (onto ss sorts) sorts (put_all is) kept (all_sorted ss sorts is h) (λ k lt. lt) b w

pub with_types_holds : (us : List Ty) (b : Ty) → Each HoldsArrays us → HoldsArrays b → HoldsArrays (with_types us b)
with_types_holds us b h k = holds_put kept (put_all us) (first_hold (onto us []) (each_onto HoldsArrays us [] h tt)) b k

pub with_indices_holds : (is : List Index) (b : Ty) → HoldsArrays b → HoldsArrays (with_indices is b)
with_indices_holds is b h = holds_put (put_all is) kept (λ k. tt) b h

-- ---- indices of equal values give equal instances

-- two valuations that agree on the variables of these sorts
abbrev AgreeOn : List Sort → Valuation → Valuation → Type 0
AgreeOn ss v w = ((k : ℕ) → slice_get ss k ≡ Some sort.Dim → v.dim k ≡ w.dim k) × ((k : ℕ) → slice_get ss k ≡ Some sort.Shape → v.shape k ≡ w.shape k)

mutual
  dim_agrees : (ss : List Sort) (v w : Valuation) → AgreeOn ss v w → (i : Index) → IsSorted ss sort.Dim i → dim_val v i ≡ dim_val w i
  dim_agrees ss v w a (Num at n) h = refl
  dim_agrees ss v w a (Var at k) h = a.0 k h
  dim_agrees ss v w a (Sum at is) h = sum_agrees ss v w a is h.1
  dim_agrees ss v w a (Dims at is) h = refl
  dim_agrees ss v w a (Join at is) h = refl

  sum_agrees : (ss : List Sort) (v w : Valuation) → AgreeOn ss v w → (is : Indices) → AreSorted ss sort.Dim is → dim_sum v is ≡ dim_sum w is
  sum_agrees ss v w a end h = refl
  sum_agrees ss v w a (more i is) h = λ k. dim_agrees ss v w a i h.0 k + sum_agrees ss v w a is h.1 k

dims_agree : (ss : List Sort) (v w : Valuation) → AgreeOn ss v w → (is : Indices) → AreSorted ss sort.Dim is → dim_vals v is ≡ dim_vals w is
dims_agree ss v w a end h = refl
dims_agree ss v w a (more i is) h = λ k. dim_agrees ss v w a i h.0 k ∷ dims_agree ss v w a is h.1 k

mutual
  shape_agrees : (ss : List Sort) (v w : Valuation) → AgreeOn ss v w → (i : Index) → IsSorted ss sort.Shape i → shape_val v i ≡ shape_val w i
  shape_agrees ss v w a (Num at n) h = refl
  shape_agrees ss v w a (Var at k) h = a.1 k h
  shape_agrees ss v w a (Sum at is) h = refl
  shape_agrees ss v w a (Dims at is) h = dims_agree ss v w a is h.1
  shape_agrees ss v w a (Join at is) h = join_agrees ss v w a is h.1

  join_agrees : (ss : List Sort) (v w : Valuation) → AgreeOn ss v w → (is : Indices) → AreSorted ss sort.Shape is → shape_join v is ≡ shape_join w is
  join_agrees ss v w a end h = refl
  join_agrees ss v w a (more i is) h = λ k. shape_agrees ss v w a i h.0 k ++ join_agrees ss v w a is h.1 k

-- the fates of the variables of these sorts have equal values
record SameOn (ss : List Sort) (σ υ : Fates Index) : Type 0 where
  dims : (v : Valuation) (k : ℕ) → slice_get ss k ≡ Some sort.Dim → dim_of_fate v (σ k) ≡ dim_of_fate v (υ k)
  shapes : (v : Valuation) (k : ℕ) → slice_get ss k ≡ Some sort.Shape → shape_of_fate v (σ k) ≡ shape_of_fate v (υ k)

shape_same_on : (ss : List Sort) (σ υ : Fates Index) → SameOn ss σ υ → (i : Index) → IsSorted ss sort.Shape i → SameShape (index_put σ i) (index_put υ i)
shape_same_on ss σ υ s i h v = shape_val-put v σ i ∙ shape_agrees ss (valued_by v σ) (valued_by v υ) (s.dims v, s.shapes v) i h ∙ sym (shape_val-put v υ i)

same_on_under : (q : Sort) (ss : List Sort) (σ υ : Fates Index) → SameOn ss σ υ → SameOn (q ∷ ss) (under index_under σ) (under index_under υ)
same_on_under q ss σ υ s = record { dims = dims; shapes = shapes }
  where
    dims : (v : Valuation) (k : ℕ) → slice_get (q ∷ ss) k ≡ Some sort.Dim → dim_of_fate v (under index_under σ k) ≡ dim_of_fate v (under index_under υ k)
    dims v zero e = refl
    dims v (suc k) e = moved_dim v (σ k) ∙ s.dims (renumbered v suc) k e ∙ sym (moved_dim v (υ k))

    shapes : (v : Valuation) (k : ℕ) → slice_get (q ∷ ss) k ≡ Some sort.Shape → shape_of_fate v (under index_under σ k) ≡ shape_of_fate v (under index_under υ k)
    shapes v zero e = refl
    shapes v (suc k) e = moved_shape v (σ k) ∙ s.shapes (renumbered v suc) k e ∙ sym (moved_shape v (υ k))

same_on_onto : (qs ss : List Sort) (σ υ : Fates Index) → SameOn ss σ υ → SameOn (onto qs ss) (indices_under (length qs) σ) (indices_under (length qs) υ)
same_on_onto [] ss σ υ s = s
same_on_onto (q ∷ qs) ss σ υ s =
    subst (λ σ. SameOn (onto qs (q ∷ ss)) σ (indices_under (suc (length qs)) υ)) (under_inside (length qs) index_under σ)
    (subst (λ υ. SameOn (onto qs (q ∷ ss)) (indices_under (length qs) (under index_under σ)) υ) (under_inside (length qs) index_under υ)
    (same_on_onto qs (q ∷ ss) (under index_under σ) (under index_under υ) (same_on_under q ss σ υ s)))

mutual
  ty_same_on : (types : ℕ) (ss : List Sort) (σ υ : Fates Index) (τ : Fates Ty) → SameOn ss σ υ → (t : Ty) → IsWellFormed types ss t → Same (ty_put σ τ t) (ty_put υ τ t)
  ty_same_on types ss σ υ τ s (BaseTy at b) h = refl
  ty_same_on types ss σ υ τ s (TyVar at k) h = same_refl (ty_put σ τ (TyVar at k))
  ty_same_on types ss σ υ τ s (Fun at ts r) h = (tys_same_on types ss σ υ τ s ts h.0, ty_same_on types ss σ υ τ s r h.1)
  ty_same_on types ss σ υ τ s (Forall at n t) h = (refl, ty_same_on (n + types) ss σ υ (under_n n ty_under_type τ) s t h)
  ty_same_on types ss σ υ τ s (Pi at qs t) h =
      (refl, ty_same_on types (onto qs ss) (indices_under (length qs) σ) (indices_under (length qs) υ) (fates_under_index (length qs) τ) (same_on_onto qs ss σ υ s) t h)
  ty_same_on types ss σ υ τ s (Sigma at qs t) h =
      (refl, ty_same_on types (onto qs ss) (indices_under (length qs) σ) (indices_under (length qs) υ) (fates_under_index (length qs) τ) (same_on_onto qs ss σ υ s) t h)
  ty_same_on types ss σ υ τ s (Arr at t i) h = (ty_same_on types ss σ υ τ s t h.2, shape_same_on ss σ υ s i h.1)

  tys_same_on : (types : ℕ) (ss : List Sort) (σ υ : Fates Index) (τ : Fates Ty) → SameOn ss σ υ → (ts : Tys) → AreWellFormed types ss ts → AllSame (tys_put σ τ ts) (tys_put υ τ ts)
  tys_same_on types ss σ υ τ s no_tys h = tt
  tys_same_on types ss σ υ τ s (more_tys t ts) h = (ty_same_on types ss σ υ τ s t h.0, tys_same_on types ss σ υ τ s ts h.1)

-- indices that agree at these sorts, one by one
abbrev pub AllSameAt : List Sort → List Index → List Index → Type 0
AllSameAt [] [] [] = Unit {0}
AllSameAt (s ∷ ss) (i ∷ is) (j ∷ js) = SameAt s i j × AllSameAt ss is js
AllSameAt _ _ _ = ⊥

same_at_onto : (ss : List Sort) (is js : List Index) (ss' : List Sort) (is' js' : List Index) → AllSameAt ss is js → AllSameAt ss' is' js' → AllSameAt (onto ss ss') (onto is is') (onto js js')
same_at_onto [] [] [] ss' is' js' h k = k
same_at_onto (s ∷ ss) (i ∷ is) (j ∷ js) ss' is' js' h k = same_at_onto ss is js (s ∷ ss') (i ∷ is') (j ∷ js') h.1 (h.0, k)
same_at_onto _ _ _ ss' is' js' h k = absurd h

at_dim : (s : Sort) (i j : Index) (v : Valuation) → s ≡ sort.Dim → SameAt s i j → dim_val v i ≡ dim_val v j
at_dim sort.Dim i j v e h = h v
at_dim sort.Shape i j v e h = cc

at_shape : (s : Sort) (i j : Index) (v : Valuation) → s ≡ sort.Shape → SameAt s i j → shape_val v i ≡ shape_val v j
at_shape sort.Dim i j v e h = cc
at_shape sort.Shape i j v e h = h v

first_same : (ss outer : List Sort) (is js : List Index) → AllSameAt ss is js → SameOn (ss ++ outer) (put_first is) (put_first js)
first_same ss outer is js h = record { dims = λ v. dims v ss is js h; shapes = λ v. shapes v ss is js h }
  where
    dims : (v : Valuation) (ss : List Sort) (is js : List Index) → AllSameAt ss is js → (k : ℕ) → slice_get (ss ++ outer) k ≡ Some sort.Dim → dim_of_fate v (put_first is k) ≡ dim_of_fate v (put_first js k)
    dims v [] [] [] h k e = refl
    dims v (s ∷ ss) (i ∷ is) (j ∷ js) h zero e = at_dim s i j v (some_is s sort.Dim e) h.0
    dims v (s ∷ ss) (i ∷ is) (j ∷ js) h (suc k) e = dims v ss is js h.1 k e
    dims v _ _ _ h k e = absurd h

    shapes : (v : Valuation) (ss : List Sort) (is js : List Index) → AllSameAt ss is js → (k : ℕ) → slice_get (ss ++ outer) k ≡ Some sort.Shape → shape_of_fate v (put_first is k) ≡ shape_of_fate v (put_first js k)
    shapes v [] [] [] h k e = refl
    shapes v (s ∷ ss) (i ∷ is) (j ∷ js) h zero e = at_shape s i j v (some_is s sort.Shape e) h.0
    shapes v (s ∷ ss) (i ∷ is) (j ∷ js) h (suc k) e = shapes v ss is js h.1 k e
    shapes v _ _ _ h k e = absurd h

pub with_indices_same : (types : ℕ) (sorts ss : List Sort) (is js : List Index) (b : Ty) → AllSameAt ss is js → IsWellFormed types (onto ss sorts) b → Same (with_indices is b) (with_indices js b)
with_indices_same types sorts ss is js b h w =
    ty_same_on types (onto ss sorts) (put_all is) (put_all js) kept
    (subst (λ all. SameOn all (put_all is) (put_all js)) (sym (onto_append ss [] sorts)) (first_same (onto ss []) sorts (onto is []) (onto js []) (same_at_onto ss is js [] [] [] h tt))) b w
