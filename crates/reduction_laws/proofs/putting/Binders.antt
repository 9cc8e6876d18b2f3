-- Substitution and binders: the variables of a binder's list put in place, a type moved under binders, and closed types.
use Rattle.std.proofs.Common.{◌≡◌, refl, sym, ◌∙◌, ap, subst, ℕ, zero, suc, ◌+◌, ◌<◌, arith, List, [], ◌∷◌, length}
use mathlib.Core.Path.{fun_ext}
use Rattle.core_syntax.specs.declared.index.Sort.{Sort}
use Rattle.core_syntax.specs.declared.index.Sort.TheVariants as sort
use Rattle.core_syntax.specs.Syntax.{Index, Num, Var, Sum, Dims, Join, Indices, end, more, Ty, BaseTy, TyVar, Fun, Forall, Pi, Sigma, Arr, Tys, no_tys, more_tys}
use Rattle.core_syntax.specs.Lists.{onto, each}
use Rattle.core_syntax.specs.Sorts.{IsSorted, AreSorted}
use Rattle.core_syntax.specs.Kinds.{IsWellFormed, AreWellFormed}
use Rattle.core_syntax.specs.Typing.{times}
use Rattle.core_syntax.specs.Subst.{Fate, Keep, Put, Fates, kept, put_first, moved, under, under_n, in_place, index_under, index_put, indices_put, indices_under, same, ty_put, tys_put, ty_under_type, ty_under_index, fate_under_index, fates_under_index, with_types, with_indices}
use Rattle.reduction_laws.proofs.putting.Indices.{fate_then, index_put_renamed}
use Rattle.reduction_laws.proofs.putting.Types.{ty_put_renamed, ty_put_twice, ty_under_type_put, ty_under_index_put}
use Rattle.reduction_laws.proofs.putting.TermSubst.{index_kept, ty_kept, there, length-onto}

-- ---- lists

pub each-onto : {A B : Type 0} (f : A → B) (xs ys : List A) → each f (onto xs ys) ≡ onto (each f xs) (each f ys)
each-onto f [] ys = refl
each-onto f (x ∷ xs) ys = each-onto f xs (x ∷ ys)

pub length-each : {A B : Type 0} (f : A → B) (xs : List A) → length (each f xs) ≡ length xs
length-each f [] = refl
length-each f (x ∷ xs) = ap suc (length-each f xs)

pub length-reversed : {A : Type 0} (xs : List A) → length (onto xs []) ≡ length xs
length-reversed {A} xs = let e = length-onto xs (let none : List A = [] in none) in omega arith

-- ---- indices in the place of a binder's variables

module _ (σ : Fates Index) (τ : Fates Ty) where
  nothing_put : (f : Fate Index) → fate_then kept (index_put kept) f ≡ f
  nothing_put (Keep k) = refl
  nothing_put (Put i) = ap Put (index_kept i)

  nothing_put_ty : (f : Fate Ty) → fate_then kept (ty_put kept kept) f ≡ f
  nothing_put_ty (Keep k) = refl
  nothing_put_ty (Put t) = ap Put (ty_kept t)

  -- one index more
  one_more : (y : Index) (ys : List Index) (f : Fate Index) → fate_then (put_first (y ∷ ys)) (index_put (put_first (y ∷ ys))) (moved index_under f) ≡ fate_then (put_first ys) (index_put (put_first ys)) f
  one_more y ys (Keep k) = refl
  one_more y ys (Put i) = ap Put (index_put_renamed (put_first (y ∷ ys)) suc i)

  one_more_ty : (y : Index) (ys : List Index) (f : Fate Ty) → fate_then kept (ty_put (put_first (y ∷ ys)) kept) (fate_under_index f) ≡ fate_then kept (ty_put (put_first ys) kept) f
  one_more_ty y ys (Keep k) = refl
  one_more_ty y ys (Put t) = ap Put (ty_put_renamed (put_first (y ∷ ys)) kept suc same t)

  indices_meet : (xs : List Index) (k : ℕ) → fate_then σ (index_put σ) (put_first xs k) ≡ fate_then (put_first (each (index_put σ) xs)) (index_put (put_first (each (index_put σ) xs))) (indices_under (length xs) σ k)
  indices_meet [] k = sym (nothing_put (σ k))
  indices_meet (x ∷ xs) zero = refl
  indices_meet (x ∷ xs) (suc k) = indices_meet xs k ∙ sym (one_more (index_put σ x) (each (index_put σ) xs) (indices_under (length xs) σ k))

  types_meet : (ys : List Index) (k : ℕ) → τ k ≡ fate_then kept (ty_put (put_first ys) kept) (fates_under_index (length ys) τ k)
  types_meet [] k = sym (nothing_put_ty (τ k))
  types_meet (y ∷ ys) k = types_meet ys k ∙ sym (one_more_ty y ys (fates_under_index (length ys) τ k))

  put_first_indices : (xs : List Index) (t : Ty)
      → ty_put σ τ (ty_put (put_first xs) kept t) ≡ ty_put (put_first (each (index_put σ) xs)) kept (ty_put (indices_under (length xs) σ) (fates_under_index (length xs) τ) t)
  put_first_indices xs t =
      ty_put_twice σ τ (put_first xs) kept t
      ∙ (λ i. ty_put (fun_ext (indices_meet xs) i) (fun_ext met i) t)
      ∙ sym (ty_put_twice (put_first (each (index_put σ) xs)) kept (indices_under (length xs) σ) (fates_under_index (length xs) τ) t)
    where
      met : (k : ℕ) → τ k ≡ fate_then kept (ty_put (put_first (each (index_put σ) xs)) kept) (fates_under_index (length xs) τ k)
      met k = subst (λ n. τ k ≡ fate_then kept (ty_put (put_first (each (index_put σ) xs)) kept) (fates_under_index n τ k)) (length-each (index_put σ) xs) (types_meet (each (index_put σ) xs) k)

  pub put_with_indices : (is : List Index) (t : Ty) → ty_put σ τ (with_indices is t) ≡ with_indices (each (index_put σ) is) (ty_put (indices_under (length is) σ) (fates_under_index (length is) τ) t)
  put_with_indices is t =
      put_first_indices (onto is []) t
      ∙ (λ i. ty_put (put_first (each-onto (index_put σ) is [] i)) kept (ty_put (indices_under (length-reversed is i) σ) (fates_under_index (length-reversed is i) τ) t))

  -- ---- types in the place of a binder's variables

  one_type : (y : Ty) (ys : List Ty) (f : Fate Ty) → fate_then (put_first (y ∷ ys)) (ty_put kept (put_first (y ∷ ys))) (moved ty_under_type f) ≡ fate_then (put_first ys) (ty_put kept (put_first ys)) f
  one_type y ys (Keep k) = refl
  one_type y ys (Put t) = ap Put (ty_put_renamed kept (put_first (y ∷ ys)) same suc t)

  put_types_meet : (xs : List Ty) (k : ℕ) → fate_then τ (ty_put σ τ) (put_first xs k) ≡ fate_then (put_first (each (ty_put σ τ) xs)) (ty_put kept (put_first (each (ty_put σ τ) xs))) (under_n (length xs) ty_under_type τ k)
  put_types_meet [] k = sym (nothing_put_ty (τ k))
  put_types_meet (x ∷ xs) zero = refl
  put_types_meet (x ∷ xs) (suc k) = put_types_meet xs k ∙ sym (one_type (ty_put σ τ x) (each (ty_put σ τ) xs) (under_n (length xs) ty_under_type τ k))

  put_first_types : (xs : List Ty) (t : Ty) → ty_put σ τ (ty_put kept (put_first xs) t) ≡ ty_put kept (put_first (each (ty_put σ τ) xs)) (ty_put σ (under_n (length xs) ty_under_type τ) t)
  put_first_types xs t =
      ty_put_twice σ τ kept (put_first xs) t
      ∙ (λ i. ty_put (fun_ext (λ k. sym (nothing_put (σ k))) i) (fun_ext (put_types_meet xs) i) t)
      ∙ sym (ty_put_twice kept (put_first (each (ty_put σ τ) xs)) σ (under_n (length xs) ty_under_type τ) t)

  pub put_with_types : (us : List Ty) (t : Ty) → ty_put σ τ (with_types us t) ≡ with_types (each (ty_put σ τ) us) (ty_put σ (under_n (length us) ty_under_type τ) t)
  put_with_types us t =
      put_first_types (onto us []) t
      ∙ (λ i. ty_put kept (put_first (each-onto (ty_put σ τ) us [] i)) (ty_put σ (under_n (length-reversed us i) ty_under_type τ) t))

  -- ---- a type moved under binders

  pub put_times_index : (n : ℕ) (t : Ty) → ty_put (indices_under n σ) (fates_under_index n τ) (times n ty_under_index t) ≡ times n ty_under_index (ty_put σ τ t)
  put_times_index zero t = refl
  put_times_index (suc n) t = ty_under_index_put (indices_under n σ) (fates_under_index n τ) (times n ty_under_index t) ∙ ap ty_under_index (put_times_index n t)

  pub put_times_type : (n : ℕ) (t : Ty) → ty_put σ (under_n n ty_under_type τ) (times n ty_under_type t) ≡ times n ty_under_type (ty_put σ τ t)
  put_times_type zero t = refl
  put_times_type (suc n) t = ty_under_type_put σ (under_n n ty_under_type τ) (times n ty_under_type t) ∙ ap ty_under_type (put_times_type n t)

-- ---- a closed type stays as it is

-- the first n variables are kept
abbrev pub Keeps : {A : Type 0} → Fates A → ℕ → Type 0
Keeps σ n = (k : ℕ) → k < n → σ k ≡ Keep k

keeps_under : {A : Type 0} (f : A → A) (σ : Fates A) (n : ℕ) → Keeps σ n → Keeps (under f σ) (suc n)
keeps_under f σ n h zero lt = refl
keeps_under f σ n h (suc k) lt = ap (moved f) (h k (omega arith))

keeps_under_n : {A : Type 0} (m : ℕ) (f : A → A) (σ : Fates A) (n : ℕ) → Keeps σ n → Keeps (under_n m f σ) (m + n)
keeps_under_n zero f σ n h k lt = h k (omega arith)
keeps_under_n (suc m) f σ n h k lt = keeps_under f (under_n m f σ) (m + n) (keeps_under_n m f σ n h) k (omega arith)

keeps_types : (m : ℕ) (τ : Fates Ty) (n : ℕ) → Keeps τ n → Keeps (fates_under_index m τ) n
keeps_types zero τ n h k lt = h k lt
keeps_types (suc m) τ n h k lt = ap fate_under_index (keeps_types m τ n h k lt)

keeps_onto : (qs ss : List Sort) (σ : Fates Index) → Keeps σ (length ss) → Keeps (indices_under (length qs) σ) (length (onto qs ss))
keeps_onto qs ss σ h k lt = let e = length-onto qs ss in keeps_under_n (length qs) index_under σ (length ss) h k (omega arith)

mutual
  index_put_fixed : (σ : Fates Index) (ss : List Sort) (s : Sort) (i : Index) → Keeps σ (length ss) → IsSorted ss s i → index_put σ i ≡ i
  index_put_fixed σ ss s (Num at n) f h = refl
  index_put_fixed σ ss s (Var at k) f h = ap (in_place (Var at)) (f k (there ss k s h))
  index_put_fixed σ ss s (Sum at is) f h = ap (Sum at) (indices_put_fixed σ ss sort.Dim is f h.1)
  index_put_fixed σ ss s (Dims at is) f h = ap (Dims at) (indices_put_fixed σ ss sort.Dim is f h.1)
  index_put_fixed σ ss s (Join at is) f h = ap (Join at) (indices_put_fixed σ ss sort.Shape is f h.1)

  indices_put_fixed : (σ : Fates Index) (ss : List Sort) (s : Sort) (is : Indices) → Keeps σ (length ss) → AreSorted ss s is → indices_put σ is ≡ is
  indices_put_fixed σ ss s end f h = refl
  indices_put_fixed σ ss s (more i is) f h = λ j. more (index_put_fixed σ ss s i f h.0 j) (indices_put_fixed σ ss s is f h.1 j)

mutual
  ty_put_fixed : (σ : Fates Index) (τ : Fates Ty) (m : ℕ) (ss : List Sort) (t : Ty) → Keeps σ (length ss) → Keeps τ m → IsWellFormed m ss t → ty_put σ τ t ≡ t
  ty_put_fixed σ τ m ss (BaseTy at b) f g h = refl
  ty_put_fixed σ τ m ss (TyVar at k) f g h = ap (in_place (TyVar at)) (g k h)
  ty_put_fixed σ τ m ss (Fun at ts r) f g h = λ i. Fun at (tys_put_fixed σ τ m ss ts f g h.0 i) (ty_put_fixed σ τ m ss r f g h.1 i)
  ty_put_fixed σ τ m ss (Forall at n t) f g h = ap (Forall at n) (ty_put_fixed σ (under_n n ty_under_type τ) (n + m) ss t f (keeps_under_n n ty_under_type τ m g) h)
  ty_put_fixed σ τ m ss (Pi at qs t) f g h = ap (Pi at qs) (ty_put_fixed (indices_under (length qs) σ) (fates_under_index (length qs) τ) m (onto qs ss) t (keeps_onto qs ss σ f) (keeps_types (length qs) τ m g) h)
  ty_put_fixed σ τ m ss (Sigma at qs t) f g h = ap (Sigma at qs) (ty_put_fixed (indices_under (length qs) σ) (fates_under_index (length qs) τ) m (onto qs ss) t (keeps_onto qs ss σ f) (keeps_types (length qs) τ m g) h)
  ty_put_fixed σ τ m ss (Arr at t i) f g h = λ j. Arr at (ty_put_fixed σ τ m ss t f g h.2 j) (index_put_fixed σ ss sort.Shape i f h.1 j)

  tys_put_fixed : (σ : Fates Index) (τ : Fates Ty) (m : ℕ) (ss : List Sort) (ts : Tys) → Keeps σ (length ss) → Keeps τ m → AreWellFormed m ss ts → tys_put σ τ ts ≡ ts
  tys_put_fixed σ τ m ss no_tys f g h = refl
  tys_put_fixed σ τ m ss (more_tys t ts) f g h = λ i. more_tys (ty_put_fixed σ τ m ss t f g h.0 i) (tys_put_fixed σ τ m ss ts f g h.1 i)

no_variable : {A : Type 0} (σ : Fates A) → Keeps σ 0
no_variable σ k lt = absurd (omega arith)

pub closed_put : (σ : Fates Index) (τ : Fates Ty) (t : Ty) → IsWellFormed 0 [] t → ty_put σ τ t ≡ t
closed_put σ τ t h = ty_put_fixed σ τ 0 [] t (no_variable σ) (no_variable τ) h
