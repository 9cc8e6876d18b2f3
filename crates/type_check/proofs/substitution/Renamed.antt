-- Types with new numbers for their variables: one renaming behind another, equality, and array types in their places.
use Rattle.std.proofs.Common.{◌≡◌, refl, sym, ◌∙◌, ap, subst, ℕ, zero, suc, ◌+◌, ◌≤◌, arith, List, length, Some}
use Rattle.std.specs.Prelude.{slice_get}
use Rattle.core_syntax.specs.declared.index.Sort.{Sort}
use mathlib.Core.Path.{fun_ext}
use Rattle.core_syntax.specs.Syntax.{Index, Num, Var, Sum, Dims, Join, Indices, end, more, Ty, BaseTy, TyVar, Fun, Forall, Pi, Sigma, Arr, Tys, no_tys, more_tys}
use Rattle.core_syntax.specs.Kinds.{IsWellFormed}
use Rattle.core_syntax.specs.Made.{IsArray, HoldsArrays, AreArrays}
use Rattle.core_syntax.specs.Subst.{index_renamed, indices_renamed, past, past_n, same, ty_renamed, tys_renamed, ty_under_index, ty_under_type}
use Rattle.core_syntax.specs.TypeEqual.{Same, AllSame}
use Rattle.core_syntax.specs.Typing.{times}
use Rattle.core_syntax.proofs.Valued.{renumbered, shape_val-renamed}
use Rattle.type_check.specs.State.{further}
use Rattle.type_check.proofs.substitution.PutSorted.{formed_renamed}

past_twice : (ρ τ : ℕ → ℕ) → (λ (k : ℕ). past ρ (past τ k)) ≡ past (λ k. ρ (τ k))
past_twice ρ τ = fun_ext at
  where
    at : (k : ℕ) → past ρ (past τ k) ≡ past (λ k. ρ (τ k)) k
    at zero = refl
    at (suc k) = refl

past_n_twice : (n : ℕ) (ρ τ : ℕ → ℕ) → (λ (k : ℕ). past_n n ρ (past_n n τ k)) ≡ past_n n (λ k. ρ (τ k))
past_n_twice zero ρ τ = refl
past_n_twice (suc n) ρ τ = past_twice (past_n n ρ) (past_n n τ) ∙ ap past (past_n_twice n ρ τ)

mutual
  index_renamed_twice : (ρ τ : ℕ → ℕ) (i : Index) → index_renamed ρ (index_renamed τ i) ≡ index_renamed (λ k. ρ (τ k)) i
  index_renamed_twice ρ τ (Num at n) = refl
  index_renamed_twice ρ τ (Var at k) = refl
  index_renamed_twice ρ τ (Sum at is) = ap (Sum at) (indices_renamed_twice ρ τ is)
  index_renamed_twice ρ τ (Dims at is) = ap (Dims at) (indices_renamed_twice ρ τ is)
  index_renamed_twice ρ τ (Join at is) = ap (Join at) (indices_renamed_twice ρ τ is)

  indices_renamed_twice : (ρ τ : ℕ → ℕ) (is : Indices) → indices_renamed ρ (indices_renamed τ is) ≡ indices_renamed (λ k. ρ (τ k)) is
  indices_renamed_twice ρ τ end = refl
  indices_renamed_twice ρ τ (more i is) = λ k. more (index_renamed_twice ρ τ i k) (indices_renamed_twice ρ τ is k)

mutual
  pub ty_renamed_twice : (ρ τ ρ' τ' : ℕ → ℕ) (t : Ty) → ty_renamed ρ τ (ty_renamed ρ' τ' t) ≡ ty_renamed (λ k. ρ (ρ' k)) (λ k. τ (τ' k)) t
  ty_renamed_twice ρ τ ρ' τ' (BaseTy at b) = refl
  ty_renamed_twice ρ τ ρ' τ' (TyVar at k) = refl
  ty_renamed_twice ρ τ ρ' τ' (Fun at ts r) = λ i. Fun at (tys_renamed_twice ρ τ ρ' τ' ts i) (ty_renamed_twice ρ τ ρ' τ' r i)
  ty_renamed_twice ρ τ ρ' τ' (Forall at n t) = ap (Forall at n) (ty_renamed_twice ρ (past_n n τ) ρ' (past_n n τ') t ∙ ap (λ υ. ty_renamed (λ k. ρ (ρ' k)) υ t) (past_n_twice n τ τ'))
  ty_renamed_twice ρ τ ρ' τ' (Pi at ss t) = ap (Pi at ss) (ty_renamed_twice (past_n (length ss) ρ) τ (past_n (length ss) ρ') τ' t ∙ ap (λ υ. ty_renamed υ (λ k. τ (τ' k)) t) (past_n_twice (length ss) ρ ρ'))
  ty_renamed_twice ρ τ ρ' τ' (Sigma at ss t) = ap (Sigma at ss) (ty_renamed_twice (past_n (length ss) ρ) τ (past_n (length ss) ρ') τ' t ∙ ap (λ υ. ty_renamed υ (λ k. τ (τ' k)) t) (past_n_twice (length ss) ρ ρ'))
  ty_renamed_twice ρ τ ρ' τ' (Arr at t i) = λ j. Arr at (ty_renamed_twice ρ τ ρ' τ' t j) (index_renamed_twice ρ ρ' i j)

  tys_renamed_twice : (ρ τ ρ' τ' : ℕ → ℕ) (ts : Tys) → tys_renamed ρ τ (tys_renamed ρ' τ' ts) ≡ tys_renamed (λ k. ρ (ρ' k)) (λ k. τ (τ' k)) ts
  tys_renamed_twice ρ τ ρ' τ' no_tys = refl
  tys_renamed_twice ρ τ ρ' τ' (more_tys t ts) = λ i. more_tys (ty_renamed_twice ρ τ ρ' τ' t i) (tys_renamed_twice ρ τ ρ' τ' ts i)

past_as_it_is : past (λ k. k) ≡ (λ (k : ℕ). k)
past_as_it_is = fun_ext at
  where
    at : (k : ℕ) → past (λ k. k) k ≡ k
    at zero = refl
    at (suc k) = refl

past_n_as_it_is : (n : ℕ) → past_n n (λ k. k) ≡ (λ (k : ℕ). k)
past_n_as_it_is zero = refl
past_n_as_it_is (suc n) = ap past (past_n_as_it_is n) ∙ past_as_it_is

mutual
  index_renamed_same : (i : Index) → index_renamed (λ k. k) i ≡ i
  index_renamed_same (Num at n) = refl
  index_renamed_same (Var at k) = refl
  index_renamed_same (Sum at is) = ap (Sum at) (indices_renamed_same is)
  index_renamed_same (Dims at is) = ap (Dims at) (indices_renamed_same is)
  index_renamed_same (Join at is) = ap (Join at) (indices_renamed_same is)

  indices_renamed_same : (is : Indices) → indices_renamed (λ k. k) is ≡ is
  indices_renamed_same end = refl
  indices_renamed_same (more i is) = λ k. more (index_renamed_same i k) (indices_renamed_same is k)

mutual
  ty_renamed_same : (t : Ty) → ty_renamed (λ k. k) (λ k. k) t ≡ t
  ty_renamed_same (BaseTy at b) = refl
  ty_renamed_same (TyVar at k) = refl
  ty_renamed_same (Fun at ts r) = λ i. Fun at (tys_renamed_same ts i) (ty_renamed_same r i)
  ty_renamed_same (Forall at n t) = ap (Forall at n) (ap (λ τ. ty_renamed (λ k. k) τ t) (past_n_as_it_is n) ∙ ty_renamed_same t)
  ty_renamed_same (Pi at ss t) = ap (Pi at ss) (ap (λ ρ. ty_renamed ρ (λ k. k) t) (past_n_as_it_is (length ss)) ∙ ty_renamed_same t)
  ty_renamed_same (Sigma at ss t) = ap (Sigma at ss) (ap (λ ρ. ty_renamed ρ (λ k. k) t) (past_n_as_it_is (length ss)) ∙ ty_renamed_same t)
  ty_renamed_same (Arr at t i) = λ j. Arr at (ty_renamed_same t j) (index_renamed_same i j)

  tys_renamed_same : (ts : Tys) → tys_renamed (λ k. k) (λ k. k) ts ≡ ts
  tys_renamed_same no_tys = refl
  tys_renamed_same (more_tys t ts) = λ i. more_tys (ty_renamed_same t i) (tys_renamed_same ts i)

-- ---- equality, and array types

mutual
  pub same_renamed : (ρ τ : ℕ → ℕ) (t u : Ty) → Same t u → Same (ty_renamed ρ τ t) (ty_renamed ρ τ u)
  same_renamed ρ τ (BaseTy at b) (BaseTy at' c) h = h
  same_renamed ρ τ (TyVar at k) (TyVar at' l) h = ap τ h
  same_renamed ρ τ (Fun at ts r) (Fun at' us s) h = (all_same_renamed ρ τ ts us h.0, same_renamed ρ τ r s h.1)
  same_renamed ρ τ (Forall at n t) (Forall at' m u) h = (h.0, subst (λ k. Same (ty_renamed ρ (past_n n τ) t) (ty_renamed ρ (past_n k τ) u)) h.0 (same_renamed ρ (past_n n τ) t u h.1))
  same_renamed ρ τ (Pi at ss t) (Pi at' rs u) h = (h.0, subst (λ ks. Same (ty_renamed (past_n (length ss) ρ) τ t) (ty_renamed (past_n (length ks) ρ) τ u)) h.0 (same_renamed (past_n (length ss) ρ) τ t u h.1))
  same_renamed ρ τ (Sigma at ss t) (Sigma at' rs u) h = (h.0, subst (λ ks. Same (ty_renamed (past_n (length ss) ρ) τ t) (ty_renamed (past_n (length ks) ρ) τ u)) h.0 (same_renamed (past_n (length ss) ρ) τ t u h.1))
  same_renamed ρ τ (Arr at t i) (Arr at' u j) h = (same_renamed ρ τ t u h.0, λ v. shape_val-renamed v ρ i ∙ h.1 (renumbered v ρ) ∙ sym (shape_val-renamed v ρ j))
  same_renamed ρ τ _ _ h = absurd h

  pub all_same_renamed : (ρ τ : ℕ → ℕ) (ts us : Tys) → AllSame ts us → AllSame (tys_renamed ρ τ ts) (tys_renamed ρ τ us)
  all_same_renamed ρ τ no_tys no_tys h = tt
  all_same_renamed ρ τ (more_tys t ts) (more_tys u us) h = (same_renamed ρ τ t u h.0, all_same_renamed ρ τ ts us h.1)
  all_same_renamed ρ τ _ _ h = absurd h

pub array_renamed : (ρ τ : ℕ → ℕ) (t : Ty) → IsArray t → IsArray (ty_renamed ρ τ t)
array_renamed ρ τ (BaseTy at b) h = h
array_renamed ρ τ (TyVar at k) h = h
array_renamed ρ τ (Fun at ts r) h = h
array_renamed ρ τ (Forall at n t) h = h
array_renamed ρ τ (Pi at ss t) h = h
array_renamed ρ τ (Sigma at ss t) h = h
array_renamed ρ τ (Arr at t i) h = h

mutual
  pub arrays_renamed : (ρ τ : ℕ → ℕ) (t : Ty) → HoldsArrays t → HoldsArrays (ty_renamed ρ τ t)
  arrays_renamed ρ τ (BaseTy at b) h = tt
  arrays_renamed ρ τ (TyVar at k) h = tt
  arrays_renamed ρ τ (Fun at ts r) h = (all_arrays_renamed ρ τ ts h.0, array_renamed ρ τ r h.1, arrays_renamed ρ τ r h.2)
  arrays_renamed ρ τ (Forall at n t) h = (array_renamed ρ (past_n n τ) t h.0, arrays_renamed ρ (past_n n τ) t h.1)
  arrays_renamed ρ τ (Pi at ss t) h = (array_renamed (past_n (length ss) ρ) τ t h.0, arrays_renamed (past_n (length ss) ρ) τ t h.1)
  arrays_renamed ρ τ (Sigma at ss t) h = (array_renamed (past_n (length ss) ρ) τ t h.0, arrays_renamed (past_n (length ss) ρ) τ t h.1)
  arrays_renamed ρ τ (Arr at t i) h = arrays_renamed ρ τ t h

  all_arrays_renamed : (ρ τ : ℕ → ℕ) (ts : Tys) → AreArrays ts → AreArrays (tys_renamed ρ τ ts)
  all_arrays_renamed ρ τ no_tys h = tt
  all_arrays_renamed ρ τ (more_tys t ts) h = ((array_renamed ρ τ t h.0.0, arrays_renamed ρ τ t h.0.1), all_arrays_renamed ρ τ ts h.1)

-- ---- binders more

pub further_none : (t : Ty) → further 0 0 t ≡ t
further_none t = (λ i. ty_renamed (none i) (none i) t) ∙ ty_renamed_same t
  where
    none : ◌≡◌ {A = ℕ → ℕ} (λ k. 0 + k) (λ k. k)
    none = fun_ext (λ k. let e : 0 + k ≡ k = omega arith in e)

pub further_again : (i j n m : ℕ) (t : Ty) → further n m (further i j t) ≡ further (n + i) (m + j) t
further_again i j n m t = ty_renamed_twice (λ k. n + k) (λ k. m + k) (λ k. i + k) (λ k. j + k) t ∙ λ l. ty_renamed (sums n i l) (sums m j l) t
  where
    sums : (n i : ℕ) → ◌≡◌ {A = ℕ → ℕ} (λ k. n + (i + k)) (λ k. (n + i) + k)
    sums n i = fun_ext (λ k. let e : n + (i + k) ≡ (n + i) + k = omega arith in e)

one_index : (t : Ty) → ty_under_index t ≡ further 1 0 t
one_index t = λ l. ty_renamed (one l) (none l) t
  where
    one : suc ≡ (λ k. 1 + k)
    one = fun_ext (λ k. let e : suc k ≡ 1 + k = omega arith in e)

    none : same ≡ (λ k. 0 + k)
    none = fun_ext (λ k. let e : k ≡ 0 + k = omega arith in e)

one_type : (t : Ty) → ty_under_type t ≡ further 0 1 t
one_type t = λ l. ty_renamed (none l) (one l) t
  where
    one : suc ≡ (λ k. 1 + k)
    one = fun_ext (λ k. let e : suc k ≡ 1 + k = omega arith in e)

    none : same ≡ (λ k. 0 + k)
    none = fun_ext (λ k. let e : k ≡ 0 + k = omega arith in e)

pub indices_further : (n : ℕ) (t : Ty) → times n ty_under_index t ≡ further n 0 t
indices_further zero t = sym (further_none t)
indices_further (suc n) t =
    ap ty_under_index (indices_further n t) ∙ one_index (further n 0 t) ∙ further_again n 0 1 0 t
    ∙ λ l. further (count l) 0 t
  where
    count : 1 + n ≡ suc n
    count = omega arith

pub types_further : (n : ℕ) (t : Ty) → times n ty_under_type t ≡ further 0 n t
types_further zero t = sym (further_none t)
types_further (suc n) t =
    ap ty_under_type (types_further n t) ∙ one_type (further 0 n t) ∙ further_again 0 n 0 1 t
    ∙ λ l. further 0 (count l) t
  where
    count : 1 + n ≡ suc n
    count = omega arith

-- a well-formed type is so where more outer variables are in scope
pub formed_wider : (m n : ℕ) (ss rs : List Sort) → m ≤ n → ((k : ℕ) (s : Sort) → slice_get ss k ≡ Some s → slice_get rs k ≡ Some s) → (t : Ty) → IsWellFormed m ss t → IsWellFormed n rs t
formed_wider m n ss rs le w t h = subst (IsWellFormed n rs) (ty_renamed_same t) (formed_renamed (λ k. k) (λ k. k) m n ss rs w (λ k lt. omega arith) t h)
