-- A type under the binders of a list, all at once.
use Rattle.std.proofs.Common.{◌≡◌, refl, sym, ◌∙◌, ap, subst, ℕ, zero, suc, ◌+◌, arith, List, [], ◌∷◌, length}
use mathlib.Core.Path.{fun_ext}
use Rattle.core_syntax.specs.declared.index.Sort.{Sort}
use Rattle.core_syntax.specs.Syntax.{Index, Num, Var, Sum, Dims, Join, Indices, end, more, Ty, BaseTy, TyVar, Fun, Forall, Pi, Sigma, Arr, Tys, no_tys, more_tys}
use Rattle.core_syntax.specs.Lists.{onto}
use Rattle.core_syntax.specs.Kinds.{IsWellFormed}
use Rattle.core_syntax.specs.Subst.{index_renamed, indices_renamed, past, past_n, same, ty_renamed, tys_renamed, ty_under_index}
use Rattle.core_syntax.specs.TypeEqual.{Same}
use Rattle.core_syntax.specs.NormTypes.{norm_ty}
use Rattle.core_syntax.specs.Typing.{times}
use Rattle.core_syntax.proofs.NormTyLemmas.{norm_same}
use Rattle.type_equal.specs.Moved.{up, ty_moved}
use Rattle.type_check.proofs.substitution.PutSorted.{formed_renamed}
use Rattle.type_check.proofs.substitution.GivenSame.{same_renamed}

past_twice : (ρ τ : ℕ → ℕ) → (λ (k : ℕ). past ρ (past τ k)) ≡ past (λ k. ρ (τ k))
past_twice ρ τ = fun_ext at
  where
    at : (k : ℕ) → past ρ (past τ k) ≡ past (λ k. ρ (τ k)) k
    at zero = refl
    at (suc k) = refl

past_n_twice : (n : ℕ) (ρ τ : ℕ → ℕ) → (λ (k : ℕ). past_n n ρ (past_n n τ k)) ≡ past_n n (λ k. ρ (τ k))
past_n_twice zero ρ τ = refl
past_n_twice (suc n) ρ τ = past_twice (past_n n ρ) (past_n n τ) ∙ ap past (past_n_twice n ρ τ)

mutual
  index_renamed_twice : (ρ τ : ℕ → ℕ) (i : Index) → index_renamed ρ (index_renamed τ i) ≡ index_renamed (λ k. ρ (τ k)) i
  index_renamed_twice ρ τ (Num at n) = refl
  index_renamed_twice ρ τ (Var at k) = refl
  index_renamed_twice ρ τ (Sum at is) = ap (Sum at) (indices_renamed_twice ρ τ is)
  index_renamed_twice ρ τ (Dims at is) = ap (Dims at) (indices_renamed_twice ρ τ is)
  index_renamed_twice ρ τ (Join at is) = ap (Join at) (indices_renamed_twice ρ τ is)

  indices_renamed_twice : (ρ τ : ℕ → ℕ) (is : Indices) → indices_renamed ρ (indices_renamed τ is) ≡ indices_renamed (λ k. ρ (τ k)) is
  indices_renamed_twice ρ τ end = refl
  indices_renamed_twice ρ τ (more i is) = λ k. more (index_renamed_twice ρ τ i k) (indices_renamed_twice ρ τ is k)

mutual
  pub ty_renamed_twice : (ρ τ ρ' τ' : ℕ → ℕ) (t : Ty) → ty_renamed ρ τ (ty_renamed ρ' τ' t) ≡ ty_renamed (λ k. ρ (ρ' k)) (λ k. τ (τ' k)) t
  ty_renamed_twice ρ τ ρ' τ' (BaseTy at b) = refl
  ty_renamed_twice ρ τ ρ' τ' (TyVar at k) = refl
  ty_renamed_twice ρ τ ρ' τ' (Fun at ts r) = λ i. Fun at (tys_renamed_twice ρ τ ρ' τ' ts i) (ty_renamed_twice ρ τ ρ' τ' r i)
  ty_renamed_twice ρ τ ρ' τ' (Forall at n t) = ap (Forall at n) (ty_renamed_twice ρ (past_n n τ) ρ' (past_n n τ') t ∙ ap (λ υ. ty_renamed (λ k. ρ (ρ' k)) υ t) (past_n_twice n τ τ'))
  ty_renamed_twice ρ τ ρ' τ' (Pi at ss t) = ap (Pi at ss) (ty_renamed_twice (past_n (length ss) ρ) τ (past_n (length ss) ρ') τ' t ∙ ap (λ υ. ty_renamed υ (λ k. τ (τ' k)) t) (past_n_twice (length ss) ρ ρ'))
  ty_renamed_twice ρ τ ρ' τ' (Sigma at ss t) = ap (Sigma at ss) (ty_renamed_twice (past_n (length ss) ρ) τ (past_n (length ss) ρ') τ' t ∙ ap (λ υ. ty_renamed υ (λ k. τ (τ' k)) t) (past_n_twice (length ss) ρ ρ'))
  ty_renamed_twice ρ τ ρ' τ' (Arr at t i) = λ j. Arr at (ty_renamed_twice ρ τ ρ' τ' t j) (index_renamed_twice ρ ρ' i j)

  tys_renamed_twice : (ρ τ ρ' τ' : ℕ → ℕ) (ts : Tys) → tys_renamed ρ τ (tys_renamed ρ' τ' ts) ≡ tys_renamed (λ k. ρ (ρ' k)) (λ k. τ (τ' k)) ts
  tys_renamed_twice ρ τ ρ' τ' no_tys = refl
  tys_renamed_twice ρ τ ρ' τ' (more_tys t ts) = λ i. more_tys (ty_renamed_twice ρ τ ρ' τ' t i) (tys_renamed_twice ρ τ ρ' τ' ts i)

past_as_it_is : past (λ k. k) ≡ (λ (k : ℕ). k)
past_as_it_is = fun_ext at
  where
    at : (k : ℕ) → past (λ k. k) k ≡ k
    at zero = refl
    at (suc k) = refl

past_n_as_it_is : (n : ℕ) → past_n n (λ k. k) ≡ (λ (k : ℕ). k)
past_n_as_it_is zero = refl
past_n_as_it_is (suc n) = ap past (past_n_as_it_is n) ∙ past_as_it_is

mutual
  index_renamed_same : (i : Index) → index_renamed (λ k. k) i ≡ i
  index_renamed_same (Num at n) = refl
  index_renamed_same (Var at k) = refl
  index_renamed_same (Sum at is) = ap (Sum at) (indices_renamed_same is)
  index_renamed_same (Dims at is) = ap (Dims at) (indices_renamed_same is)
  index_renamed_same (Join at is) = ap (Join at) (indices_renamed_same is)

  indices_renamed_same : (is : Indices) → indices_renamed (λ k. k) is ≡ is
  indices_renamed_same end = refl
  indices_renamed_same (more i is) = λ k. more (index_renamed_same i k) (indices_renamed_same is k)

mutual
  ty_renamed_same : (t : Ty) → ty_renamed (λ k. k) (λ k. k) t ≡ t
  ty_renamed_same (BaseTy at b) = refl
  ty_renamed_same (TyVar at k) = refl
  ty_renamed_same (Fun at ts r) = λ i. Fun at (tys_renamed_same ts i) (ty_renamed_same r i)
  ty_renamed_same (Forall at n t) = ap (Forall at n) (ap (λ τ. ty_renamed (λ k. k) τ t) (past_n_as_it_is n) ∙ ty_renamed_same t)
  ty_renamed_same (Pi at ss t) = ap (Pi at ss) (ap (λ ρ. ty_renamed ρ (λ k. k) t) (past_n_as_it_is (length ss)) ∙ ty_renamed_same t)
  ty_renamed_same (Sigma at ss t) = ap (Sigma at ss) (ap (λ ρ. ty_renamed ρ (λ k. k) t) (past_n_as_it_is (length ss)) ∙ ty_renamed_same t)
  ty_renamed_same (Arr at t i) = λ j. Arr at (ty_renamed_same t j) (index_renamed_same i j)

  tys_renamed_same : (ts : Tys) → tys_renamed (λ k. k) (λ k. k) ts ≡ ts
  tys_renamed_same no_tys = refl
  tys_renamed_same (more_tys t ts) = λ i. more_tys (ty_renamed_same t i) (tys_renamed_same ts i)

-- ---- binders of indices

up_none : up 0 ≡ (λ (k : ℕ). k)
up_none = fun_ext (λ k. let e : 0 + k ≡ k = omega arith in e)

up_more : (n : ℕ) → (λ (k : ℕ). suc (up n k)) ≡ up (suc n)
up_more n = fun_ext (λ k. let e : suc (n + k) ≡ suc n + k = omega arith in e)

times_moved : (n : ℕ) (t : Ty) → times n ty_under_index t ≡ ty_moved 0 n t
times_moved zero t = sym ((λ i. ty_renamed (up_none i) (up_none i) t) ∙ ty_renamed_same t)
times_moved (suc n) t = ap ty_under_index (times_moved n t) ∙ ty_renamed_twice suc same (up n) (up 0) t ∙ (λ i. ty_renamed (up_more n i) (up 0) t)

-- the moved normal type equals the type under the binders
pub moved_same : (n : ℕ) (t u m : Ty) → u ≡ norm_ty t → m ≡ ty_moved 0 n u → Same m (times n ty_under_index t)
moved_same n t u m e f =
    subst (λ x. Same x (times n ty_under_index t)) (sym f)
    (subst (λ x. Same (ty_moved 0 n u) x) (sym (times_moved n t))
    (subst (λ u. Same (ty_moved 0 n u) (ty_moved 0 n t)) (sym e) (same_renamed (up n) (up 0) (norm_ty t) t (norm_same t))))

times_inside : (n : ℕ) (t : Ty) → times n ty_under_index (ty_under_index t) ≡ times (suc n) ty_under_index t
times_inside zero t = refl
times_inside (suc n) t = ap ty_under_index (times_inside n t)

-- and is formed there
pub times_formed : (types : ℕ) (ss sorts : List Sort) (t : Ty) → IsWellFormed types sorts t → IsWellFormed types (onto ss sorts) (times (length ss) ty_under_index t)
times_formed types [] sorts t h = h
times_formed types (q ∷ ss) sorts t h =
    subst (IsWellFormed types (onto ss (q ∷ sorts))) (times_inside (length ss) t)
    (times_formed types ss (q ∷ sorts) (ty_under_index t) (formed_renamed suc same types types sorts (q ∷ sorts) (λ k s e. e) (λ k lt. lt) t h))
