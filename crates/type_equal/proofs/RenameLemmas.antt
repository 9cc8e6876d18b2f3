-- Renamings of indices and types, one after another.
use Rattle.std.proofs.Common.{◌≡◌, refl, ◌∙◌, ap, ℕ, zero, suc, length}
use mathlib.Core.Path.{fun_ext}
use Rattle.core_syntax.specs.Syntax.{Index, Num, Var, Sum, Dims, Join, Indices, end, more, Ty, BaseTy, TyVar, Fun, Forall, Pi, Sigma, Arr, Tys, no_tys, more_tys}
use Rattle.core_syntax.specs.Subst.{index_renamed, indices_renamed, past, past_n, ty_renamed, tys_renamed}

mutual
  pub index_renamed_twice : (ρ τ : ℕ → ℕ) (i : Index) → index_renamed ρ (index_renamed τ i) ≡ index_renamed (λ k. ρ (τ k)) i
  index_renamed_twice ρ τ (Num at n) = refl
  index_renamed_twice ρ τ (Var at k) = refl
  index_renamed_twice ρ τ (Sum at is) = ap (Sum at) (indices_renamed_twice ρ τ is)
  index_renamed_twice ρ τ (Dims at is) = ap (Dims at) (indices_renamed_twice ρ τ is)
  index_renamed_twice ρ τ (Join at is) = ap (Join at) (indices_renamed_twice ρ τ is)

  indices_renamed_twice : (ρ τ : ℕ → ℕ) (is : Indices) → indices_renamed ρ (indices_renamed τ is) ≡ indices_renamed (λ k. ρ (τ k)) is
  indices_renamed_twice ρ τ end = refl
  indices_renamed_twice ρ τ (more i is) = λ k. more (index_renamed_twice ρ τ i k) (indices_renamed_twice ρ τ is k)

past_twice : (ρ τ : ℕ → ℕ) → (λ (k : ℕ). past ρ (past τ k)) ≡ past (λ k. ρ (τ k))
past_twice ρ τ = fun_ext at
  where
    at : (k : ℕ) → past ρ (past τ k) ≡ past (λ k. ρ (τ k)) k
    at zero = refl
    at (suc k) = refl

past_n_twice : (n : ℕ) (ρ τ : ℕ → ℕ) → (λ (k : ℕ). past_n n ρ (past_n n τ k)) ≡ past_n n (λ k. ρ (τ k))
past_n_twice zero ρ τ = refl
past_n_twice (suc n) ρ τ = past_twice (past_n n ρ) (past_n n τ) ∙ ap past (past_n_twice n ρ τ)

mutual
  pub ty_renamed_twice : (ρ τ ρ' τ' : ℕ → ℕ) (t : Ty) → ty_renamed ρ τ (ty_renamed ρ' τ' t) ≡ ty_renamed (λ k. ρ (ρ' k)) (λ k. τ (τ' k)) t
  ty_renamed_twice ρ τ ρ' τ' (BaseTy at b) = refl
  ty_renamed_twice ρ τ ρ' τ' (TyVar at k) = refl
  ty_renamed_twice ρ τ ρ' τ' (Fun at ts r) = λ i. Fun at (tys_renamed_twice ρ τ ρ' τ' ts i) (ty_renamed_twice ρ τ ρ' τ' r i)
  ty_renamed_twice ρ τ ρ' τ' (Forall at n t) = ap (Forall at n) (ty_renamed_twice ρ (past_n n τ) ρ' (past_n n τ') t ∙ ap (λ υ. ty_renamed (λ k. ρ (ρ' k)) υ t) (past_n_twice n τ τ'))
  ty_renamed_twice ρ τ ρ' τ' (Pi at ss t) = ap (Pi at ss) (ty_renamed_twice (past_n (length ss) ρ) τ (past_n (length ss) ρ') τ' t ∙ ap (λ υ. ty_renamed υ (λ k. τ (τ' k)) t) (past_n_twice (length ss) ρ ρ'))
  ty_renamed_twice ρ τ ρ' τ' (Sigma at ss t) = ap (Sigma at ss) (ty_renamed_twice (past_n (length ss) ρ) τ (past_n (length ss) ρ') τ' t ∙ ap (λ υ. ty_renamed υ (λ k. τ (τ' k)) t) (past_n_twice (length ss) ρ ρ'))
  ty_renamed_twice ρ τ ρ' τ' (Arr at t i) = λ j. Arr at (ty_renamed_twice ρ τ ρ' τ' t j) (index_renamed_twice ρ ρ' i j)

  tys_renamed_twice : (ρ τ ρ' τ' : ℕ → ℕ) (ts : Tys) → tys_renamed ρ τ (tys_renamed ρ' τ' ts) ≡ tys_renamed (λ k. ρ (ρ' k)) (λ k. τ (τ' k)) ts
  tys_renamed_twice ρ τ ρ' τ' no_tys = refl
  tys_renamed_twice ρ τ ρ' τ' (more_tys t ts) = λ i. more_tys (ty_renamed_twice ρ τ ρ' τ' t i) (tys_renamed_twice ρ τ ρ' τ' ts i)

-- past zero is the identity: nothing is renamed
past_same : ◌≡◌ {A = ℕ → ℕ} (past (λ k. k)) (λ k. k)
past_same = fun_ext at
  where
    at : (k : ℕ) → past (λ k. k) k ≡ k
    at zero = refl
    at (suc k) = refl

past_n_same : (n : ℕ) → ◌≡◌ {A = ℕ → ℕ} (past_n n (λ k. k)) (λ k. k)
past_n_same zero = refl
past_n_same (suc n) = ap past (past_n_same n) ∙ past_same

mutual
  pub index_renamed_none : (i : Index) → index_renamed (λ k. k) i ≡ i
  index_renamed_none (Num at n) = refl
  index_renamed_none (Var at k) = refl
  index_renamed_none (Sum at is) = ap (Sum at) (indices_renamed_none is)
  index_renamed_none (Dims at is) = ap (Dims at) (indices_renamed_none is)
  index_renamed_none (Join at is) = ap (Join at) (indices_renamed_none is)

  indices_renamed_none : (is : Indices) → indices_renamed (λ k. k) is ≡ is
  indices_renamed_none end = refl
  indices_renamed_none (more i is) = λ j. more (index_renamed_none i j) (indices_renamed_none is j)

mutual
  pub ty_renamed_none : (t : Ty) → ty_renamed (λ k. k) (λ k. k) t ≡ t
  ty_renamed_none (BaseTy at b) = refl
  ty_renamed_none (TyVar at k) = refl
  ty_renamed_none (Fun at ts r) = λ j. Fun at (tys_renamed_none ts j) (ty_renamed_none r j)
  ty_renamed_none (Forall at n t) = ap (Forall at n) (ap (λ υ. ty_renamed (λ k. k) υ t) (past_n_same n) ∙ ty_renamed_none t)
  ty_renamed_none (Pi at ss t) = ap (Pi at ss) (ap (λ υ. ty_renamed υ (λ k. k) t) (past_n_same (length ss)) ∙ ty_renamed_none t)
  ty_renamed_none (Sigma at ss t) = ap (Sigma at ss) (ap (λ υ. ty_renamed υ (λ k. k) t) (past_n_same (length ss)) ∙ ty_renamed_none t)
  ty_renamed_none (Arr at t i) = λ j. Arr at (ty_renamed_none t j) (index_renamed_none i j)

  tys_renamed_none : (ts : Tys) → tys_renamed (λ k. k) (λ k. k) ts ≡ ts
  tys_renamed_none no_tys = refl
  tys_renamed_none (more_tys t ts) = λ j. more_tys (ty_renamed_none t j) (tys_renamed_none ts j)
