-- Renamings and substitutions of indices, one after another.
use Rattle.std.proofs.Common.{◌≡◌, refl, sym, ◌∙◌, ap, ℕ, zero, suc}
use mathlib.Core.Path.{fun_ext}
use Rattle.core_syntax.specs.declared.span.Span.{Span}
use Rattle.core_syntax.specs.Syntax.{Index, Num, Var, Sum, Dims, Join, Indices, end, more}
use Rattle.core_syntax.specs.Subst.{Fate, Keep, Put, Fates, moved, under, under_n, in_place, index_renamed, indices_renamed, index_under, index_put, indices_put, indices_under, past, past_n, same}

-- a fate whose kept variable gets a new number, and whose term is changed by f
abbrev pub fate_map : {A : Type 0} → (ℕ → ℕ) → (A → A) → Fate A → Fate A
fate_map ρ f (Keep k) = Keep (ρ k)
fate_map ρ f (Put a) = Put (f a)

-- a fate and then the fates σ, where f puts these into what is put
abbrev pub fate_then : {A : Type 0} → Fates A → (A → A) → Fate A → Fate A
fate_then σ f (Keep k) = σ k
fate_then σ f (Put a) = Put (f a)

pub map_is_moved : {A : Type 0} (f : A → A) (x : Fate A) → fate_map suc f x ≡ moved f x
map_is_moved f (Keep k) = refl
map_is_moved f (Put a) = refl

pub renamed_fate : (ρ : ℕ → ℕ) (at : Span) (f : Fate Index) → index_renamed ρ (in_place (Var at) f) ≡ in_place (Var at) (fate_map ρ (index_renamed ρ) f)
renamed_fate ρ at (Keep k) = refl
renamed_fate ρ at (Put i) = refl

put_fate : (σ : Fates Index) (at : Span) (f : Fate Index) → index_put σ (in_place (Var at) f) ≡ in_place (Var at) (fate_then σ (index_put σ) f)
put_fate σ at (Keep k) = refl
put_fate σ at (Put i) = refl

mutual
  pub index_renamed_twice : (ρ τ : ℕ → ℕ) (i : Index) → index_renamed ρ (index_renamed τ i) ≡ index_renamed (λ k. ρ (τ k)) i
  index_renamed_twice ρ τ (Num at n) = refl
  index_renamed_twice ρ τ (Var at k) = refl
  index_renamed_twice ρ τ (Sum at is) = ap (Sum at) (indices_renamed_twice ρ τ is)
  index_renamed_twice ρ τ (Dims at is) = ap (Dims at) (indices_renamed_twice ρ τ is)
  index_renamed_twice ρ τ (Join at is) = ap (Join at) (indices_renamed_twice ρ τ is)

  indices_renamed_twice : (ρ τ : ℕ → ℕ) (is : Indices) → indices_renamed ρ (indices_renamed τ is) ≡ indices_renamed (λ k. ρ (τ k)) is
  indices_renamed_twice ρ τ end = refl
  indices_renamed_twice ρ τ (more i is) = λ k. more (index_renamed_twice ρ τ i k) (indices_renamed_twice ρ τ is k)

mutual
  pub index_renamed_same : (i : Index) → index_renamed same i ≡ i
  index_renamed_same (Num at n) = refl
  index_renamed_same (Var at k) = refl
  index_renamed_same (Sum at is) = ap (Sum at) (indices_renamed_same is)
  index_renamed_same (Dims at is) = ap (Dims at) (indices_renamed_same is)
  index_renamed_same (Join at is) = ap (Join at) (indices_renamed_same is)

  indices_renamed_same : (is : Indices) → indices_renamed same is ≡ is
  indices_renamed_same end = refl
  indices_renamed_same (more i is) = λ k. more (index_renamed_same i k) (indices_renamed_same is k)

mutual
  pub index_put_renamed : (σ : Fates Index) (ρ : ℕ → ℕ) (i : Index) → index_put σ (index_renamed ρ i) ≡ index_put (λ k. σ (ρ k)) i
  index_put_renamed σ ρ (Num at n) = refl
  index_put_renamed σ ρ (Var at k) = refl
  index_put_renamed σ ρ (Sum at is) = ap (Sum at) (indices_put_renamed σ ρ is)
  index_put_renamed σ ρ (Dims at is) = ap (Dims at) (indices_put_renamed σ ρ is)
  index_put_renamed σ ρ (Join at is) = ap (Join at) (indices_put_renamed σ ρ is)

  indices_put_renamed : (σ : Fates Index) (ρ : ℕ → ℕ) (is : Indices) → indices_put σ (indices_renamed ρ is) ≡ indices_put (λ k. σ (ρ k)) is
  indices_put_renamed σ ρ end = refl
  indices_put_renamed σ ρ (more i is) = λ k. more (index_put_renamed σ ρ i k) (indices_put_renamed σ ρ is k)

mutual
  pub index_renamed_put : (ρ : ℕ → ℕ) (σ : Fates Index) (i : Index) → index_renamed ρ (index_put σ i) ≡ index_put (λ k. fate_map ρ (index_renamed ρ) (σ k)) i
  index_renamed_put ρ σ (Num at n) = refl
  index_renamed_put ρ σ (Var at k) = renamed_fate ρ at (σ k)
  index_renamed_put ρ σ (Sum at is) = ap (Sum at) (indices_renamed_put ρ σ is)
  index_renamed_put ρ σ (Dims at is) = ap (Dims at) (indices_renamed_put ρ σ is)
  index_renamed_put ρ σ (Join at is) = ap (Join at) (indices_renamed_put ρ σ is)

  indices_renamed_put : (ρ : ℕ → ℕ) (σ : Fates Index) (is : Indices) → indices_renamed ρ (indices_put σ is) ≡ indices_put (λ k. fate_map ρ (index_renamed ρ) (σ k)) is
  indices_renamed_put ρ σ end = refl
  indices_renamed_put ρ σ (more i is) = λ k. more (index_renamed_put ρ σ i k) (indices_renamed_put ρ σ is k)

mutual
  pub index_put_twice : (σ φ : Fates Index) (i : Index) → index_put σ (index_put φ i) ≡ index_put (λ k. fate_then σ (index_put σ) (φ k)) i
  index_put_twice σ φ (Num at n) = refl
  index_put_twice σ φ (Var at k) = put_fate σ at (φ k)
  index_put_twice σ φ (Sum at is) = ap (Sum at) (indices_put_twice σ φ is)
  index_put_twice σ φ (Dims at is) = ap (Dims at) (indices_put_twice σ φ is)
  index_put_twice σ φ (Join at is) = ap (Join at) (indices_put_twice σ φ is)

  indices_put_twice : (σ φ : Fates Index) (is : Indices) → indices_put σ (indices_put φ is) ≡ indices_put (λ k. fate_then σ (index_put σ) (φ k)) is
  indices_put_twice σ φ end = refl
  indices_put_twice σ φ (more i is) = λ k. more (index_put_twice σ φ i k) (indices_put_twice σ φ is k)

-- ---- under binders

past_twice : (ρ τ : ℕ → ℕ) → (λ (k : ℕ). past ρ (past τ k)) ≡ past (λ k. ρ (τ k))
past_twice ρ τ = fun_ext at
  where
    at : (k : ℕ) → past ρ (past τ k) ≡ past (λ k. ρ (τ k)) k
    at zero = refl
    at (suc k) = refl

pub past_n_twice : (n : ℕ) (ρ τ : ℕ → ℕ) → (λ (k : ℕ). past_n n ρ (past_n n τ k)) ≡ past_n n (λ k. ρ (τ k))
past_n_twice zero ρ τ = refl
past_n_twice (suc n) ρ τ = past_twice (past_n n ρ) (past_n n τ) ∙ ap past (past_n_twice n ρ τ)

under_past : {A : Type 0} (f : A → A) (σ : Fates A) (ρ : ℕ → ℕ) → (λ (k : ℕ). under f σ (past ρ k)) ≡ under f (λ k. σ (ρ k))
under_past f σ ρ = fun_ext at
  where
    at : (k : ℕ) → under f σ (past ρ k) ≡ under f (λ k. σ (ρ k)) k
    at zero = refl
    at (suc k) = refl

pub under_past_n : {A : Type 0} (n : ℕ) (f : A → A) (σ : Fates A) (ρ : ℕ → ℕ) → (λ (k : ℕ). under_n n f σ (past_n n ρ k)) ≡ under_n n f (λ k. σ (ρ k))
under_past_n zero f σ ρ = refl
under_past_n (suc n) f σ ρ = under_past f (under_n n f σ) (past_n n ρ) ∙ ap (under f) (under_past_n n f σ ρ)

renamed_under : (ρ : ℕ → ℕ) (σ : Fates Index) → (λ (k : ℕ). fate_map (past ρ) (index_renamed (past ρ)) (under index_under σ k)) ≡ under index_under (λ k. fate_map ρ (index_renamed ρ) (σ k))
renamed_under ρ σ = fun_ext at
  where
    by : (f : Fate Index) → fate_map (past ρ) (index_renamed (past ρ)) (moved index_under f) ≡ moved index_under (fate_map ρ (index_renamed ρ) f)
    by (Keep k) = refl
    by (Put i) = ap Put (index_renamed_twice (past ρ) suc i ∙ sym (index_renamed_twice suc ρ i))

    at : (k : ℕ) → fate_map (past ρ) (index_renamed (past ρ)) (under index_under σ k) ≡ under index_under (λ k. fate_map ρ (index_renamed ρ) (σ k)) k
    at zero = refl
    at (suc k) = by (σ k)

pub renamed_under_n : (n : ℕ) (ρ : ℕ → ℕ) (σ : Fates Index) → (λ (k : ℕ). fate_map (past_n n ρ) (index_renamed (past_n n ρ)) (indices_under n σ k)) ≡ indices_under n (λ k. fate_map ρ (index_renamed ρ) (σ k))
renamed_under_n zero ρ σ = refl
renamed_under_n (suc n) ρ σ = renamed_under (past_n n ρ) (indices_under n σ) ∙ ap (under index_under) (renamed_under_n n ρ σ)

-- what is put, under a binder
pub index_under_put : (σ : Fates Index) (i : Index) → index_put (under index_under σ) (index_under i) ≡ index_under (index_put σ i)
index_under_put σ i =
    index_put_renamed (under index_under σ) suc i ∙ ap (λ τ. index_put τ i) (fun_ext (λ k. sym (map_is_moved index_under (σ k)))) ∙ sym (index_renamed_put suc σ i)

then_under : (σ φ : Fates Index) → (λ (k : ℕ). fate_then (under index_under σ) (index_put (under index_under σ)) (under index_under φ k)) ≡ under index_under (λ k. fate_then σ (index_put σ) (φ k))
then_under σ φ = fun_ext at
  where
    by : (f : Fate Index) → fate_then (under index_under σ) (index_put (under index_under σ)) (moved index_under f) ≡ moved index_under (fate_then σ (index_put σ) f)
    by (Keep k) = refl
    by (Put i) = ap Put (index_under_put σ i)

    at : (k : ℕ) → fate_then (under index_under σ) (index_put (under index_under σ)) (under index_under φ k) ≡ under index_under (λ k. fate_then σ (index_put σ) (φ k)) k
    at zero = refl
    at (suc k) = by (φ k)

pub then_under_n : (n : ℕ) (σ φ : Fates Index) → (λ (k : ℕ). fate_then (indices_under n σ) (index_put (indices_under n σ)) (indices_under n φ k)) ≡ indices_under n (λ k. fate_then σ (index_put σ) (φ k))
then_under_n zero σ φ = refl
then_under_n (suc n) σ φ = then_under (indices_under n σ) (indices_under n φ) ∙ ap (under index_under) (then_under_n n σ φ)
