-- Substitution in indices and types, for all variables at once. Outer variables are kept, and no variable is captured.
use Rattle.std.specs.Prelude.{ℕ, zero, suc, List, [], ◌∷◌, length}
use Rattle.core_syntax.specs.Syntax.{Index, Num, Var, Sum, Dims, Join, Indices, end, more, Ty, BaseTy, TyVar, Fun, Forall, Pi, Sigma, Arr, Tys, no_tys, more_tys}
use Rattle.core_syntax.specs.Lists.{onto}

-- what becomes of a variable: it is kept, under another number, or something is put in its place
pub data Fate (A : Type 0) : Type 0 where
  Keep : ℕ → Fate A
  Put : A → Fate A

-- the fate of each variable
abbrev pub Fates : Type 0 → Type 0
Fates A = ℕ → Fate A

-- every variable is kept as it is
abbrev pub kept : {A : Type 0} → Fates A
kept k = Keep k

-- the first variables, from the innermost, are these, and the others are kept
abbrev pub put_first : {A : Type 0} → List A → Fates A
put_first [] k = Keep k
put_first (a ∷ xs) zero = Put a
put_first (a ∷ xs) (suc k) = put_first xs k

-- the variables of a binder's list are these, of which the last is the innermost
abbrev pub put_all : {A : Type 0} → List A → Fates A
put_all xs = put_first (onto xs [])

-- the fate of a variable under one binder more, where f moves what is put under that binder
abbrev pub moved : {A : Type 0} → (A → A) → Fate A → Fate A
moved f (Keep k) = Keep (suc k)
moved f (Put a) = Put (f a)

-- the fates under one binder more
abbrev pub under : {A : Type 0} → (A → A) → Fates A → Fates A
under f σ zero = Keep zero
under f σ (suc k) = moved f (σ k)

-- and under n more
abbrev pub under_n : {A : Type 0} → ℕ → (A → A) → Fates A → Fates A
under_n zero f σ = σ
under_n (suc n) f σ = under f (under_n n f σ)

-- new numbers under one binder more
abbrev pub past : (ℕ → ℕ) → ℕ → ℕ
past ρ zero = zero
past ρ (suc k) = suc (ρ k)

-- and under n more
abbrev pub past_n : ℕ → (ℕ → ℕ) → ℕ → ℕ
past_n zero ρ = ρ
past_n (suc n) ρ = past (past_n n ρ)

-- an index with new numbers for its variables
abbrev mutual
  pub index_renamed : (ℕ → ℕ) → Index → Index
  index_renamed ρ (Num at n) = Num at n
  index_renamed ρ (Var at k) = Var at (ρ k)
  index_renamed ρ (Sum at is) = Sum at (indices_renamed ρ is)
  index_renamed ρ (Dims at is) = Dims at (indices_renamed ρ is)
  index_renamed ρ (Join at is) = Join at (indices_renamed ρ is)

  -- and the indices of a list
  pub indices_renamed : (ℕ → ℕ) → Indices → Indices
  indices_renamed ρ end = end
  indices_renamed ρ (more i is) = more (index_renamed ρ i) (indices_renamed ρ is)

-- an index under one binder more
abbrev pub index_under : Index → Index
index_under = index_renamed suc

-- what stands in a variable's place
abbrev pub in_place : {A : Type 0} → (ℕ → A) → Fate A → A
in_place keep (Keep k) = keep k
in_place keep (Put a) = a

-- an index with the fates of its variables. A variable that is kept keeps its place in the source
abbrev mutual
  pub index_put : Fates Index → Index → Index
  index_put σ (Num at n) = Num at n
  index_put σ (Var at k) = in_place (Var at) (σ k)
  index_put σ (Sum at is) = Sum at (indices_put σ is)
  index_put σ (Dims at is) = Dims at (indices_put σ is)
  index_put σ (Join at is) = Join at (indices_put σ is)

  -- and the indices of a list
  pub indices_put : Fates Index → Indices → Indices
  indices_put σ end = end
  indices_put σ (more i is) = more (index_put σ i) (indices_put σ is)

-- the fates of index variables under the n binders of a list
abbrev pub indices_under : ℕ → Fates Index → Fates Index
indices_under n σ = under_n n index_under σ

-- a type with new numbers for its index variables and its type variables
abbrev mutual
  pub ty_renamed : (ℕ → ℕ) → (ℕ → ℕ) → Ty → Ty
  ty_renamed ρ τ (BaseTy at b) = BaseTy at b
  ty_renamed ρ τ (TyVar at k) = TyVar at (τ k)
  ty_renamed ρ τ (Fun at ts r) = Fun at (tys_renamed ρ τ ts) (ty_renamed ρ τ r)
  ty_renamed ρ τ (Forall at n t) = Forall at n (ty_renamed ρ (past_n n τ) t)
  ty_renamed ρ τ (Pi at ss t) = Pi at ss (ty_renamed (past_n (length ss) ρ) τ t)
  ty_renamed ρ τ (Sigma at ss t) = Sigma at ss (ty_renamed (past_n (length ss) ρ) τ t)
  ty_renamed ρ τ (Arr at t i) = Arr at (ty_renamed ρ τ t) (index_renamed ρ i)

  -- and the types of a list
  pub tys_renamed : (ℕ → ℕ) → (ℕ → ℕ) → Tys → Tys
  tys_renamed ρ τ no_tys = no_tys
  tys_renamed ρ τ (more_tys t ts) = more_tys (ty_renamed ρ τ t) (tys_renamed ρ τ ts)

-- a number as it is
abbrev pub same : ℕ → ℕ
same k = k

-- a type under one binder of an index more
abbrev pub ty_under_index : Ty → Ty
ty_under_index = ty_renamed suc same

-- a type under one binder of a type more
abbrev pub ty_under_type : Ty → Ty
ty_under_type = ty_renamed same suc

-- the fate of a type variable under one binder of an index more: what is put is moved under it, and a number that is kept stays
abbrev pub fate_under_index : Fate Ty → Fate Ty
fate_under_index (Keep k) = Keep k
fate_under_index (Put t) = Put (ty_under_index t)

-- the fates of type variables under n binders of indices more
abbrev pub fates_under_index : ℕ → Fates Ty → Fates Ty
fates_under_index zero τ k = τ k
fates_under_index (suc n) τ k = fate_under_index (fates_under_index n τ k)

-- a type with the fates of its index variables and its type variables
abbrev mutual
  pub ty_put : Fates Index → Fates Ty → Ty → Ty
  ty_put σ τ (BaseTy at b) = BaseTy at b
  ty_put σ τ (TyVar at k) = in_place (TyVar at) (τ k)
  ty_put σ τ (Fun at ts r) = Fun at (tys_put σ τ ts) (ty_put σ τ r)
  ty_put σ τ (Forall at n t) = Forall at n (ty_put σ (under_n n ty_under_type τ) t)
  ty_put σ τ (Pi at ss t) = Pi at ss (ty_put (indices_under (length ss) σ) (fates_under_index (length ss) τ) t)
  ty_put σ τ (Sigma at ss t) = Sigma at ss (ty_put (indices_under (length ss) σ) (fates_under_index (length ss) τ) t)
  ty_put σ τ (Arr at t i) = Arr at (ty_put σ τ t) (index_put σ i)

  -- and the types of a list
  pub tys_put : Fates Index → Fates Ty → Tys → Tys
  tys_put σ τ no_tys = no_tys
  tys_put σ τ (more_tys t ts) = more_tys (ty_put σ τ t) (tys_put σ τ ts)

-- the body of a Forall type with types in its variables' places
abbrev pub with_types : List Ty → Ty → Ty
with_types ts t = ty_put kept (put_all ts) t

-- the body of a Pi or Sigma type with indices in its variables' places
abbrev pub with_indices : List Index → Ty → Ty
with_indices is t = ty_put (put_all is) kept t
