-- Types and indices under binders more.
use Rattle.std.specs.Prelude.{ℕ, ◌+◌, ◌<◌, ◌^◌, length, ⊤}
use Rattle.core_syntax.specs.Syntax.{Index, Num, Var, Sum, Dims, Join, Indices, end, more, Ty, BaseTy, TyVar, Fun, Forall, Pi, Sigma, Arr, Tys, no_tys, more_tys}
use Rattle.core_syntax.specs.Made.{IndexMade}
use Rattle.core_syntax.specs.Subst.{past_n, ty_renamed}

-- a number, n greater
abbrev pub up : ℕ → ℕ → ℕ
up n k = n + k

-- a variable's number under n binders more, where those below `from` are bound inside
abbrev pub moved_from : ℕ → ℕ → ℕ → ℕ
moved_from n from = past_n from (up n)

-- a type under so many type binders and index binders more
abbrev pub ty_moved : ℕ → ℕ → Ty → Ty
ty_moved types indices = ty_renamed (up indices) (up types)

-- the numbers of a type's free variables are below these, those of type variables first
abbrev mutual
  pub IsFreeBelow : ℕ → ℕ → Ty → Type 0
  IsFreeBelow types indices (BaseTy at b) = ⊤
  IsFreeBelow types indices (TyVar at k) = k < types
  IsFreeBelow types indices (Fun at ts r) = AreFreeBelow types indices ts × IsFreeBelow types indices r
  IsFreeBelow types indices (Forall at n t) = IsFreeBelow (n + types) indices t
  IsFreeBelow types indices (Pi at ss t) = IsFreeBelow types (length ss + indices) t
  IsFreeBelow types indices (Sigma at ss t) = IsFreeBelow types (length ss + indices) t
  IsFreeBelow types indices (Arr at t i) = IsFreeBelow types indices t × IndexMade indices i

  -- and those of each of a list
  pub AreFreeBelow : ℕ → ℕ → Tys → Type 0
  AreFreeBelow types indices no_tys = ⊤
  AreFreeBelow types indices (more_tys t ts) = IsFreeBelow types indices t × AreFreeBelow types indices ts

-- the limit of free variables' numbers
abbrev pub free_limit : ℕ
free_limit = 3221225472

-- the moved numbers of an index's variables are numbers of 32 bits
abbrev mutual
  pub IndexMoves : ℕ → ℕ → Index → Type 0
  IndexMoves n from (Num at k) = ⊤
  IndexMoves n from (Var at k) = moved_from n from k < 2 ^ 32
  IndexMoves n from (Sum at is) = IndicesMove n from is
  IndexMoves n from (Dims at is) = IndicesMove n from is
  IndexMoves n from (Join at is) = IndicesMove n from is

  -- and those of each of a list
  pub IndicesMove : ℕ → ℕ → Indices → Type 0
  IndicesMove n from end = ⊤
  IndicesMove n from (more i is) = IndexMoves n from i × IndicesMove n from is

-- the moved numbers of a type's variables are, and the counts of the binders around each place: by how much type variables are moved and how many are bound, and the same of index variables
abbrev mutual
  pub TyMoves : ℕ → ℕ → ℕ → ℕ → Ty → Type 0
  TyMoves n from m below (BaseTy at b) = ⊤
  TyMoves n from m below (TyVar at k) = moved_from n from k < 2 ^ 32
  TyMoves n from m below (Fun at ts r) = TysMove n from m below ts × TyMoves n from m below r
  TyMoves n from m below (Forall at k t) = (from + k < 2 ^ 32) × TyMoves n (from + k) m below t
  TyMoves n from m below (Pi at ss t) = (below + length ss < 2 ^ 32) × TyMoves n from m (below + length ss) t
  TyMoves n from m below (Sigma at ss t) = (below + length ss < 2 ^ 32) × TyMoves n from m (below + length ss) t
  TyMoves n from m below (Arr at t i) = TyMoves n from m below t × IndexMoves m below i

  -- and those of each of a list
  pub TysMove : ℕ → ℕ → ℕ → ℕ → Tys → Type 0
  TysMove n from m below no_tys = ⊤
  TysMove n from m below (more_tys t ts) = TyMoves n from m below t × TysMove n from m below ts
