-- Kinds of types, and the first place that is ill-sorted or ill-kinded.
use Rattle.std.specs.Prelude.{ℕ, ◌+◌, ◌<◌, ◌≡◌, Bool, true, false, List, Option, None, ⊤}
use Rattle.core_syntax.specs.declared.index.Sort.{Sort}
use Rattle.core_syntax.specs.declared.index.Sort.TheVariants as sort
use Rattle.core_syntax.specs.Syntax.{Ty, BaseTy, TyVar, Fun, Forall, Pi, Sigma, Arr, Tys, no_tys, more_tys, ty_at, index_at}
use Rattle.core_syntax.specs.Sorts.{Refusal, IsSorted, own_sort, is_sort, first_of_two, refuse_unless, inner_blame}
use Rattle.core_syntax.specs.Lists.{onto}

-- a type is of kind Atom, as each but an array type is
abbrev pub is_atom_kind : Ty → Bool
is_atom_kind (BaseTy at b) = true
is_atom_kind (TyVar at k) = true
is_atom_kind (Fun at ts r) = true
is_atom_kind (Forall at n t) = true
is_atom_kind (Pi at ss t) = true
is_atom_kind (Sigma at ss t) = true
is_atom_kind (Arr at t i) = false

-- a type is well formed with this many type variables and these sorts of index variables, the innermost first. A binder's list has its last innermost
abbrev mutual
  pub IsWellFormed : ℕ → List Sort → Ty → Type 0
  IsWellFormed types sorts (BaseTy at b) = ⊤
  IsWellFormed types sorts (TyVar at k) = k < types
  IsWellFormed types sorts (Fun at ts r) = AreWellFormed types sorts ts × IsWellFormed types sorts r
  IsWellFormed types sorts (Forall at n t) = IsWellFormed (n + types) sorts t
  IsWellFormed types sorts (Pi at ss t) = IsWellFormed types (onto ss sorts) t
  IsWellFormed types sorts (Sigma at ss t) = IsWellFormed types (onto ss sorts) t
  IsWellFormed types sorts (Arr at t i) = (is_atom_kind t ≡ true) × IsSorted sorts sort.Shape i × IsWellFormed types sorts t

  -- and so is each of a list
  pub AreWellFormed : ℕ → List Sort → Tys → Type 0
  AreWellFormed types sorts no_tys = ⊤
  AreWellFormed types sorts (more_tys t ts) = IsWellFormed types sorts t × AreWellFormed types sorts ts

-- the first ill-sorted (14) or ill-kinded (15) place, a node's own tests before its parts, and parts from left to right
abbrev mutual
  pub kind_blame : List Sort → Ty → Option Refusal
  kind_blame sorts (BaseTy at b) = None
  kind_blame sorts (TyVar at k) = None
  kind_blame sorts (Fun at ts r) = first_of_two (kinds_blame sorts ts) (kind_blame sorts r)
  kind_blame sorts (Forall at n t) = kind_blame sorts t
  kind_blame sorts (Pi at ss t) = kind_blame (onto ss sorts) t
  kind_blame sorts (Sigma at ss t) = kind_blame (onto ss sorts) t
  kind_blame sorts (Arr at t i) =
      first_of_two (refuse_unless (is_atom_kind t) 15 (ty_at t))
      (first_of_two (refuse_unless (is_sort sort.Shape (own_sort sorts i)) 14 (index_at i))
      (first_of_two (kind_blame sorts t) (inner_blame sorts i)))

  -- the same for a list of types
  pub kinds_blame : List Sort → Tys → Option Refusal
  kinds_blame sorts no_tys = None
  kinds_blame sorts (more_tys t ts) = first_of_two (kind_blame sorts t) (kinds_blame sorts ts)

-- the same for a type in an atom type's place
abbrev pub atom_kind_blame : List Sort → Ty → Option Refusal
atom_kind_blame sorts t = first_of_two (refuse_unless (is_atom_kind t) 15 (ty_at t)) (kind_blame sorts t)
