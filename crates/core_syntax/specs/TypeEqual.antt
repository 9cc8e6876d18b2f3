-- When two types are equal.
use Rattle.std.specs.Prelude.{ℕ, ◌≡◌, List, ⊤}
use Rattle.core_syntax.specs.declared.index.Sort.{Sort}
use Rattle.core_syntax.specs.Syntax.{Ty, BaseTy, TyVar, Fun, Forall, Pi, Sigma, Arr, Tys, no_tys, more_tys}
use Rattle.core_syntax.specs.Value.{SameShape}
use Rattle.core_syntax.specs.Kinds.{IsWellFormed}

-- two types have the same form, the same counts and sorts of binders and equal parts, and their shapes agree under every valuation
abbrev mutual
  pub Same : Ty → Ty → Type 0
  Same (BaseTy at b) (BaseTy at' c) = b ≡ c
  Same (TyVar at k) (TyVar at' l) = k ≡ l
  Same (Fun at ts r) (Fun at' us s) = AllSame ts us × Same r s
  Same (Forall at n t) (Forall at' m u) = (n ≡ m) × Same t u
  Same (Pi at ss t) (Pi at' rs u) = (ss ≡ rs) × Same t u
  Same (Sigma at ss t) (Sigma at' rs u) = (ss ≡ rs) × Same t u
  Same (Arr at t i) (Arr at' u j) = Same t u × SameShape i j
  Same _ _ = ⊥

  -- the same of two lists, one by one
  pub AllSame : Tys → Tys → Type 0
  AllSame no_tys no_tys = ⊤
  AllSame (more_tys t ts) (more_tys u us) = Same t u × AllSame ts us
  AllSame _ _ = ⊥

-- two types of a context are equal
abbrev pub TypeEqual : ℕ → List Sort → Ty → Ty → Type 0
TypeEqual types sorts t u = IsWellFormed types sorts t × IsWellFormed types sorts u × Same t u
