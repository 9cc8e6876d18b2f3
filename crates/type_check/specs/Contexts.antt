-- Contexts of a checker: its types are normal, and equal to those that the program writes.
use Rattle.std.specs.Prelude.{ℕ, ◌≡◌, ◌<◌, ◌^◌, true, List, [], length}
use Rattle.core_syntax.specs.declared.index.Sort.{Sort}
use Rattle.core_syntax.specs.Syntax.{Ty}
use Rattle.core_syntax.specs.Lists.{Each, EachTwo}
use Rattle.core_syntax.specs.Kinds.{IsWellFormed, is_atom_kind}
use Rattle.core_syntax.specs.TypeEqual.{Same}
use Rattle.core_syntax.specs.Made.{Scope, IsArray, HoldsArrays}
use Rattle.core_syntax.specs.Typing.{Context}

-- two contexts have the same variables, with equal types
pub record Like (Γ N : Context) : Type 0 where
  pub types : Γ.types ≡ N.types
  pub sorts : Γ.sorts ≡ N.sorts
  pub defs : EachTwo Same Γ.defs N.defs
  pub terms : EachTwo Same Γ.terms N.terms

-- an array type with array types in their places, well formed with these variables
pub record IsSound (types : ℕ) (sorts : List Sort) (t : Ty) : Type 0 where
  pub formed : IsWellFormed types sorts t
  pub top : IsArray t
  pub inside : HoldsArrays t

-- the types of a context are sound, those of the definitions without variables; fewer than 2^31 variables of each space are in scope
pub record IsReady (N : Context) : Type 0 where
  pub defs : Each (IsSound 0 []) N.defs
  pub terms : Each (IsSound N.types N.sorts) N.terms
  pub types_few : N.types < 2 ^ 31
  pub sorts_few : length N.sorts < 2 ^ 31
  pub terms_few : length N.terms < 2 ^ 31

-- how many of each are in scope
abbrev pub scope_of : Context → Scope
scope_of N = record { defs = length N.defs; types = N.types; indices = length N.sorts; terms = length N.terms }

-- an atom type with array types in their places, well formed with the variables of a context
pub record IsSoundAtom (Γ : Context) (t : Ty) : Type 0 where
  pub formed : IsWellFormed Γ.types Γ.sorts t
  pub top : is_atom_kind t ≡ true
  pub inside : HoldsArrays t
