-- The context in which an expression by itself is checked.
use Rattle.std.specs.Prelude.{ℕ, ◌≡◌, ◌<◌, ◌^◌, List, [], length, None}
use Rattle.core_syntax.specs.declared.index.Sort.{Sort}
use Rattle.core_syntax.specs.declared.ty.Ty.{Ty as Tree}
use Rattle.core_syntax.specs.Syntax.{Ty}
use Rattle.core_syntax.specs.Lists.{onto, each, Each, EachTwo}
use Rattle.core_syntax.specs.NormTypes.{norm_ty, measure_ty}
use Rattle.core_syntax.specs.Refine.{ty_of}
use Rattle.core_syntax.specs.Typing.{Context}
use Rattle.type_check.specs.declared.context.Context.{Context as Tree_of_context}
use Rattle.type_check.specs.declared.state.Bound.{Bound}
use Rattle.type_check.specs.Contexts.{IsSound}
use Rattle.type_check.specs.State.{State}

-- the context of a caller's
abbrev pub context_with : Tree_of_context → Context
context_with c = record { defs = each ty_of c.defs; types = c.types; sorts = c.sorts; terms = each ty_of c.terms }

-- a type that is well formed with these variables, has array types in their places, and is not too large
pub record IsHeld (types : ℕ) (sorts : List Sort) (t : Ty) : Type 0 where
  pub sound : IsSound types sorts t
  pub fits : measure_ty t ≡ None

-- the types of a context are held, those of the definitions without variables; fewer than 2^31 variables of each space are in scope
pub record IsWellMadeContext (Γ : Context) : Type 0 where
  pub defs : Each (IsHeld 0 []) Γ.defs
  pub terms : Each (IsHeld Γ.types Γ.sorts) Γ.terms
  pub types_few : Γ.types < 2 ^ 31
  pub sorts_few : length Γ.sorts < 2 ^ 31
  pub terms_few : length Γ.terms < 2 ^ 31

-- the normal type of a type
abbrev pub IsNormal : Ty → Tree → Type 0
IsNormal t n = ty_of n ≡ norm_ty t

-- a term variable of a type, bound where so many type variables and index variables are in scope
abbrev pub IsKnown : ℕ → ℕ → Ty → Bound → Type 0
IsKnown types indices t b = (ty_of b.ty ≡ norm_ty t) × (b.types ≡ types) × (b.indices ≡ indices)

-- the state in a context: its variables and the normal forms of its types
pub record IsWithin (Γ : Context) (s : State) : Type 0 where
  pub defs : EachTwo IsNormal Γ.defs s.defs
  pub types : s.types ≡ Γ.types
  pub sorts : onto s.sorts [] ≡ Γ.sorts
  pub terms : EachTwo (IsKnown s.types (length s.sorts)) Γ.terms (onto s.terms [])
