-- The names in scope.
use Rattle.std.specs.Prelude.{ℕ, ◌+◌, ◌<◌, ◌^◌, List, [], ◌∷◌, length, Option, Some, None, Ok, Err, if◌then◌else◌}
use Rattle.std.specs.Str.{bytes_eq}
use Rattle.core_syntax.specs.declared.span.Span.{Span}
use Rattle.core_syntax.specs.Lists.{onto}
use Rattle.name_resolve.specs.declared.words.NameSpace.{NameSpace}
use Rattle.name_resolve.specs.declared.words.NameSpace.TheVariants as space
use Rattle.name_resolve.specs.Reading.{Read}

abbrev pub Name : Type 0
Name = List ℕ

-- the names in scope: the definitions in their order, the binders of each space with the innermost first
pub record Scopes : Type 0 where
  pub defs : List Name
  pub terms : List Name
  pub types : List Name
  pub indices : List Name

-- under binders of a space, of which the last is the innermost
abbrev pub under : NameSpace → List Name → Scopes → Scopes
under space.Terms xs Γ = record Γ { terms = onto xs Γ.terms }
under space.Types xs Γ = record Γ { types = onto xs Γ.types }
under space.Indices xs Γ = record Γ { indices = onto xs Γ.indices }

-- no binder in scope, behind these definitions
abbrev pub behind : List Name → Scopes
behind defs = record { defs = defs; terms = []; types = []; indices = [] }

-- how many names stand before this one
abbrev pub number_of : Name → List Name → Option ℕ
number_of x [] = None
number_of x (y ∷ ys) = if bytes_eq x y then Some 0 else elim (number_of x ys) [ Some k ↦ Some (k + 1) | None ↦ None ]

-- a name that is looked up
abbrev pub looked_up : {A : Type 0} → Span → (ℕ → A) → Name → List Name → Read A
looked_up at f x ys = elim (number_of x ys) [ Some k ↦ Ok (f k) | None ↦ Err (8, at) ]

-- in each space, and among the definitions, there is room for so many names more
pub record HasRoom (Γ : Scopes) (n : ℕ) : Type 0 where
  pub defs : length Γ.defs + n < 2 ^ 31
  pub terms : length Γ.terms + n < 2 ^ 31
  pub types : length Γ.types + n < 2 ^ 31
  pub indices : length Γ.indices + n < 2 ^ 31
