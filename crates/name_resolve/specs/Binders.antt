-- Binders.
use Rattle.std.specs.Prelude.{List, [], ◌∷◌, Option, Some, None, Ok, Err, if◌then◌else◌}
use Rattle.core_syntax.specs.declared.span.Span.{Span}
use Rattle.sexp_reader.specs.declared.pieces.Leaf.TheVariants as leaf
use Rattle.sexp_reader.specs.Forms.{Form, Atom, Forms, no_forms, more_forms}
use Rattle.name_resolve.specs.declared.words.NameSpace.{NameSpace}
use Rattle.name_resolve.specs.Lists.{pair}
use Rattle.name_resolve.specs.Reading.{Read, mapped, asked}
use Rattle.name_resolve.specs.Scopes.{Name, number_of}
use Rattle.name_resolve.specs.Words.{reserved}

-- a binder: its place and its name
pub record Binder : Type 0 where
  pub at : Span
  pub name : Name

-- a form that is a binder of a space: a symbol that isn't reserved there
abbrev pub binder : NameSpace → Form → Option Binder
binder space (Atom at (leaf.Symbol x)) = if reserved space x then None else Some (record { at = at; name = x })
binder space f = None

-- a pair whose first part is a binder of a space
abbrev pub pair_binder : NameSpace → Form → Option Binder
pair_binder space f = elim (pair f) [ Some p ↦ binder space p.left | None ↦ None ]

abbrev pub one_more : {A : Type 0} → Option A → Option (List A) → Option (List A)
one_more (Some a) (Some rest) = Some (a ∷ rest)
one_more (Some a) None = None
one_more None rest = None

-- forms that each are a binder
abbrev pub binders : (Form → Option Binder) → Forms → Option (List Binder)
binders bound no_forms = Some []
binders bound (more_forms f fs) = one_more (bound f) (binders bound fs)

-- the names of binders, 9 at the first that repeats one of these or of those before it
abbrev pub distinct_behind : List Name → List Binder → Read (List Name)
distinct_behind before [] = Ok []
distinct_behind before (b ∷ bs) =
    elim (number_of b.name before) [
      | Some k ↦ Err (9, b.at)
      | None ↦ mapped (λ xs. b.name ∷ xs) (distinct_behind (b.name ∷ before) bs)
    ]

-- the names that forms bind in a form at this place: 7 at the form, 9 at the first that repeats an earlier one
abbrev pub bound_names : Span → Option (List Binder) → Read (List Name)
bound_names at bs = asked at bs (distinct_behind [])
