-- How the program holds binders.
use Rattle.std.specs.Prelude.{List, map, Option, Ok}
use Rattle.core_syntax.specs.declared.span.Span.{Span}
use Rattle.sexp_reader.specs.Forms.{Form, Forms}
use Rattle.name_resolve.specs.declared.binders.Binder.{Binder}
use Rattle.name_resolve.specs.declared.binders.Listing.{Listing}
use Rattle.name_resolve.specs.declared.binders.Listing.TheVariants.{Alone, Paired}
use Rattle.name_resolve.specs.declared.words.NameSpace.{NameSpace}
use Rattle.name_resolve.specs.Binders.{binder, pair_binder, binders}
use Rattle.name_resolve.specs.Reading.{Read, asked}
use Rattle.name_resolve.specs.Scopes.{Name}
use Rattle.name_resolve.specs.Binders as spec

-- a binder, and binders
abbrev pub held : Binder → spec.Binder
held b = record { at = b.at; name = b.name.now }

abbrev pub held_all : List Binder → List spec.Binder
held_all bs = map held bs

-- the names of binders
abbrev pub held_names : List Binder → List Name
held_names bs = map (λ b. b.name.now) bs

-- the binder of a form that stands alone or in a pair
abbrev pub listed_binder : Listing → NameSpace → Form → Option spec.Binder
listed_binder Alone space f = binder space f
listed_binder Paired space f = pair_binder space f

abbrev pub listed_binders : Listing → NameSpace → Forms → Option (List spec.Binder)
listed_binders listing space fs = binders (listed_binder listing space) fs

-- the binders that forms are in a form at this place
abbrev pub read_binders : Span → Listing → NameSpace → Forms → Read (List spec.Binder)
read_binders at listing space fs = asked at (listed_binders listing space fs) (λ bs. Ok bs)
