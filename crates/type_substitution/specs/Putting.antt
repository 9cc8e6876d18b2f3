-- What is put in the place of variables, where binders stand around the place.
use Rattle.std.specs.Prelude.{ℕ, ◌+◌, List}
use Rattle.core_syntax.specs.declared.index.Index.{Index as IndexTree}
use Rattle.core_syntax.specs.declared.ty.Ty.{Ty as TyTree}
use Rattle.core_syntax.specs.declared.term.TermExpr.{TermExpr}
use Rattle.core_syntax.specs.Syntax.{Index, Ty}
use Rattle.core_syntax.specs.Lists.{each}
use Rattle.core_syntax.specs.Refine.{index_of, ty_of}
use Rattle.core_syntax.specs.RefineTerms.{term_of}
use Rattle.core_syntax.specs.Subst.{Fates, put_all, past_n, under_n, indices_under, ty_under_type, fates_under_index}
use Rattle.core_syntax.specs.TermPut.{terms_under}
use Rattle.core_syntax.specs.Typed.{TypedTerm, TypedPuts}

-- a number, n greater
abbrev pub up : ℕ → ℕ → ℕ
up n k = n + k

-- a variable's number under n binders more, where those below `from` are bound inside
abbrev pub moved_from : ℕ → ℕ → ℕ → ℕ
moved_from n from = past_n from (up n)

-- the fates of index variables under so many index binders, where these indices are put
abbrev pub indices_at : ℕ → List IndexTree → Fates Index
indices_at n is = indices_under n (put_all (each index_of is))

-- the fates of type variables under so many type binders and index binders, where these types are put
abbrev pub types_at : ℕ → ℕ → List TyTree → Fates Ty
types_at n m ts = fates_under_index m (under_n n ty_under_type (put_all (each ty_of ts)))

-- the fates of both under so many index binders and type binders
abbrev pub puts_at : ℕ → ℕ → List IndexTree → List TyTree → TypedPuts
puts_at m n is ts = record { indices = indices_at m is; types = types_at n m ts }

-- the fates of term variables under so many term binders, where these terms are put
abbrev pub terms_at : ℕ → List TermExpr → Fates TypedTerm
terms_at n ts = terms_under n (put_all (each term_of ts))
