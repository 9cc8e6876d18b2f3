-- The start of a run.
use Rattle.std.specs.Prelude.{◌≡◌, List}
use Rattle.core_syntax.specs.Annotate.{annotated}
use Rattle.core_syntax.specs.Notes.{NodeNote}
use Rattle.core_syntax.specs.Subst.{put_all}
use Rattle.core_syntax.specs.Syntax.{Expr}
use Rattle.core_syntax.specs.TermPut.{term_put}
use Rattle.core_syntax.specs.Typed.{typed_rules, TypedTerm}

-- this is the term of a program's body with these terms in the place of its inputs, by the notes of its nodes
abbrev pub StartsAt : Expr → List NodeNote → List TypedTerm → TypedTerm → Type 0
StartsAt e ns ts t = t ≡ term_put typed_rules typed_rules.put_none (put_all ts) (annotated e ns).0
