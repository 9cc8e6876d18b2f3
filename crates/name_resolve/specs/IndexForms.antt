-- What indices mean: n, x, (+ i ...), (shape i ...), (++ i ...).
use Rattle.std.specs.Prelude.{pos, Option, Some, None, Ok, Err, List}
use Rattle.core_syntax.specs.declared.span.Span.{Span}
use Rattle.core_syntax.specs.Syntax.{Index, Num, Var, Sum, Dims, Join, Indices, end, more}
use Rattle.sexp_reader.specs.declared.pieces.Leaf.TheVariants as leaf
use Rattle.sexp_reader.specs.Forms.{Form, Atom, Group, Forms, no_forms, more_forms}
use Rattle.name_resolve.specs.declared.words.IndexWord.{IndexWord}
use Rattle.name_resolve.specs.declared.words.IndexWord.TheVariants as word
use Rattle.name_resolve.specs.Lists.{form_place}
use Rattle.name_resolve.specs.Reading.{Read, mapped, both}
use Rattle.name_resolve.specs.Scopes.{Name, looked_up}
use Rattle.name_resolve.specs.Words.{index_word}

-- a form that has no meaning where it stands
abbrev pub malformed : {A : Type 0} → Form → Read A
malformed f = Err (7, form_place f)

-- the word at the head of a list
abbrev pub index_head : Form → Option IndexWord
index_head (Atom at (leaf.Symbol w)) = index_word w
index_head f = None

-- (+ i ...), (shape i ...), (++ i ...)
abbrev pub index_made : IndexWord → Span → Indices → Index
index_made word.Plus at is = Sum at is
index_made word.Shape at is = Dims at is
index_made word.Join at is = Join at is

-- an index, where these index variables are in scope
abbrev mutual
  pub index : List Name → Form → Read Index
  index xs (Atom at (leaf.Int (pos n))) = Ok (Num at n)
  index xs (Atom at (leaf.Symbol x)) = looked_up at (Var at) x xs
  index xs (Group at (more_forms f fs)) = elim (index_head f) [ Some w ↦ mapped (index_made w at) (indices xs fs) | None ↦ Err (7, at) ]
  index xs f = malformed f

  pub indices : List Name → Forms → Read Indices
  indices xs no_forms = Ok end
  indices xs (more_forms f fs) = both more (index xs f) (indices xs fs)
