-- Forms as plain data, and the forms that trees of the program stand for.
use Rattle.std.specs.Prelude.{ℕ, ◌+◌, ◌-◌, ◌≤◌, ◌^◌, max, List, [], ◌∷◌, length, Option, Some, None, nat_le, if◌then◌else◌, ⊤}
use Rattle.core_syntax.specs.declared.span.Span.{Span}
use Rattle.sexp_reader.specs.declared.pieces.Leaf.{Leaf}
use Rattle.sexp_reader.specs.declared.pieces.Leaf.TheVariants as leaf
use Rattle.sexp_reader.specs.declared.sexp.Sexp.{Sexp}
use Rattle.sexp_reader.specs.declared.sexp.SexpForm.{SexpForm, Row_of-Sexp, end_of-Sexp, more_of-Sexp}
use Rattle.sexp_reader.specs.declared.sexp.SexpForm.TheVariants.{Int, Bool, Char, Text, Symbol, Seq'}
use Rattle.sexp_reader.specs.Sizes.{leaf_size}

mutual
  -- a form that is one token, or a list
  pub data Form : Type 0 where
    Atom : Span → Leaf → Form
    Group : Span → Forms → Form

  pub data Forms : Type 0 where
    no_forms : Forms
    more_forms : Form → Forms → Forms

abbrev mutual
  pub form_at : Span → SexpForm → Form
  form_at at (Int z) = Atom at (leaf.Int z)
  form_at at (Bool b) = Atom at (leaf.Bool b)
  form_at at (Char c) = Atom at (leaf.Char c)
  form_at at (Text t) = Atom at (leaf.Text t)
  form_at at (Symbol t) = Atom at (leaf.Symbol t)
  form_at at (Seq' shape row) = Group at (row_forms row)

  pub row_forms : {m : _} → Row_of-Sexp m → Forms
  row_forms end_of-Sexp = no_forms
  row_forms (more_of-Sexp at form rest) = more_forms (form_at at form) (row_forms rest)

-- the form of a token
abbrev pub leaf_form : Leaf → SexpForm
leaf_form (leaf.Int z) = Int z
leaf_form (leaf.Bool b) = Bool b
leaf_form (leaf.Char c) = Char c
leaf_form (leaf.Text t) = Text t
leaf_form (leaf.Symbol t) = Symbol t

-- the form of a tree, and the forms of a list of trees
abbrev pub form_of : Sexp → Form
form_of x = form_at x.at x.form

abbrev pub forms_of : List Sexp → Forms
forms_of [] = no_forms
forms_of (x ∷ xs) = more_forms (form_of x) (forms_of xs)

-- 1 for each form, lists and their items included, and 1 more for each byte of a string
abbrev mutual
  pub form_size : Form → ℕ
  form_size (Atom at l) = leaf_size l
  form_size (Group at fs) = 1 + forms_size fs

  pub forms_size : Forms → ℕ
  forms_size no_forms = 0
  forms_size (more_forms f fs) = form_size f + forms_size fs

-- how many forms there are in a list
abbrev pub forms_count : Forms → ℕ
forms_count no_forms = 0
forms_count (more_forms f fs) = 1 + forms_count fs

-- each string and each list in forms has at most 2^24 items
abbrev pub IsShortLeaf : Leaf → Type 0
IsShortLeaf (leaf.Int z) = ⊤
IsShortLeaf (leaf.Bool b) = ⊤
IsShortLeaf (leaf.Char c) = ⊤
IsShortLeaf (leaf.Text t) = length t ≤ 2 ^ 24
IsShortLeaf (leaf.Symbol t) = ⊤

abbrev mutual
  pub IsShort : Form → Type 0
  IsShort (Atom at l) = IsShortLeaf l
  IsShort (Group at fs) = (forms_count fs ≤ 2 ^ 24) × AreShort fs

  pub AreShort : Forms → Type 0
  AreShort no_forms = ⊤
  AreShort (more_forms f fs) = IsShort f × AreShort fs

-- how many lists are inside one another
abbrev mutual
  pub form_nesting : Form → ℕ
  form_nesting (Atom at l) = 0
  form_nesting (Group at fs) = 1 + forms_nesting fs

  pub forms_nesting : Forms → ℕ
  forms_nesting no_forms = 0
  forms_nesting (more_forms f fs) = max (form_nesting f) (forms_nesting fs)

-- how much of the room is left behind so much, where there is as much
abbrev pub room_behind : ℕ → ℕ → Option ℕ
room_behind size room = if nat_le size room then Some (room - size) else None
