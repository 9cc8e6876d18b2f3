-- Forms of a size have no longer list.
use Rattle.std.proofs.Common.{ℕ, ◌≤◌, ◌<◌, ◌^◌, ◌≡◌, List, length, Result, Ok, Err, IfOk, arith}
use Rattle.sexp_reader.specs.declared.pieces.Leaf.{Leaf}
use Rattle.sexp_reader.specs.declared.pieces.Leaf.TheVariants as leaf
use Rattle.sexp_reader.specs.Forms.{Form, Atom, Group, Forms, no_forms, more_forms, form_size, forms_size, forms_count, IsShortLeaf, IsShort, AreShort}
use Rattle.sexp_reader.specs.Reads.{marks, forms_marks}
use Rattle.sexp_reader.specs.Sizes.{leaf_size}
use Rattle.sexp_reader.specs.Tokens.{lexed}
use Rattle.sexp_reader.proofs.Weights.{forms_within}

pub some_size : (f : Form) → 0 < form_size f
some_size (Atom at (leaf.Int z)) = omega arith
some_size (Atom at (leaf.Bool b)) = omega arith
some_size (Atom at (leaf.Char c)) = omega arith
some_size (Atom at (leaf.Text t)) = omega arith
some_size (Atom at (leaf.Symbol t)) = omega arith
some_size (Group at fs) = omega arith

pub count_within : (fs : Forms) → forms_count fs ≤ forms_size fs
count_within no_forms = omega arith
count_within (more_forms f fs) = omega (arith, some_size f, count_within fs)

short_leaf : (l : Leaf) → leaf_size l ≤ 2 ^ 24 → IsShortLeaf l
short_leaf (leaf.Int z) h = tt
short_leaf (leaf.Bool b) h = tt
short_leaf (leaf.Char c) h = tt
short_leaf (leaf.Text t) h = omega arith
short_leaf (leaf.Symbol t) h = tt

mutual
  short_form : (f : Form) → form_size f ≤ 2 ^ 24 → IsShort f
  short_form (Atom at l) h = short_leaf l h
  short_form (Group at fs) h = (omega (arith, count_within fs), short_forms fs (omega arith))

  pub short_forms : (fs : Forms) → forms_size fs ≤ 2 ^ 24 → AreShort fs
  short_forms no_forms h = tt
  short_forms (more_forms f fs) h = (short_form f (omega arith), short_forms fs (omega arith))

pub result_short : {V E : Type 0} (view : V → Forms) (r : Result V E) (b : List ℕ) → length b ≤ 2 ^ 24 → IfOk r (λ v. marks (lexed b) ≡ forms_marks (view v)) → IfOk r (λ v. AreShort (view v))
result_short view (Ok v) b few h = short_forms (view v) (omega (arith, forms_within b (view v) h))
result_short view (Err e) b few h = tt
