-- Parts of lists of trees.
use Rattle.std.proofs.Common.{◌≡◌, refl, ap, ◌∙◌, arith, List, [], ◌∷◌, length, Option, Some, None, false, ◌==◌, Err}
use Rattle.sexp_reader.specs.declared.sexp.Sexp.{Sexp}
use Rattle.sexp_reader.specs.declared.sexp.SexpForm.TheVariants.{Seq}
use Rattle.sexp_reader.specs.Forms.{Form, Atom, Group, Forms, no_forms, more_forms, form_of, forms_of, forms_count}
use Rattle.core_syntax.specs.declared.span.Span.{Span}
use Rattle.sexp_reader.specs.declared.sexp.SexpForm.{SexpForm}
use Rattle.sexp_reader.specs.declared.sexp.SexpForm.TheVariants.{Int, Bool, Char, Text, Symbol, Seq'}
use Rattle.sexp_reader.specs.Forms.{form_at}
use Rattle.name_resolve.specs.IndexForms.{malformed}
use Rattle.name_resolve.specs.Lists.{form_place, listed, some_listed, the_one, Two, the_two, the_three, pair}
use Rattle.name_resolve.specs.Reading.{Read}
use Rattle.name_resolve.proofs.IndexLemmas.{is_group}

pub listed_seq : (form : Sexp) (items slice : List Sexp) → form.form ≡ Seq items → slice ≡ items → listed (form_of form) ≡ Some (forms_of slice)
listed_seq form items slice e s = ap listed (is_group form items slice e s)

-- as many forms as trees
pub count_of : (xs : List Sexp) → forms_count (forms_of xs) ≡ length xs
count_of [] = refl
count_of (x ∷ xs) = omega (arith, count_of xs)

pub not_one : (xs : List Sexp) → ¬ (length xs ≡ 1) → the_one (forms_of xs) ≡ None
not_one [] h = refl
not_one (x ∷ []) h = absurd (h refl)
not_one (x ∷ y ∷ zs) h = refl

pub not_two : (xs : List Sexp) → ¬ (length xs ≡ 2) → the_two (forms_of xs) ≡ None
not_two [] h = refl
not_two (x ∷ []) h = refl
not_two (x ∷ y ∷ []) h = absurd (h refl)
not_two (x ∷ y ∷ z ∷ zs) h = refl

pub not_three : (xs : List Sexp) → ¬ (length xs ≡ 3) → the_three (forms_of xs) ≡ None
not_three [] h = refl
not_three (x ∷ []) h = refl
not_three (x ∷ y ∷ []) h = refl
not_three (x ∷ y ∷ z ∷ []) h = absurd (h refl)
not_three (x ∷ y ∷ z ∷ w ∷ ws) h = refl

pub not_empty : (xs : List Sexp) → false ≡ (length xs == 0) → ¬ (xs ≡ [])
not_empty [] h e = absurd (cc)
not_empty (x ∷ xs) h e = absurd (cc)

-- a list with items, and one without
pub listed_some : (f : Form) (xs : List Sexp) → listed f ≡ Some (forms_of xs) → ¬ (xs ≡ []) → some_listed f ≡ Some (forms_of xs)
listed_some (Atom at l) xs h n = absurd (cc)
listed_some (Group at fs) [] h n = absurd (n refl)
listed_some (Group at no_forms) (x ∷ xs) h n = absurd (cc)
listed_some (Group at (more_forms f fs)) (x ∷ xs) h n = h

pub listed_empty : (f : Form) (xs : List Sexp) → listed f ≡ Some (forms_of xs) → xs ≡ [] → some_listed f ≡ None
listed_empty (Atom at l) xs h n = refl
listed_empty (Group at no_forms) xs h n = refl
listed_empty (Group at (more_forms f fs)) [] h n = absurd (cc)
listed_empty (Group at (more_forms f fs)) (x ∷ xs) h n = absurd (cc)

pub listed_none : (f : Form) → listed f ≡ None → some_listed f ≡ None
listed_none (Atom at l) h = refl
listed_none (Group at fs) h = absurd (cc)

-- pairs are lists of two
pub pair_none : (f : Form) → listed f ≡ None → pair f ≡ None
pair_none (Atom at l) h = refl
pair_none (Group at fs) h = absurd (cc)

pub pair_listed : (f : Form) (fs : Forms) → listed f ≡ Some fs → pair f ≡ the_two fs
pair_listed (Atom at l) fs h = absurd (cc)
pair_listed (Group at gs) fs h = let e : gs ≡ fs = cc in ap the_two e

-- where a tree stands
place_at : (at : Span) (form : SexpForm) → form_place (form_at at form) ≡ at
place_at at (Int z) = refl
place_at at (Bool b) = refl
place_at at (Char c) = refl
place_at at (Text t) = refl
place_at at (Symbol t) = refl
place_at at (Seq' s row) = refl

pub place_of : (x : Sexp) → form_place (form_of x) ≡ x.at
place_of x = place_at x.at x.form

-- a reading of the second part of what is no pair
pub no_pair : {A : Type 0} (one : Form → Read A) (x : Sexp) → pair (form_of x) ≡ None →
    ◌≡◌ {A = Read A} (elim (pair (form_of x)) [ Some p ↦ one p.right | None ↦ malformed (form_of x) ]) (Err (7, x.at))
no_pair {A} one x h = go (pair (form_of x)) h ∙ ap (λ at. Err (7, at)) (place_of x)
  where
    go : (o : Option Two) → o ≡ None → ◌≡◌ {A = Read A} (elim o [ Some p ↦ one p.right | None ↦ malformed (form_of x) ]) (Err (7, form_place (form_of x)))
    go None h = refl
    go (Some p) h = absurd (cc)
