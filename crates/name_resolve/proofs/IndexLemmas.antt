-- The index of a tree that is a list.
use Rattle.std.proofs.Common.{◌≡◌, refl, sym, ap, ◌∙◌, ℕ, zero, suc, ◌<◌, arith, List, [], ◌∷◌, length, take, ◌-◌, drop, get_or, ◌≤◌, Err, Some, None}
use Rattle.sexp_reader.specs.declared.sexp.Sexp.{Sexp}
use Rattle.sexp_reader.specs.declared.sexp.SexpForm.TheVariants.{Seq}
use Rattle.sexp_reader.proofs.Trees.{form_at_seq}
use Rattle.sexp_reader.specs.Forms.{Form, Group, Forms, no_forms, more_forms, form_at, form_of, forms_of}
use Rattle.core_syntax.specs.declared.span.Span.{Span}
use Rattle.name_resolve.specs.declared.words.IndexWord.{IndexWord}
use Rattle.core_syntax.specs.declared.index.Index.{Index}
use Rattle.core_syntax.specs.Refine.{index_of, indices_of}
use Rattle.core_syntax.specs.Syntax as syntax
use Rattle.name_resolve.specs.Reading.{mapped}
use Rattle.name_resolve.proofs.Loops.{before}
use Rattle.name_resolve.specs.IndexForms.{index, indices, index_made, index_head}

-- what a tree that is a list stands for
pub is_group : (form : Sexp) (items slice : List Sexp) → form.form ≡ Seq items → slice ≡ items → form_of form ≡ Group form.at (forms_of slice)
is_group form items slice e s = ap (form_at form.at) e ∙ form_at_seq form.at items ∙ ap (λ xs. Group form.at (forms_of xs)) (sym s)

-- all but the first
abbrev pub rest : List Sexp → List Sexp
rest slice = take (length slice - 1) (drop 1 slice)

take_all : (n : ℕ) (xs : List Sexp) → length xs ≤ n → take n xs ≡ xs
take_all zero [] h = refl
take_all (suc n) [] h = refl
take_all zero (x ∷ xs) h = absurd (omega arith)
take_all (suc n) (x ∷ xs) h = ap (λ ys. x ∷ ys) (take_all n xs (omega arith))

first_of : (slice : List Sexp) (head d : Sexp) → 1 ≤ length slice → head ≡ get_or slice 0 d → forms_of slice ≡ more_forms (form_of head) (forms_of (rest slice))
first_of [] head d l h = absurd (omega arith)
first_of (x ∷ xs) head d l h = ap (λ y. more_forms (form_of y) (forms_of xs)) (sym h) ∙ ap (λ ys. more_forms (form_of head) (forms_of ys)) (sym (take_all (length (x ∷ xs) - 1) xs (omega arith)))

-- one with a first form
pub is_headed : (form : Sexp) (items slice : List Sexp) (head d : Sexp) → form.form ≡ Seq items → slice ≡ items → 1 ≤ length slice → head ≡ get_or slice 0 d →
    form_of form ≡ Group form.at (more_forms (form_of head) (forms_of (rest slice)))
is_headed form items slice head d e s l h = is_group form items slice e s ∙ ap (Group form.at) (first_of slice head d l h)

-- one with none
pub is_empty : (form : Sexp) (items slice : List Sexp) → form.form ≡ Seq items → slice ≡ items → length slice < 1 → form_of form ≡ Group form.at no_forms
is_empty form items [] e s l = is_group form items [] e s
is_empty form items (x ∷ xs) e s l = absurd (omega arith)

-- an index form of this word, and one of no word
pub index_of_word : (names : List (List ℕ)) (at : Span) (f : Form) (fs : Forms) (w : IndexWord) → index_head f ≡ Some w → index names (Group at (more_forms f fs)) ≡ mapped (index_made w at) (indices names fs)
index_of_word names at f fs w h = ap (λ o. elim o [ Some w ↦ mapped (index_made w at) (indices names fs) | None ↦ Err (7, at) ]) h

pub index_of_none : (names : List (List ℕ)) (at : Span) (f : Form) (fs : Forms) → index_head f ≡ None → index names (Group at (more_forms f fs)) ≡ Err (7, at)
index_of_none names at f fs h = ap (λ o. elim o [ Some w ↦ mapped (index_made w at) (indices names fs) | None ↦ Err (7, at) ]) h

-- the index of a list of this word, and of no word
module _ (names : List (List ℕ)) (form : Sexp) (items slice : List Sexp) (head d : Sexp) (e : form.form ≡ Seq items) (s : slice ≡ items) (l : 1 ≤ length slice) (h : head ≡ get_or slice 0 d) where
  pub with_word : (w : IndexWord) → index_head (form_of head) ≡ Some w → index names (form_of form) ≡ mapped (index_made w form.at) (indices names (forms_of (rest slice)))
  with_word w p = ap (index names) (is_headed form items slice head d e s l h) ∙ index_of_word names form.at (form_of head) (forms_of (rest slice)) w p

  pub with_none : index_head (form_of head) ≡ None → index names (form_of form) ≡ Err (7, form.at)
  with_none p = ap (index names) (is_headed form items slice head d e s l h) ∙ index_of_none names form.at (form_of head) (forms_of (rest slice)) p

-- the indices of trees in front of none
pub before-none : (xs : List Index) → before index_of syntax.more xs syntax.end ≡ indices_of xs
before-none [] = refl
before-none (x ∷ xs) = ap (syntax.more (index_of x)) (before-none xs)
