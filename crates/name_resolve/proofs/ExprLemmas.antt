-- Lists that are expressions or atoms.
use Rattle.std.proofs.Common.{◌≡◌, refl, ap, ◌∙◌, ◌+◌, ◌<◌, arith, List, [], ◌∷◌, Option, Some, None, Err}
use Rattle.core_syntax.specs.declared.span.Span.{Span}
use Rattle.core_syntax.specs.declared.expr.Expr.{Expr}
use Rattle.core_syntax.specs.declared.expr.Atom.{Atom}
use Rattle.core_syntax.specs.Lists.{each}
use Rattle.core_syntax.specs.Refine.{index_of, indices_of, expr_of, exprs_of, atom_of, atoms_of}
use Rattle.core_syntax.specs.Syntax as syntax
use Rattle.core_syntax.specs.declared.index.Index.{Index}
use Rattle.sexp_reader.specs.declared.sexp.Sexp.{Sexp}
use Rattle.sexp_reader.specs.Forms.{Form, Atom as Token, Group, Forms, no_forms, more_forms, form_of, forms_of, form_size, forms_size, forms_count}
use Rattle.name_resolve.specs.declared.words.AtomWord.{AtomWord}
use Rattle.name_resolve.specs.declared.words.ExprWord.{ExprWord}
use Rattle.name_resolve.specs.declared.words.ExprWord.TheVariants as expr_word
use Rattle.name_resolve.specs.Lists.{form_place, listed, the_one, the_two}
use Rattle.name_resolve.specs.Reading.{Read, mapped}
use Rattle.name_resolve.specs.Scopes.{Scopes}
use Rattle.name_resolve.specs.TermForms.{scalar, atom_head, expr_head, list_atom, array, frame, unbox, type_app, index_app, app, expr, exprs, atom, atoms, nth_expr, last_in}
use Rattle.name_resolve.proofs.ListLemmas.{place_of}
use Rattle.name_resolve.proofs.Loops.{before}

-- what a list of a head, a first part and others means, by its words
abbrev pub worded : Scopes → Span → Form → Form → Forms → Option ExprWord → Option AtomWord → Read syntax.Expr
worded Γ at f p fs o w =
    elim o [
      | Some expr_word.Array ↦ array Γ at p fs (atoms Γ fs)
      | Some expr_word.Frame ↦ frame Γ at p fs (exprs Γ fs)
      | Some expr_word.Unbox ↦ unbox Γ at p fs (last_in Γ p) (λ Δ. nth_expr 1 Δ fs)
      | Some expr_word.TypeApp ↦ type_app Γ at fs (expr Γ p)
      | Some expr_word.IndexApp ↦ index_app Γ at fs (expr Γ p)
      | None ↦ elim w [
        | Some v ↦ mapped (scalar at) (list_atom Γ at v p fs (λ k Δ. nth_expr k Δ fs))
        | None ↦ app at (expr Γ f) (expr Γ p) (exprs Γ fs)
      ]
    ]

abbrev pub worded_atom : Scopes → Span → Form → Forms → Option AtomWord → Read syntax.Atom
worded_atom Γ at p fs w = elim w [ Some v ↦ list_atom Γ at v p fs (λ k Δ. nth_expr k Δ fs) | None ↦ Err (7, at) ]

-- a form whose items are these
listed_group : (x : Sexp) (slice : List Sexp) → listed (form_of x) ≡ Some (forms_of slice) → form_of x ≡ Group x.at (forms_of slice)
listed_group x slice h = go (form_of x) h ∙ ap (λ at. Group at (forms_of slice)) (place_of x)
  where
    go : (f : Form) → listed f ≡ Some (forms_of slice) → f ≡ Group (form_place f) (forms_of slice)
    go (Token at l) h = absurd (cc)
    go (Group at fs) h = let e : fs ≡ forms_of slice = cc in ap (Group at) e

module _ (Γ : Scopes) (form : Sexp) (slice : List Sexp) (e : listed (form_of form) ≡ Some (forms_of slice)) where
  pub expr_short : forms_count (forms_of slice) < 2 → expr Γ (form_of form) ≡ Err (7, form.at)
  expr_short h = ap (expr Γ) (listed_group form slice e) ∙ go (forms_of slice) h
    where
      go : (fs : Forms) → forms_count fs < 2 → expr Γ (Group form.at fs) ≡ Err (7, form.at)
      go no_forms h = refl
      go (more_forms f no_forms) h = refl
      go (more_forms f (more_forms p fs)) h = absurd (omega arith)

  pub atom_short : forms_count (forms_of slice) < 2 → atom Γ (form_of form) ≡ Err (7, form.at)
  atom_short h = ap (atom Γ) (listed_group form slice e) ∙ go (forms_of slice) h
    where
      go : (fs : Forms) → forms_count fs < 2 → atom Γ (Group form.at fs) ≡ Err (7, form.at)
      go no_forms h = refl
      go (more_forms f no_forms) h = refl
      go (more_forms f (more_forms p fs)) h = absurd (omega arith)

  module _ (f p : Form) (gs fs : Forms) (l : forms_of slice ≡ more_forms f gs) (m : gs ≡ more_forms p fs) where
    parts_listed : form_of form ≡ Group form.at (more_forms f (more_forms p fs))
    parts_listed = listed_group form slice e ∙ ap (Group form.at) (l ∙ ap (more_forms f) m)

    pub expr_worded : (o : Option ExprWord) (w : Option AtomWord) → expr_head f ≡ o → atom_head f ≡ w → expr Γ (form_of form) ≡ worded Γ form.at f p fs o w
    expr_worded o w h k = ap (expr Γ) parts_listed ∙ ap (λ o. worded Γ form.at f p fs o (atom_head f)) h ∙ ap (worded Γ form.at f p fs o) k

    pub atom_worded : (w : Option AtomWord) → atom_head f ≡ w → atom Γ (form_of form) ≡ worded_atom Γ form.at p fs w
    atom_worded w k = ap (atom Γ) parts_listed ∙ ap (worded_atom Γ form.at p fs) k

    -- the sizes of the parts
    pub parts_fit : form_size (form_of form) ≡ 1 + (form_size f + (form_size p + forms_size fs))
    parts_fit = ap form_size parts_listed

    pub args_size : forms_size gs ≡ form_size p + forms_size fs
    args_size = ap forms_size m

-- the expressions and atoms of trees in front of none
pub exprs-none : (es : List Expr) → before expr_of syntax.more_exprs es syntax.no_exprs ≡ exprs_of es
exprs-none [] = refl
exprs-none (e ∷ es) = ap (syntax.more_exprs (expr_of e)) (exprs-none es)

pub atoms-none : (xs : List Atom) → before atom_of syntax.more_atoms xs syntax.no_atoms ≡ atoms_of xs
atoms-none [] = refl
atoms-none (x ∷ xs) = ap (syntax.more_atoms (atom_of x)) (atoms-none xs)

-- the items of the indices of trees
pub index_items-of : (is : List Index) → syntax.index_items (indices_of is) ≡ each index_of is
index_items-of [] = refl
index_items-of (i ∷ is) = ap (λ js. index_of i ∷ js) (index_items-of is)

-- one form and two
pub one_is : (fs : Forms) (q : Form) → fs ≡ more_forms q no_forms → the_one fs ≡ Some q
one_is fs q e = ap the_one e

pub two_is : (fs : Forms) (q e : Form) → fs ≡ more_forms q (more_forms e no_forms) → the_two fs ≡ Some (record { left = q; right = e })
two_is fs q e h = ap the_two h
