-- Lists that are types.
use Rattle.std.proofs.Common.{◌≡◌, refl, sym, ap, ◌∙◌, List, [], ◌∷◌, Option, None, Err, true, false, Bool, if◌then◌else◌}
use Rattle.core_syntax.specs.declared.ty.Ty.{Ty}
use Rattle.core_syntax.specs.Kinds.{is_atom_kind}
use Rattle.core_syntax.specs.Lists.{each}
use Rattle.core_syntax.specs.Refine.{ty_of, tys_of}
use Rattle.core_syntax.specs.Syntax as syntax
use Rattle.core_syntax.proofs.TyRows.{at_ty_form}
use Rattle.sexp_reader.specs.declared.sexp.Sexp.{Sexp}
use Rattle.sexp_reader.specs.declared.sexp.SexpForm.TheVariants.{Seq}
use Rattle.sexp_reader.specs.Forms.{Form, Group, Forms, no_forms, more_forms, form_of, forms_of}
use Rattle.name_resolve.specs.declared.words.TypeWord.{TypeWord}
use Rattle.name_resolve.specs.Lists.{the_three}
use Rattle.name_resolve.specs.Scopes.{Scopes}
use Rattle.name_resolve.specs.TypeForms.{type_head, list_ty, ty, arrays_in, as_array}
use Rattle.name_resolve.proofs.IndexLemmas.{is_group}
use Rattle.name_resolve.proofs.Loops.{before}

module _ (Γ : Scopes) (form : Sexp) (items slice : List Sexp) (e : form.form ≡ Seq items) (s : slice ≡ items) where
  -- a list of another length than three
  pub ty_short : the_three (forms_of slice) ≡ None → ty Γ (form_of form) ≡ Err (7, form.at)
  ty_short h = ap (ty Γ) (is_group form items slice e s) ∙ go (forms_of slice) h
    where
      go : (fs : Forms) → the_three fs ≡ None → ty Γ (Group form.at fs) ≡ Err (7, form.at)
      go no_forms h = refl
      go (more_forms f no_forms) h = refl
      go (more_forms f (more_forms p no_forms)) h = refl
      go (more_forms f (more_forms p (more_forms q no_forms))) h = absurd (cc)
      go (more_forms f (more_forms p (more_forms q (more_forms r rs)))) h = refl

  -- a list of a word and two parts
  pub ty_worded : (f p q : Form) (w : Option TypeWord) → forms_of slice ≡ more_forms f (more_forms p (more_forms q no_forms)) → type_head f ≡ w →
      ty Γ (form_of form) ≡ list_ty Γ form.at w p q (arrays_in Γ p) (λ Δ. ty Δ p) (λ Δ. ty Δ q)
  ty_worded f p q w l h =
      ap (ty Γ) (is_group form items slice e s ∙ ap (Group form.at) l) ∙ ap (λ o. list_ty Γ form.at o p q (arrays_in Γ p) (λ Δ. ty Δ p) (λ Δ. ty Δ q)) h

-- the types of trees in front of none
pub before-none : (ts : List Ty) → before ty_of syntax.more_tys ts syntax.no_tys ≡ tys_of ts
before-none [] = refl
before-none (t ∷ ts) = ap (syntax.more_tys (ty_of t)) (before-none ts)

pub before-each : (ts : List Ty) → before ty_of (λ t us. t ∷ us) ts [] ≡ each ty_of ts
before-each [] = refl
before-each (t ∷ ts) = ap (λ us. ty_of t ∷ us) (before-each ts)

pub before-items : {A : Type 0} (xs : List A) → before (λ x. x) (λ x ys. x ∷ ys) xs [] ≡ xs
before-items [] = refl
before-items (x ∷ xs) = ap (λ ys. x ∷ ys) (before-items xs)

-- an atom type in an array type's place
pub array_of_atom : (t : Ty) (u : syntax.Ty) → true ≡ is_atom_kind (ty_of t) → u ≡ syntax.Arr t.at (ty_of t) (syntax.Dims t.at syntax.end) → as_array (ty_of t) ≡ u
array_of_atom t u h e = go (is_atom_kind (ty_of t)) h ∙ ap (λ at. syntax.Arr at (ty_of t) (syntax.Dims at syntax.end)) (at_ty_form t.at t.form) ∙ sym e
  where
    go : (b : Bool) → true ≡ b → (if b then syntax.Arr (syntax.ty_at (ty_of t)) (ty_of t) (syntax.Dims (syntax.ty_at (ty_of t)) syntax.end) else ty_of t)
        ≡ syntax.Arr (syntax.ty_at (ty_of t)) (ty_of t) (syntax.Dims (syntax.ty_at (ty_of t)) syntax.end)
    go true h = refl
    go false h = absurd (cc)
