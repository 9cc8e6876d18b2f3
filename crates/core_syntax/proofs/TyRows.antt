-- A tree of a type stands for the type of what its parts stand for.
use Rattle.std.proofs.Common.{◌≡◌, refl, sym, ap, ◌∙◌, ℕ, suc, zero, ◌+◌, ◌<◌, arith, length, drop, slice_index_or, List, [], ◌∷◌}
use Rattle.core_syntax.specs.declared.span.Span.{Span}
use Rattle.core_syntax.specs.declared.index.Sort.{Sort}
use Rattle.core_syntax.specs.declared.index.Index.{Index}
use Rattle.core_syntax.specs.declared.ty.Ty.{Ty}
use Rattle.core_syntax.specs.declared.ty.TyForm.{TyForm, Fun, Forall, Pi, Sigma, Arr}
use Rattle.core_syntax.specs.declared.ty.TyForm.TheVariants as ty
use Rattle.core_syntax.specs.declared.ty.TyForm.TheBlock.{hidden-the_row-Ty-0, hidden-the_row-Ty-1}
use Rattle.core_syntax.specs.Refine.{ty_form_of, ty_of, tys_of, index_of}
use Rattle.core_syntax.specs.Syntax as syntax

abbrev inputs_of : syntax.Ty → syntax.Tys
inputs_of (syntax.Fun at ts r) = ts
inputs_of _ = syntax.no_tys

pub form_of_fun : (at : Span) (ts : List Ty) (r : Ty) → ty_form_of at (Fun ts r) ≡ syntax.Fun at (tys_of ts) (ty_of r)
unfolding hidden-the_row-Ty-0 hidden-the_row-Ty-1 denote.Hole.Carrier.hidden
form_of_fun at [] r = refl
form_of_fun at (t ∷ ts) r = ap (λ u. syntax.Fun at (syntax.more_tys (ty_of t) (inputs_of u)) (ty_of r)) (form_of_fun at ts r)

pub form_of_forall : (at : Span) (n : ℕ) (t : Ty) → ty_form_of at (Forall n t) ≡ syntax.Forall at n (ty_of t)
unfolding hidden-the_row-Ty-1 denote.Hole.Carrier.hidden
form_of_forall at n t = refl

pub form_of_pi : (at : Span) (ss : List Sort) (t : Ty) → ty_form_of at (Pi ss t) ≡ syntax.Pi at ss (ty_of t)
unfolding hidden-the_row-Ty-1 denote.Hole.Carrier.hidden
form_of_pi at ss t = refl

pub form_of_sigma : (at : Span) (ss : List Sort) (t : Ty) → ty_form_of at (Sigma ss t) ≡ syntax.Sigma at ss (ty_of t)
unfolding hidden-the_row-Ty-1 denote.Hole.Carrier.hidden
form_of_sigma at ss t = refl

pub form_of_arr : (at : Span) (t : Ty) (i : Index) → ty_form_of at (Arr t i) ≡ syntax.Arr at (ty_of t) (index_of i)
unfolding hidden-the_row-Ty-1 denote.Hole.Carrier.hidden
form_of_arr at t i = refl

-- what a type with these parts stands for
module _ (t : Ty) where
  pub is_fun : (ts now : List Ty) (r r' : Ty) → now ≡ ts → r' ≡ r → t.form ≡ Fun ts r → ty_of t ≡ syntax.Fun t.at (tys_of now) (ty_of r')
  is_fun ts now r r' p q e = ap (ty_form_of t.at) e ∙ form_of_fun t.at ts r ∙ ap (λ us. syntax.Fun t.at (tys_of us) (ty_of r)) (sym p) ∙ ap (λ u. syntax.Fun t.at (tys_of now) (ty_of u)) (sym q)

  pub is_forall : (n : ℕ) (u u' : Ty) → u' ≡ u → t.form ≡ Forall n u → ty_of t ≡ syntax.Forall t.at n (ty_of u')
  is_forall n u u' q e = ap (ty_form_of t.at) e ∙ form_of_forall t.at n u ∙ ap (λ w. syntax.Forall t.at n (ty_of w)) (sym q)

  pub is_pi : (ss now : List Sort) (u u' : Ty) → now ≡ ss → u' ≡ u → t.form ≡ Pi ss u → ty_of t ≡ syntax.Pi t.at now (ty_of u')
  is_pi ss now u u' p q e = ap (ty_form_of t.at) e ∙ form_of_pi t.at ss u ∙ ap (λ rs. syntax.Pi t.at rs (ty_of u)) (sym p) ∙ ap (λ w. syntax.Pi t.at now (ty_of w)) (sym q)

  pub is_sigma : (ss now : List Sort) (u u' : Ty) → now ≡ ss → u' ≡ u → t.form ≡ Sigma ss u → ty_of t ≡ syntax.Sigma t.at now (ty_of u')
  is_sigma ss now u u' p q e = ap (ty_form_of t.at) e ∙ form_of_sigma t.at ss u ∙ ap (λ rs. syntax.Sigma t.at rs (ty_of u)) (sym p) ∙ ap (λ w. syntax.Sigma t.at now (ty_of w)) (sym q)

  pub is_arr : (u u' : Ty) (i : Index) → u' ≡ u → t.form ≡ Arr u i → ty_of t ≡ syntax.Arr t.at (ty_of u') (index_of i)
  is_arr u u' i q e = ap (ty_form_of t.at) e ∙ form_of_arr t.at u i ∙ ap (λ w. syntax.Arr t.at (ty_of w) (index_of i)) (sym q)

-- a tree stands where its type does
pub at_ty_form : (at : Span) (form : TyForm) → syntax.ty_at (ty_form_of at form) ≡ at
at_ty_form at (ty.Base b) = refl
at_ty_form at (ty.Var k) = refl
at_ty_form at (ty.Fun' s row s' r) = refl
at_ty_form at (ty.Forall' n s t) = refl
at_ty_form at (ty.Pi' ss s t) = refl
at_ty_form at (ty.Sigma' ss s t) = refl
at_ty_form at (ty.Arr' s t i) = refl

-- the list behind a place, by its first item
pub tys_behind : (k : ℕ) (xs : List Ty) (d : Ty) → k < length xs → tys_of (drop k xs) ≡ syntax.more_tys (ty_of (slice_index_or xs k d)) (tys_of (drop (k + 1) xs))
tys_behind k [] d h = absurd (omega arith)
tys_behind zero (x ∷ xs) d h = refl
tys_behind (suc k) (x ∷ xs) d h =
    let at : suc k + 1 ≡ suc (k + 1) = omega arith in
    tys_behind k xs d (omega arith) ∙ ap (λ n. syntax.more_tys (ty_of (slice_index_or xs k d)) (tys_of (drop n (x ∷ xs)))) (sym at)
