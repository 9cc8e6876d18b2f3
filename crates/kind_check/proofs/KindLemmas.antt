-- The first ill-kinded place of the parts of a type, read part by part.
use Rattle.std.proofs.Common.{◌≡◌, refl, sym, ap, ◌∙◌, subst, ℕ, ◌+◌, ◌<◌, length, drop, slice_index_or, List, Bool, true, false, Option, Some, None}
use Rattle.core_syntax.specs.declared.ty.Ty.{Ty}
use Rattle.core_syntax.specs.Refine.{ty_of, tys_of}
use Rattle.core_syntax.specs.declared.span.Span.{Span}
use Rattle.core_syntax.specs.declared.index.Sort.{Sort}
use Rattle.core_syntax.specs.declared.index.Sort.TheVariants as sort
use Rattle.core_syntax.specs.declared.index.Index.{Index}
use Rattle.core_syntax.specs.declared.ty.TyForm.{Arr}
use Rattle.core_syntax.specs.Refine.{index_of}
use Rattle.core_syntax.specs.Sorts.{Refusal, own_sort, is_sort, first_of_two, refuse_unless, inner_blame}
use Rattle.core_syntax.specs.Kinds.{is_atom_kind, kind_blame}
use Rattle.core_syntax.specs.Syntax as syntax
use Rattle.core_syntax.proofs.TreeRows.{at_form}
use Rattle.core_syntax.proofs.TyRows.{tys_behind, at_ty_form, is_arr}
use Rattle.kind_check.specs.Faults.{own_fault}
use Rattle.kind_check.proofs.BlameLemmas.{refuse, pass}

pub types_behind : (k : ℕ) (xs : List Ty) (d : Ty) → k < length xs → tys_of (drop k xs) ≡ syntax.more_tys (ty_of (slice_index_or xs k d)) (tys_of (drop (k + 1) xs))
types_behind k xs d lt = tys_behind k xs d lt

first_again : (a b c : Option Refusal) → first_of_two (first_of_two a b) c ≡ first_of_two a (first_of_two b c)
first_again None b c = refl
first_again (Some r) b c = refl

refused : (b : Bool) (n : ℕ) (at : Span) → b ≡ false → Some (n, at) ≡ refuse_unless b n at
refused false n at e = refl
refused true n at e = absurd (cc)

-- what is found first, and what comes after nothing
pub fault_found : (o later : Option Refusal) (n : ℕ) (at : Span) → Some (n, at) ≡ o → Some (n, at) ≡ first_of_two o later
fault_found o later n at p = subst (λ x. Some (n, at) ≡ first_of_two x later) p refl

pub fault_passed : (o later : Option Refusal) → None ≡ o → later ≡ first_of_two o later
fault_passed o later p = subst (λ x. later ≡ first_of_two x later) p refl

-- the own tests of an array type
pub kind_other : (sorts : List Sort) (elem : Ty) (shape : Index) → is_atom_kind (ty_of elem) ≡ false → Some (15, elem.at) ≡ own_fault sorts (ty_of elem) (index_of shape)
kind_other sorts elem shape other =
    ap (λ at. Some (15, at)) (sym (at_ty_form elem.at elem.form)) ∙ refuse (is_atom_kind (ty_of elem)) 15 (syntax.ty_at (ty_of elem)) _ other

pub sort_other : (sorts : List Sort) (elem : Ty) (shape : Index) → is_atom_kind (ty_of elem) ≡ true → is_sort sort.Shape (own_sort sorts (index_of shape)) ≡ false →
    Some (14, shape.at) ≡ own_fault sorts (ty_of elem) (index_of shape)
sort_other sorts elem shape atom other =
    ap (λ at. Some (14, at)) (sym (at_form shape.at shape.form))
    ∙ refused (is_sort sort.Shape (own_sort sorts (index_of shape))) 14 (syntax.index_at (index_of shape)) other
    ∙ sym (pass (is_atom_kind (ty_of elem)) 15 (syntax.ty_at (ty_of elem)) _ atom)

-- an array type's own tests come first, then what is inside its atoms' type, then what is inside its shape
module _ (sorts : List Sort) (t elem : Ty) (shape : Index) (form : t.form ≡ Arr elem shape) where
  whole : (x : Ty) → x ≡ elem → kind_blame sorts (ty_of t) ≡ first_of_two (own_fault sorts (ty_of x) (index_of shape)) (first_of_two (kind_blame sorts (ty_of x)) (inner_blame sorts (index_of shape)))
  whole x e =
      ap (kind_blame sorts) (is_arr t elem x shape e form)
      ∙ sym (first_again (refuse_unless (is_atom_kind (ty_of x)) 15 (syntax.ty_at (ty_of x))) (refuse_unless (is_sort sort.Shape (own_sort sorts (index_of shape))) 14 (syntax.index_at (index_of shape))) _)

  pub arr_own : (x : Ty) (r : Refusal) → x ≡ elem → Some r ≡ own_fault sorts (ty_of x) (index_of shape) → Some r ≡ kind_blame sorts (ty_of t)
  arr_own x r e own = fault_found (own_fault sorts (ty_of x) (index_of shape)) _ r.0 r.1 own ∙ sym (whole x e)

  pub arr_inside : (x y : Ty) → x ≡ elem → y ≡ elem → None ≡ own_fault sorts (ty_of x) (index_of shape) →
      first_of_two (kind_blame sorts (ty_of y)) (inner_blame sorts (index_of shape)) ≡ kind_blame sorts (ty_of t)
  arr_inside x y e f none =
      ap (λ (u : Ty). first_of_two (kind_blame sorts (ty_of u)) (inner_blame sorts (index_of shape))) (f ∙ sym e)
      ∙ fault_passed (own_fault sorts (ty_of x) (index_of shape)) _ none ∙ sym (whole x e)
