use Rattle.std.proofs.Common.{◌≡◌, ◌∙◌, sym, ap, subst, Result, Ok, Err, IfOk}
use Rattle.core_syntax.specs.declared.errors.Memory.{Memory}
use Rattle.core_syntax.specs.declared.index.Index.{Index}
use Rattle.core_syntax.specs.declared.ty.Ty.{Ty}
use Rattle.core_syntax.specs.declared.ty.TyForm.{Arr}
use Rattle.core_syntax.specs.Refine.{ty_of, ty_form_of}
use Rattle.core_syntax.specs.Typed.{atom_type}
use Rattle.core_syntax.proofs.TyRows.{form_of_arr}
use Rattle.term_values.proofs.terms.atom_type.Goals as goal

copied : (r : Result Ty Memory) (x : Ty) → IfOk r (λ t. t ≡ x) → IfOk r (λ t. ty_of t ≡ ty_of x)
copied (Ok t) x e = ap ty_of e
copied (Err m) x e = e

element_is : (t u u' : Ty) (i : Index) → u' ≡ u → t.form ≡ Arr u i → ty_of u' ≡ atom_type (ty_of t)
element_is t u u' i p e = ap ty_of p ∙ sym (ap atom_type (ap (ty_form_of t.at) e ∙ form_of_arr t.at u i))

pub returns-in-Arr : goal.returns-in-Arr
returns-in-Arr c =
    subst (λ w. IfOk c.copy.result (λ t. ty_of t ≡ w)) (element_is c.args.ty.now c.in-Arr.element c.get.result.now c.in-Arr.field-1 c.get.ensures c.in-Arr.is) (copied c.copy.result c.get.result.now c.copy.ensures)
