use Rattle.std.proofs.Common.{◌≡◌, ◌+◌, ◌*◌, drop}
use Rattle.core_syntax.specs.Refine.{ty_of}
use Rattle.core_syntax.specs.Syntax.{more_tys}
use Rattle.sexp_reader.specs.Forms.{form_of, forms_of, form_size, forms_size}
use Rattle.name_resolve.specs.Reading.{mapped}
use Rattle.name_resolve.specs.TypeForms.{arrays}
use Rattle.name_resolve.proofs.Loops.{before}
use Rattle.name_resolve.proofs.types.+types.Given as goal

abbrev pub decreases-ty : goal.decreases-ty
decreases-ty l = 3 * form_size (form_of l.form.now)

abbrev pub decreases-array : goal.decreases-array
decreases-array l = 3 * (form_size (form_of l.element.now) + form_size (form_of l.shape.now))

abbrev pub decreases-arrow : goal.decreases-arrow
decreases-arrow l = 3 * (form_size (form_of l.list.now) + form_size (form_of l.answer.now))

abbrev pub decreases-forall : goal.decreases-forall
decreases-forall l = 3 * (form_size (form_of l.list.now) + form_size (form_of l.body.now))

abbrev pub decreases-quantified : goal.decreases-quantified
decreases-quantified l = 3 * (form_size (form_of l.list.now) + form_size (form_of l.body.now))

abbrev pub decreases-array_ty : goal.decreases-array_ty
decreases-array_ty l = 3 * form_size (form_of l.form.now) + 1

abbrev pub decreases-array_types : goal.decreases-array_types
decreases-array_types l = 3 * forms_size (forms_of l.forms.now) + 2

abbrev pub invariant-array_types-loop-form : goal.invariant-array_types-loop-form
invariant-array_types-loop-form l =
    (l.scopes ≡ l.initial.scopes) × (arrays l.initial.scopes (forms_of l.forms) ≡ mapped (before ty_of more_tys l.read.items) (arrays l.initial.scopes (forms_of (drop l.form-index l.forms))))
