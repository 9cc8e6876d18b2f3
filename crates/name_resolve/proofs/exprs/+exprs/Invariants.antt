use Rattle.std.proofs.Common.{◌≡◌, ◌+◌, ◌*◌, drop}
use Rattle.core_syntax.specs.Refine.{expr_of, atom_of}
use Rattle.core_syntax.specs.Syntax.{more_exprs, more_atoms}
use Rattle.sexp_reader.specs.Forms.{form_of, forms_of, form_size, forms_size}
use Rattle.name_resolve.specs.Reading.{mapped}
use Rattle.name_resolve.specs.TermForms.{exprs, atoms}
use Rattle.name_resolve.proofs.Loops.{before}
use Rattle.name_resolve.proofs.exprs.+exprs.Given as goal

abbrev pub decreases-expr : goal.decreases-expr
decreases-expr l = 3 * form_size (form_of l.form.now)

abbrev pub decreases-atom : goal.decreases-atom
decreases-atom l = 3 * form_size (form_of l.form.now)

abbrev pub decreases-array_or_frame : goal.decreases-array_or_frame
decreases-array_or_frame l = 3 * (form_size (form_of l.first.now) + forms_size (forms_of l.rest.now))

abbrev pub decreases-applied : goal.decreases-applied
decreases-applied l = 3 * (form_size (form_of l.first.now) + forms_size (forms_of l.rest.now)) + 1

abbrev pub decreases-app : goal.decreases-app
decreases-app l = 3 * (form_size (form_of l.head.now) + forms_size (forms_of l.args.now)) + 1

abbrev pub decreases-atom_expr : goal.decreases-atom_expr
decreases-atom_expr l = 3 * (form_size (form_of l.first.now) + forms_size (forms_of l.rest.now)) + 2

abbrev pub decreases-unbox : goal.decreases-unbox
decreases-unbox l = 3 * (form_size (form_of l.first.now) + forms_size (forms_of l.rest.now))

abbrev pub decreases-unboxed_body : goal.decreases-unboxed_body
decreases-unboxed_body l = 3 * form_size (form_of l.unboxing.now.body.now) + 1

abbrev pub decreases-list_atom : goal.decreases-list_atom
decreases-list_atom l = 3 * (form_size (form_of l.first.now) + forms_size (forms_of l.rest.now)) + 1

abbrev pub decreases-exprs : goal.decreases-exprs
decreases-exprs l = 3 * forms_size (forms_of l.forms.now) + 1

abbrev pub decreases-atoms : goal.decreases-atoms
decreases-atoms l = 3 * forms_size (forms_of l.forms.now) + 1

abbrev pub invariant-exprs-loop-form : goal.invariant-exprs-loop-form
invariant-exprs-loop-form l =
    (l.scopes ≡ l.initial.scopes) × (exprs l.initial.scopes (forms_of l.forms) ≡ mapped (before expr_of more_exprs l.read.items) (exprs l.initial.scopes (forms_of (drop l.form-index l.forms))))

abbrev pub invariant-atoms-loop-form : goal.invariant-atoms-loop-form
invariant-atoms-loop-form l =
    (l.scopes ≡ l.initial.scopes) × (atoms l.initial.scopes (forms_of l.forms) ≡ mapped (before atom_of more_atoms l.read.items) (atoms l.initial.scopes (forms_of (drop l.form-index l.forms))))
