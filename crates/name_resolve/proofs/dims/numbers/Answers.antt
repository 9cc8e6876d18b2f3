use Rattle.std.proofs.Common.{rules, refl, ap, ◌∙◌, [], ◌∷◌, Ok}
use Rattle.sexp_reader.specs.Forms.{forms_of}
use Rattle.name_resolve.specs.TermForms.{number, numbers}
use Rattle.name_resolve.proofs.TypeLemmas.{before-items}
use Rattle.name_resolve.proofs.Loops.{loop_init, loop_step, loop_refused, loop_end}
use Rattle.name_resolve.proofs.Refusals.{same_answer}
use Rattle.name_resolve.proofs.dims.numbers.Goals as goal

pub loop-form-init : goal.loop-form-init
loop-form-init c = loop_init (λ n. n) (λ n ns. n ∷ ns) numbers c.args.forms.now c.in_ok-read.read.items c.in_ok-read.ensures.items

pub returns-in_err-part : goal.returns-in_err-part
returns-in_err-part c =
    let h = loop_refused (λ n. n) number numbers [] (λ n ns. n ∷ ns) refl (λ f fs. refl) (numbers (forms_of c.args.forms.now)) c.args.forms.now c.loop-form.form-index c.loop-form.read.items c.loop-form.invariant
    c.form-item.result c.form-item.result c.loop-form-test.true c.form-item.is c.in_err-part.field-0.0 c.in_err-part.ensures in
    same_answer (λ v. v.items) c.from_residual-in_err-part.result _ (numbers (forms_of c.args.forms.now)) refl (search rules)

pub loop-form-preserved : goal.loop-form-preserved
loop-form-preserved c =
    loop_step (λ n. n) number numbers [] (λ n ns. n ∷ ns) refl (λ f fs. refl) (numbers (forms_of c.args.forms.now)) c.args.forms.now c.loop-form.form-index c.loop-form.read.items c.loop-form.invariant
    c.form-item.result c.form-item.result c.loop-form-test.true c.form-item.is c.in_ok-part.part c.push.new.self.items (search rules) c.in_ok-part.ensures

pub returns : goal.returns
returns c =
    loop_end (λ n. n) number numbers [] (λ n ns. n ∷ ns) refl (λ f fs. refl) (numbers (forms_of c.args.forms.now)) c.args.forms.now c.loop-form.form-index c.loop-form.read.items c.loop-form.invariant c.loop-form-test.false
    ∙ ap Ok (before-items c.loop-form.read.items)
