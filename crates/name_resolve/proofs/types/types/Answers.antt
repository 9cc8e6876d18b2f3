use Rattle.std.proofs.Common.{rules, ◌≡◌, refl, sym, ap, subst, ◌∙◌, [], ◌∷◌, Ok}
use Rattle.sexp_reader.specs.Forms.{form_of, forms_of, form_size}
use Rattle.name_resolve.specs.Answers.{Refuses}
use Rattle.name_resolve.specs.Scopes.{HasRoom}
use Rattle.core_syntax.specs.Lists.{each}
use Rattle.core_syntax.specs.Refine.{ty_of}
use Rattle.name_resolve.specs.TypeForms.{ty, types}
use Rattle.name_resolve.proofs.TypeLemmas.{before-each}
use Rattle.name_resolve.proofs.Loops.{loop_init, loop_step, loop_refused, loop_end}
use Rattle.name_resolve.proofs.Refusals.{same_answer}
use Rattle.name_resolve.proofs.RoomLemmas.{room_less, item_size}
use Rattle.name_resolve.proofs.types.types.Goals as goal

pub loop-form-init : goal.loop-form-init
loop-form-init c = (refl, loop_init ty_of (λ t ts. t ∷ ts) (types c.args.scopes.now) c.args.forms.now c.in_ok-read.read.items c.in_ok-read.ensures.items)

pub ty-requires : goal.ty-requires
ty-requires c =
    let s = item_size c.loop-form.form-index c.args.forms.now c.form-item.result c.form-item.result c.loop-form-test.true c.form-item.is in
    subst (λ Γ. HasRoom Γ (form_size (form_of c.form-item.result))) (sym c.loop-form.invariant.0) (room_less c.args.scopes.now _ _ c.requires s)

pub returns-in_err-part-clause-read : goal.returns-in_err-part-clause-read
returns-in_err-part-clause-read c =
    let h = loop_refused ty_of (ty c.args.scopes.now) (types c.args.scopes.now) [] (λ t ts. t ∷ ts) refl (λ f fs. refl) ((types c.args.scopes.now) (forms_of c.args.forms.now)) c.args.forms.now c.loop-form.form-index c.loop-form.read.items c.loop-form.invariant.1
    c.form-item.result c.form-item.result c.loop-form-test.true c.form-item.is c.in_err-part.field-0.0 (subst (λ Γ. Refuses c.in_err-part.field-0.0 (ty Γ (form_of c.form-item.result))) c.loop-form.invariant.0 c.in_err-part.ensures.read) in
    same_answer (λ ts. each ty_of ts) c.from_residual-in_err-part.result _ ((types c.args.scopes.now) (forms_of c.args.forms.now)) refl (search rules)

pub loop-form-preserved : goal.loop-form-preserved
loop-form-preserved c = (
  c.in_ok-part.ensures.same ∙ c.loop-form.invariant.0,
  loop_step ty_of (ty c.args.scopes.now) (types c.args.scopes.now) [] (λ t ts. t ∷ ts) refl (λ f fs. refl) ((types c.args.scopes.now) (forms_of c.args.forms.now)) c.args.forms.now c.loop-form.form-index c.loop-form.read.items c.loop-form.invariant.1
      c.form-item.result c.form-item.result c.loop-form-test.true c.form-item.is c.in_ok-part.part c.push.new.self.items (search rules) (subst (λ Γ. ty Γ (form_of c.form-item.result) ≡ Ok (ty_of c.in_ok-part.part)) c.loop-form.invariant.0 c.in_ok-part.ensures.read),
)

pub returns-clause-read : goal.returns-clause-read
returns-clause-read c =
    loop_end ty_of (ty c.args.scopes.now) (types c.args.scopes.now) [] (λ t ts. t ∷ ts) refl (λ f fs. refl) ((types c.args.scopes.now) (forms_of c.args.forms.now)) c.args.forms.now c.loop-form.form-index c.loop-form.read.items c.loop-form.invariant.1 c.loop-form-test.false
    ∙ ap Ok (before-each c.loop-form.read.items) ∙ ap (λ ts. Ok (each ty_of ts)) (sym c.from_vec.ensures)

pub returns-clause-same : goal.returns-clause-same
returns-clause-same c = c.loop-form.invariant.0
