use Rattle.std.proofs.Common.{◌≡◌, sym, ap, subst, ◌∙◌, arith, length, [], Ok}
use Rattle.core_syntax.specs.Refine.{tys_of, expr_of}
use Rattle.core_syntax.specs.Syntax.{Program}
use Rattle.sexp_reader.specs.Forms.{form_of, forms_of, form_size, forms_count}
use Rattle.sexp_reader.proofs.Short.{count_within}
use Rattle.name_resolve.specs.declared.words.NameSpace.TheVariants.{Terms}
use Rattle.name_resolve.specs.Held.{held_names}
use Rattle.name_resolve.specs.Means.{body}
use Rattle.name_resolve.specs.Scopes.{HasRoom, under}
use Rattle.name_resolve.specs.TermForms.{expr}
use Rattle.name_resolve.specs.Tops.{body_of, held_main}
use Rattle.name_resolve.specs.TypeForms.{pair_arrays}
use Rattle.name_resolve.proofs.BinderLemmas.{length_names}
use Rattle.name_resolve.proofs.Refusals.{is_refused, carried}
use Rattle.name_resolve.proofs.RoomLemmas.{room_less, room_under}
use Rattle.name_resolve.proofs.TopLemmas.{no_body, bound_refused, body_is, ty_items-of}
use Rattle.name_resolve.proofs.top.read_body.Goals as goal

pub returns-in_default : goal.returns-in_default
returns-in_default c = is_refused _ 7 c.args.form.now.at _ c.malformed.ensures (no_body c.args.scopes.now.defs c.args.form.now c.in_default.ensures.parts)

pub bound_names-requires : goal.bound_names-requires
bound_names-requires c = omega (arith, c.requires.room.terms, c.in-Some.ensures.size, count_within (forms_of c.in-Some.parts.inputs.now))

pub returns-in_err-bound : goal.returns-in_err-bound
returns-in_err-bound c =
    carried body_of c.from_residual.result c.in_err-bound.field-0.0 (body c.args.scopes.now.defs (form_of c.args.form.now)) c.from_residual.ensures.1
    (bound_refused c.args.scopes.now.defs c.args.form.now (held_main c.in-Some.parts) c.in-Some.ensures.parts c.in_err-bound.field-0.0 c.in_err-bound.ensures.names)

pub enter-requires : goal.enter-requires
enter-requires c =
    subst (λ Γ. HasRoom Γ (length c.as_slice.result.now)) (sym c.in_ok-inputs.ensures.same)
    (room_less c.args.scopes.now _ _ c.requires.room
    (omega (arith, c.in-Some.ensures.size, count_within (forms_of c.in-Some.parts.inputs.now), c.in_ok-bound.ensures.count, ap length c.as_slice.ensures.value)))

pub expr-requires : goal.expr-requires
expr-requires c =
    subst (λ Γ. HasRoom Γ (form_size (form_of c.in-Some.parts.body.now))) (sym (c.in_ok-enter.ensures.entered ∙ ap (under Terms (held_names c.as_slice.result.now)) c.in_ok-inputs.ensures.same))
    (room_under Terms (held_names c.as_slice.result.now) c.args.scopes.now (forms_count (forms_of c.in-Some.parts.inputs.now)) _ _ c.requires.room
    (length_names c.as_slice.result.now ∙ ap length c.as_slice.ensures.value ∙ c.in_ok-bound.ensures.count)
    (omega (arith, c.in-Some.ensures.size, count_within (forms_of c.in-Some.parts.inputs.now))))

pub returns : goal.returns
returns c =
    let entered = c.in_ok-enter.ensures.entered ∙ ap (λ bs. under Terms (held_names bs) c.pair_arrays.new.scopes) c.as_slice.ensures.value
    ∙ ap (under Terms (held_names c.in_ok-bound.bound.items)) (c.in_ok-inputs.ensures.same ∙ c.requires.behind) in
    body_is c.args.scopes.now.defs c.args.form.now (held_main c.in-Some.parts) c.in-Some.ensures.parts (held_names c.in_ok-bound.bound.items) c.in_ok-bound.ensures.names (tys_of c.in_ok-inputs.inputs)
    (subst (λ Γ. pair_arrays Γ (forms_of c.in-Some.parts.inputs.now) ≡ Ok (tys_of c.in_ok-inputs.inputs)) c.requires.behind c.in_ok-inputs.ensures.read) (expr_of c.in_ok-body.body)
    (subst (λ Γ. expr Γ (form_of c.in-Some.parts.body.now) ≡ Ok (expr_of c.in_ok-body.body)) entered c.in_ok-body.ensures.read)
    ∙ ap (λ ts. let P : Program = record { defs = []; inputs = ts; body = expr_of c.in_ok-body.body } in Ok P) (ty_items-of c.in_ok-inputs.inputs)
