use Rattle.std.proofs.Common.{rules, ◌≡◌, refl, sym, ap, subst, ◌∙◌, arith, length, Some, None, Ok}
use Rattle.core_syntax.specs.Refine.{ty_of, tys_of}
use Rattle.core_syntax.specs.Syntax.{no_tys, more_tys}
use Rattle.sexp_reader.specs.Forms.{form_of, forms_of, form_size, forms_count}
use Rattle.sexp_reader.proofs.Short.{some_size, count_within}
use Rattle.name_resolve.specs.declared.words.NameSpace.TheVariants.{Types, Indices}
use Rattle.name_resolve.specs.declared.words.TypeWord.TheVariants as word
use Rattle.name_resolve.specs.Answers.{Refuses}
use Rattle.name_resolve.specs.Held.{held_names}
use Rattle.name_resolve.specs.Scopes.{HasRoom}
use Rattle.name_resolve.specs.TypeForms.{array_ty, arrays}
use Rattle.name_resolve.proofs.BinderLemmas.{length_names}
use Rattle.name_resolve.proofs.Loops.{loop_init, loop_step, loop_refused, loop_end}
use Rattle.name_resolve.proofs.Refusals.{is_refused, same_answer}
use Rattle.name_resolve.proofs.RoomLemmas.{room_less, room_under, list_size, listed_size, three_size, item_size}
use Rattle.name_resolve.proofs.TypeLemmas.{ty_short, ty_worded, before-none}
use Rattle.name_resolve.proofs.types.+types.Goals as goal

pub ty-array-requires : goal.ty-array-requires
ty-array-requires t c =
    let s = three_size (forms_of c.as_slice-in-Seq.result.now) (form_of c.in-Some.head.now) (form_of c.in-Some.first.now) (form_of c.in-Some.second.now) c.in-Some.ensures in
    let l = list_size c.args.form.now c.in-Seq.items c.as_slice-in-Seq.result.now c.in-Seq.is c.as_slice-in-Seq.ensures in
    (omega (arith, s, l), room_less c.args.scopes.now _ _ c.requires (omega (arith, s, l)))

pub ty-arrow-requires : goal.ty-arrow-requires
ty-arrow-requires t c =
    let s = three_size (forms_of c.as_slice-in-Seq.result.now) (form_of c.in-Some.head.now) (form_of c.in-Some.first.now) (form_of c.in-Some.second.now) c.in-Some.ensures in
    let l = list_size c.args.form.now c.in-Seq.items c.as_slice-in-Seq.result.now c.in-Seq.is c.as_slice-in-Seq.ensures in
    (omega (arith, s, l), room_less c.args.scopes.now _ _ c.requires (omega (arith, s, l)))

pub ty-forall-requires : goal.ty-forall-requires
ty-forall-requires t c =
    let s = three_size (forms_of c.as_slice-in-Seq.result.now) (form_of c.in-Some.head.now) (form_of c.in-Some.first.now) (form_of c.in-Some.second.now) c.in-Some.ensures in
    let l = list_size c.args.form.now c.in-Seq.items c.as_slice-in-Seq.result.now c.in-Seq.is c.as_slice-in-Seq.ensures in
    (omega (arith, s, l), room_less c.args.scopes.now _ _ c.requires (omega (arith, s, l)))

pub ty-quantified-requires : goal.ty-quantified-requires
ty-quantified-requires t c =
    let s = three_size (forms_of c.as_slice-in-Seq.result.now) (form_of c.in-Some.head.now) (form_of c.in-Some.first.now) (form_of c.in-Some.second.now) c.in-Some.ensures in
    let l = list_size c.args.form.now c.in-Seq.items c.as_slice-in-Seq.result.now c.in-Seq.is c.as_slice-in-Seq.ensures in
    (omega (arith, s, l), room_less c.args.scopes.now _ _ c.requires (omega (arith, s, l)))

pub ty-quantified-requires-in-Some-Sigma : goal.ty-quantified-requires-in-Some-Sigma
ty-quantified-requires-in-Some-Sigma t c =
    let s = three_size (forms_of c.as_slice-in-Seq.result.now) (form_of c.in-Some.head.now) (form_of c.in-Some.first.now) (form_of c.in-Some.second.now) c.in-Some.ensures in
    let l = list_size c.args.form.now c.in-Seq.items c.as_slice-in-Seq.result.now c.in-Seq.is c.as_slice-in-Seq.ensures in
    (omega (arith, s, l), room_less c.args.scopes.now _ _ c.requires (omega (arith, s, l)))

pub ty-returns-in_default-three-clause-read : goal.ty-returns-in_default-three-clause-read
ty-returns-in_default-three-clause-read t c =
    is_refused _ 7 c.args.form.now.at _ c.malformed.ensures (ty_short c.args.scopes.now c.args.form.now c.in-Seq.items c.as_slice-in-Seq.result.now c.in-Seq.is c.as_slice-in-Seq.ensures c.in_default-three.ensures)

pub ty-returns-in-Some-Arr-clause-read : goal.ty-returns-in-Some-Arr-clause-read
ty-returns-in-Some-Arr-clause-read t c =
    same_answer ty_of c.array.result _ _
    (ty_worded c.args.scopes.now c.args.form.now c.in-Seq.items c.as_slice-in-Seq.result.now c.in-Seq.is c.as_slice-in-Seq.ensures
    (form_of c.in-Some.head.now) (form_of c.in-Some.first.now) (form_of c.in-Some.second.now) (Some word.Arr) c.in-Some.ensures (sym c.in-Some-Arr.ensures ∙ ap Some c.in-Some-Arr.field-0-is))
    c.array.ensures.read

pub ty-returns-in-Some-Arrow-clause-read : goal.ty-returns-in-Some-Arrow-clause-read
ty-returns-in-Some-Arrow-clause-read t c =
    same_answer ty_of c.arrow.result _ _
    (ty_worded c.args.scopes.now c.args.form.now c.in-Seq.items c.as_slice-in-Seq.result.now c.in-Seq.is c.as_slice-in-Seq.ensures
    (form_of c.in-Some.head.now) (form_of c.in-Some.first.now) (form_of c.in-Some.second.now) (Some word.Arrow) c.in-Some.ensures (sym c.in-Some-Arrow.ensures ∙ ap Some c.in-Some-Arrow.field-0-is))
    c.arrow.ensures.read

pub ty-returns-in-Some-Forall-clause-read : goal.ty-returns-in-Some-Forall-clause-read
ty-returns-in-Some-Forall-clause-read t c =
    same_answer ty_of c.forall.result _ _
    (ty_worded c.args.scopes.now c.args.form.now c.in-Seq.items c.as_slice-in-Seq.result.now c.in-Seq.is c.as_slice-in-Seq.ensures
    (form_of c.in-Some.head.now) (form_of c.in-Some.first.now) (form_of c.in-Some.second.now) (Some word.Forall) c.in-Some.ensures (sym c.in-Some-Forall.ensures ∙ ap Some c.in-Some-Forall.field-0-is))
    c.forall.ensures.read

pub ty-returns-in-Some-Pi-clause-read : goal.ty-returns-in-Some-Pi-clause-read
ty-returns-in-Some-Pi-clause-read t c =
    same_answer ty_of c.quantified.result _ _
    (ty_worded c.args.scopes.now c.args.form.now c.in-Seq.items c.as_slice-in-Seq.result.now c.in-Seq.is c.as_slice-in-Seq.ensures
    (form_of c.in-Some.head.now) (form_of c.in-Some.first.now) (form_of c.in-Some.second.now) (Some word.Pi) c.in-Some.ensures (sym c.in-Some-Pi.ensures ∙ ap Some c.in-Some-Pi.field-0-is))
    c.quantified.ensures.read

pub ty-returns-in-Some-Sigma-clause-read : goal.ty-returns-in-Some-Sigma-clause-read
ty-returns-in-Some-Sigma-clause-read t c =
    same_answer ty_of c.quantified-in-Some-Sigma.result _ _
    (ty_worded c.args.scopes.now c.args.form.now c.in-Seq.items c.as_slice-in-Seq.result.now c.in-Seq.is c.as_slice-in-Seq.ensures
    (form_of c.in-Some.head.now) (form_of c.in-Some.first.now) (form_of c.in-Some.second.now) (Some word.Sigma) c.in-Some.ensures (sym c.in-Some-Sigma.ensures ∙ ap Some c.in-Some-Sigma.field-0-is))
    c.quantified-in-Some-Sigma.ensures.read

pub ty-returns-in-None-clause-read : goal.ty-returns-in-None-clause-read
ty-returns-in-None-clause-read t c =
    is_refused _ 7 c.args.form.now.at _ c.malformed-in-None.ensures
    (ty_worded c.args.scopes.now c.args.form.now c.in-Seq.items c.as_slice-in-Seq.result.now c.in-Seq.is c.as_slice-in-Seq.ensures
    (form_of c.in-Some.head.now) (form_of c.in-Some.first.now) (form_of c.in-Some.second.now) None c.in-Some.ensures (sym c.in-None.ensures))

pub array-ty-requires : goal.array-ty-requires
array-ty-requires t c =
    let s = some_size (form_of c.args.shape.now) in
    (omega (arith, s), room_less c.args.scopes.now _ _ c.requires (omega arith))

pub arrow-array_types-requires : goal.arrow-array_types-requires
arrow-array_types-requires t c =
    let s = listed_size (form_of c.args.list.now) (forms_of c.in-Some.inputs.now) c.in-Some.ensures in
    (omega (arith, s), room_less c.args.scopes.now _ _ c.requires (omega (arith, s)))

pub arrow-array_ty-requires : goal.arrow-array_ty-requires
arrow-array_ty-requires t c =
    let s = some_size (form_of c.args.list.now) in
    (omega (arith, s), subst (λ Γ. HasRoom Γ (form_size (form_of c.args.answer.now))) (sym c.in_ok-inputs.ensures.same) (room_less c.args.scopes.now _ _ c.requires (omega arith)))

pub array_ty-ty-requires : goal.array_ty-ty-requires
array_ty-ty-requires t c = (omega arith, c.requires)

pub forall-bound_names-requires : goal.forall-bound_names-requires
forall-bound_names-requires t c = omega (arith, c.requires.types, listed_size (form_of c.args.list.now) (forms_of c.in-Some.names.now) c.in-Some.ensures, count_within (forms_of c.in-Some.names.now))

pub forall-enter-requires : goal.forall-enter-requires
forall-enter-requires t c =
    room_less c.args.scopes.now _ _ c.requires
    (omega (arith, listed_size (form_of c.args.list.now) (forms_of c.in-Some.names.now) c.in-Some.ensures, count_within (forms_of c.in-Some.names.now), c.in_ok-bound.ensures.count, ap length c.as_slice.ensures.value))

pub forall-array_ty-requires : goal.forall-array_ty-requires
forall-array_ty-requires t c =
    let s = listed_size (form_of c.args.list.now) (forms_of c.in-Some.names.now) c.in-Some.ensures in
    let n = count_within (forms_of c.in-Some.names.now) in
    let entered = c.in_ok-enter.ensures.entered in (
      omega (arith, s),
      subst (λ Γ. HasRoom Γ (form_size (form_of c.args.body.now))) (sym entered)
          (room_under Types (held_names c.as_slice.result.now) c.args.scopes.now (forms_count (forms_of c.in-Some.names.now)) _ _ c.requires
          (length_names c.as_slice.result.now ∙ ap length c.as_slice.ensures.value ∙ c.in_ok-bound.ensures.count) (omega (arith, s, n))),
    )

pub forall-overflow_cast-len : goal.forall-overflow_cast-len
forall-overflow_cast-len t c =
    let n = count_within (forms_of c.in-Some.names.now) in
    let s = listed_size (form_of c.args.list.now) (forms_of c.in-Some.names.now) c.in-Some.ensures in
    omega (arith, n, s, c.len-2.ensures, c.in_ok-bound.ensures.count, c.as_slice.ensures.len, ap length c.as_slice.ensures.value, c.requires.types)

pub quantified-bound_names-requires : goal.quantified-bound_names-requires
quantified-bound_names-requires t c = omega (arith, c.requires.types, listed_size (form_of c.args.list.now) (forms_of c.in-Some.pairs.now) c.in-Some.ensures, count_within (forms_of c.in-Some.pairs.now))

pub quantified-enter-requires : goal.quantified-enter-requires
quantified-enter-requires t c =
    room_less c.args.scopes.now _ _ c.requires
    (omega (arith, listed_size (form_of c.args.list.now) (forms_of c.in-Some.pairs.now) c.in-Some.ensures, count_within (forms_of c.in-Some.pairs.now), c.in_ok-bound.ensures.count, ap length c.as_slice.ensures.value))

pub quantified-array_ty-requires : goal.quantified-array_ty-requires
quantified-array_ty-requires t c =
    let s = listed_size (form_of c.args.list.now) (forms_of c.in-Some.pairs.now) c.in-Some.ensures in
    let n = count_within (forms_of c.in-Some.pairs.now) in
    let entered = c.in_ok-enter.ensures.entered in (
      omega (arith, s),
      subst (λ Γ. HasRoom Γ (form_size (form_of c.args.body.now))) (sym entered)
          (room_under Indices (held_names c.as_slice.result.now) c.args.scopes.now (forms_count (forms_of c.in-Some.pairs.now)) _ _ c.requires
          (length_names c.as_slice.result.now ∙ ap length c.as_slice.ensures.value ∙ c.in_ok-bound.ensures.count) (omega (arith, s, n))),
    )

pub array_types-loop-form-init : goal.array_types-loop-form-init
array_types-loop-form-init t c = (refl, loop_init ty_of more_tys (arrays c.args.scopes.now) c.args.forms.now c.in_ok-read.read.items c.in_ok-read.ensures.items)

pub array_types-array_ty-requires : goal.array_types-array_ty-requires
array_types-array_ty-requires t c =
    let s = item_size c.loop-form.form-index c.args.forms.now c.form-item.result c.form-item.result c.loop-form-test.true c.form-item.is in
    (omega (arith, s), subst (λ Γ. HasRoom Γ (form_size (form_of c.form-item.result))) (sym c.loop-form.invariant.0) (room_less c.args.scopes.now _ _ c.requires s))

pub array_types-returns-in_err-part-clause-read : goal.array_types-returns-in_err-part-clause-read
array_types-returns-in_err-part-clause-read t c =
    let h = loop_refused ty_of (array_ty c.args.scopes.now) (arrays c.args.scopes.now) no_tys more_tys refl (λ f fs. refl) (arrays c.args.scopes.now (forms_of c.args.forms.now)) c.args.forms.now
    c.loop-form.form-index c.loop-form.read.items c.loop-form.invariant.1 c.form-item.result c.form-item.result c.loop-form-test.true c.form-item.is c.in_err-part.field-0.0
    (subst (λ Γ. Refuses c.in_err-part.field-0.0 (array_ty Γ (form_of c.form-item.result))) c.loop-form.invariant.0 c.in_err-part.ensures.read) in
    same_answer tys_of c.from_residual-in_err-part.result _ (arrays c.args.scopes.now (forms_of c.args.forms.now)) refl (search rules)

pub array_types-loop-form-preserved : goal.array_types-loop-form-preserved
array_types-loop-form-preserved t c = (
  c.in_ok-part.ensures.same ∙ c.loop-form.invariant.0,
  loop_step ty_of (array_ty c.args.scopes.now) (arrays c.args.scopes.now) no_tys more_tys refl (λ f fs. refl) (arrays c.args.scopes.now (forms_of c.args.forms.now)) c.args.forms.now
      c.loop-form.form-index c.loop-form.read.items c.loop-form.invariant.1 c.form-item.result c.form-item.result c.loop-form-test.true c.form-item.is c.in_ok-part.part c.push.new.self.items (search rules)
      (subst (λ Γ. array_ty Γ (form_of c.form-item.result) ≡ Ok (ty_of c.in_ok-part.part)) c.loop-form.invariant.0 c.in_ok-part.ensures.read),
)

pub array_types-returns-clause-read : goal.array_types-returns-clause-read
array_types-returns-clause-read t c =
    loop_end ty_of (array_ty c.args.scopes.now) (arrays c.args.scopes.now) no_tys more_tys refl (λ f fs. refl) (arrays c.args.scopes.now (forms_of c.args.forms.now)) c.args.forms.now
    c.loop-form.form-index c.loop-form.read.items c.loop-form.invariant.1 c.loop-form-test.false
    ∙ ap Ok (before-none c.loop-form.read.items) ∙ ap (λ ts. Ok (tys_of ts)) (sym c.from_vec.ensures)

pub array_types-returns-clause-same : goal.array_types-returns-clause-same
array_types-returns-clause-same t c = c.loop-form.invariant.0
