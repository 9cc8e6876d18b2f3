use Rattle.std.proofs.Common.{rules, ◌≡◌, refl, sym, ap, subst, ◌∙◌, ◌+◌, arith, length, Some, None, Ok, [], ◌∷◌, ◌==◌}
use Rattle.core_syntax.specs.Refine.{expr_of, exprs_of, atom_of, atoms_of, ty_of}
use Rattle.core_syntax.specs.Syntax.{App, no_exprs, more_exprs, no_atoms, more_atoms}
use Rattle.sexp_reader.specs.Forms.{form_of, forms_of, form_size}
use Rattle.name_resolve.specs.declared.words.ExprWord.TheVariants as expr_word
use Rattle.core_syntax.specs.Lists.{product}
use Rattle.name_resolve.specs.declared.words.NameSpace.TheVariants.{Terms, Indices}
use Rattle.name_resolve.specs.Answers.{Refuses, Answers}
use Rattle.name_resolve.specs.Held.{held_names}
use Rattle.name_resolve.specs.Headers.{header_of, done_of, literal_read, applied_read, applied_of}
use Rattle.name_resolve.specs.Reading.{both}
use Rattle.name_resolve.specs.Scopes.{HasRoom, under}
use Rattle.name_resolve.specs.TermForms.{atom_head, list_atom, expr, exprs, atom, atoms, nth_expr, last_in, unbox}
use Rattle.name_resolve.specs.TypeForms.{array_ty}
use Rattle.name_resolve.specs.Unboxings.{unboxing_of, inside}
use Rattle.name_resolve.proofs.BinderLemmas.{length_names}
use Rattle.name_resolve.proofs.ExprLemmas.{expr_short, atom_short, expr_worded, atom_worded, exprs-none, atoms-none}
use Rattle.name_resolve.proofs.LiteralLemmas.{applied_refused, applied_to, dims_refused, literal_is, atoms_refused, atoms_read, cells_refused, cells_read}
use Rattle.name_resolve.proofs.Loops.{loop_step, loop_end}
use Rattle.name_resolve.proofs.Refusals.{is_refused, same_answer}
use Rattle.name_resolve.proofs.RoomLemmas.{room_less, room_under, item_size}
use Rattle.name_resolve.proofs.UnboxLemmas.{atom_refused, atom_read, body_refused, unbox_read}
use Rattle.name_resolve.proofs.exprs.+exprs.Goals as goal

pub expr-returns-in_default-first_two-clause-read : goal.expr-returns-in_default-first_two-clause-read
expr-returns-in_default-first_two-clause-read t c =
    is_refused _ 7 c.args.form.now.at _ c.malformed.ensures (expr_short c.args.scopes.now c.args.form.now c.in-Some.items.now c.in-Some.ensures c.in_default-first_two.ensures.head)

pub expr-returns-in-Some-Array-clause-read : goal.expr-returns-in-Some-Array-clause-read
expr-returns-in-Some-Array-clause-read t c =
    same_answer expr_of c.array_or_frame.result _ _
    (expr_worded c.args.scopes.now c.args.form.now c.in-Some.items.now c.in-Some.ensures (form_of c.in-Some-first_two.head.now) (form_of c.in-Some-first_two.first.now) (forms_of c.in-Some-first_two.args.now) (forms_of c.in-Some-first_two.rest.now)
    c.in-Some-first_two.ensures.head c.in-Some-first_two.ensures.first
    (Some expr_word.Array) (atom_head (form_of c.in-Some-first_two.head.now)) (sym c.in-Some-Array.ensures ∙ ap Some c.in-Some-Array.field-0-is) refl)
    c.array_or_frame.ensures.read

pub expr-returns-in-Some-Frame-clause-read : goal.expr-returns-in-Some-Frame-clause-read
expr-returns-in-Some-Frame-clause-read t c =
    same_answer expr_of c.array_or_frame-in-Some-Frame.result _ _
    (expr_worded c.args.scopes.now c.args.form.now c.in-Some.items.now c.in-Some.ensures (form_of c.in-Some-first_two.head.now) (form_of c.in-Some-first_two.first.now) (forms_of c.in-Some-first_two.args.now) (forms_of c.in-Some-first_two.rest.now)
    c.in-Some-first_two.ensures.head c.in-Some-first_two.ensures.first
    (Some expr_word.Frame) (atom_head (form_of c.in-Some-first_two.head.now)) (sym c.in-Some-Frame.ensures ∙ ap Some c.in-Some-Frame.field-0-is) refl)
    c.array_or_frame-in-Some-Frame.ensures.read

pub expr-returns-in-Some-Unbox-clause-read : goal.expr-returns-in-Some-Unbox-clause-read
expr-returns-in-Some-Unbox-clause-read t c =
    same_answer expr_of c.unbox.result _ _
    (expr_worded c.args.scopes.now c.args.form.now c.in-Some.items.now c.in-Some.ensures (form_of c.in-Some-first_two.head.now) (form_of c.in-Some-first_two.first.now) (forms_of c.in-Some-first_two.args.now) (forms_of c.in-Some-first_two.rest.now)
    c.in-Some-first_two.ensures.head c.in-Some-first_two.ensures.first
    (Some expr_word.Unbox) (atom_head (form_of c.in-Some-first_two.head.now)) (sym c.in-Some-Unbox.ensures ∙ ap Some c.in-Some-Unbox.field-0-is) refl)
    c.unbox.ensures.read

pub expr-returns-in-Some-TypeApp-clause-read : goal.expr-returns-in-Some-TypeApp-clause-read
expr-returns-in-Some-TypeApp-clause-read t c =
    same_answer expr_of c.applied.result _ _
    (expr_worded c.args.scopes.now c.args.form.now c.in-Some.items.now c.in-Some.ensures (form_of c.in-Some-first_two.head.now) (form_of c.in-Some-first_two.first.now) (forms_of c.in-Some-first_two.args.now) (forms_of c.in-Some-first_two.rest.now)
    c.in-Some-first_two.ensures.head c.in-Some-first_two.ensures.first
    (Some expr_word.TypeApp) (atom_head (form_of c.in-Some-first_two.head.now)) (sym c.in-Some-TypeApp.ensures ∙ ap Some c.in-Some-TypeApp.field-0-is) refl)
    c.applied.ensures.read

pub expr-returns-in-Some-IndexApp-clause-read : goal.expr-returns-in-Some-IndexApp-clause-read
expr-returns-in-Some-IndexApp-clause-read t c =
    same_answer expr_of c.applied-in-Some-IndexApp.result _ _
    (expr_worded c.args.scopes.now c.args.form.now c.in-Some.items.now c.in-Some.ensures (form_of c.in-Some-first_two.head.now) (form_of c.in-Some-first_two.first.now) (forms_of c.in-Some-first_two.args.now) (forms_of c.in-Some-first_two.rest.now)
    c.in-Some-first_two.ensures.head c.in-Some-first_two.ensures.first
    (Some expr_word.IndexApp) (atom_head (form_of c.in-Some-first_two.head.now)) (sym c.in-Some-IndexApp.ensures ∙ ap Some c.in-Some-IndexApp.field-0-is) refl)
    c.applied-in-Some-IndexApp.ensures.read

pub expr-returns-in-Some-atom_head-clause-read : goal.expr-returns-in-Some-atom_head-clause-read
expr-returns-in-Some-atom_head-clause-read t c =
    same_answer expr_of c.atom_expr.result _ _
    (expr_worded c.args.scopes.now c.args.form.now c.in-Some.items.now c.in-Some.ensures (form_of c.in-Some-first_two.head.now) (form_of c.in-Some-first_two.first.now) (forms_of c.in-Some-first_two.args.now) (forms_of c.in-Some-first_two.rest.now)
    c.in-Some-first_two.ensures.head c.in-Some-first_two.ensures.first
    None (Some c.in-Some-atom_head.word) (sym c.in-None.ensures) (sym c.in-Some-atom_head.ensures))
    c.atom_expr.ensures.read

pub expr-returns-in-None-atom_head-clause-read : goal.expr-returns-in-None-atom_head-clause-read
expr-returns-in-None-atom_head-clause-read t c =
    let a = expr_worded c.args.scopes.now c.args.form.now c.in-Some.items.now c.in-Some.ensures (form_of c.in-Some-first_two.head.now) (form_of c.in-Some-first_two.first.now) (forms_of c.in-Some-first_two.args.now) (forms_of c.in-Some-first_two.rest.now)
    c.in-Some-first_two.ensures.head c.in-Some-first_two.ensures.first
    None None (sym c.in-None.ensures) (sym c.in-None-atom_head.ensures) in
    same_answer expr_of c.app.result _ _
    (a ∙ ap (λ fs. both (App c.args.form.now.at) (expr c.args.scopes.now (form_of c.in-Some-first_two.head.now)) (exprs c.args.scopes.now fs)) (sym c.in-Some-first_two.ensures.first))
    c.app.ensures.read

pub exprs-expr-requires : goal.exprs-expr-requires
exprs-expr-requires t c =
    let s = item_size c.loop-form.form-index c.args.forms.now c.form-item.result c.form-item.result c.loop-form-test.true c.form-item.is in
    (omega (arith, s), subst (λ Γ. HasRoom Γ (form_size (form_of c.form-item.result))) (sym c.loop-form.invariant.0) (room_less c.args.scopes.now _ _ c.requires s))

pub exprs-loop-form-preserved : goal.exprs-loop-form-preserved
exprs-loop-form-preserved t c = (
  c.in_ok-part.ensures.same ∙ c.loop-form.invariant.0,
  loop_step expr_of (expr c.args.scopes.now) (exprs c.args.scopes.now) no_exprs more_exprs refl (λ f fs. refl) (exprs c.args.scopes.now (forms_of c.args.forms.now)) c.args.forms.now
      c.loop-form.form-index c.loop-form.read.items c.loop-form.invariant.1 c.form-item.result c.form-item.result c.loop-form-test.true c.form-item.is c.in_ok-part.part c.push.new.self.items (search rules)
      (subst (λ Γ. expr Γ (form_of c.form-item.result) ≡ Ok (expr_of c.in_ok-part.part)) c.loop-form.invariant.0 c.in_ok-part.ensures.read),
)

pub exprs-returns-clause-read : goal.exprs-returns-clause-read
exprs-returns-clause-read t c =
    loop_end expr_of (expr c.args.scopes.now) (exprs c.args.scopes.now) no_exprs more_exprs refl (λ f fs. refl) (exprs c.args.scopes.now (forms_of c.args.forms.now)) c.args.forms.now
    c.loop-form.form-index c.loop-form.read.items c.loop-form.invariant.1 c.loop-form-test.false ∙ ap Ok (exprs-none c.loop-form.read.items) ∙ ap (λ xs. Ok (exprs_of xs)) (sym c.from_vec.ensures)

pub atoms-atom-requires : goal.atoms-atom-requires
atoms-atom-requires t c =
    let s = item_size c.loop-form.form-index c.args.forms.now c.form-item.result c.form-item.result c.loop-form-test.true c.form-item.is in
    (omega (arith, s), subst (λ Γ. HasRoom Γ (form_size (form_of c.form-item.result))) (sym c.loop-form.invariant.0) (room_less c.args.scopes.now _ _ c.requires s))

pub atoms-loop-form-preserved : goal.atoms-loop-form-preserved
atoms-loop-form-preserved t c = (
  c.in_ok-part.ensures.same ∙ c.loop-form.invariant.0,
  loop_step atom_of (atom c.args.scopes.now) (atoms c.args.scopes.now) no_atoms more_atoms refl (λ f fs. refl) (atoms c.args.scopes.now (forms_of c.args.forms.now)) c.args.forms.now
      c.loop-form.form-index c.loop-form.read.items c.loop-form.invariant.1 c.form-item.result c.form-item.result c.loop-form-test.true c.form-item.is c.in_ok-part.part c.push.new.self.items (search rules)
      (subst (λ Γ. atom Γ (form_of c.form-item.result) ≡ Ok (atom_of c.in_ok-part.part)) c.loop-form.invariant.0 c.in_ok-part.ensures.read),
)

pub atoms-returns-clause-read : goal.atoms-returns-clause-read
atoms-returns-clause-read t c =
    loop_end atom_of (atom c.args.scopes.now) (atoms c.args.scopes.now) no_atoms more_atoms refl (λ f fs. refl) (atoms c.args.scopes.now (forms_of c.args.forms.now)) c.args.forms.now
    c.loop-form.form-index c.loop-form.read.items c.loop-form.invariant.1 c.loop-form-test.false ∙ ap Ok (atoms-none c.loop-form.read.items) ∙ ap (λ xs. Ok (atoms_of xs)) (sym c.from_vec.ensures)

pub atom-returns-in_default-first_two-clause-read : goal.atom-returns-in_default-first_two-clause-read
atom-returns-in_default-first_two-clause-read t c =
    is_refused _ 7 c.args.form.now.at _ c.malformed.ensures (atom_short c.args.scopes.now c.args.form.now c.in-Some.items.now c.in-Some.ensures c.in_default-first_two.ensures.head)

pub atom-returns-in-Some-atom_head-clause-read : goal.atom-returns-in-Some-atom_head-clause-read
atom-returns-in-Some-atom_head-clause-read t c =
    same_answer atom_of c.list_atom.result _ _
    (atom_worded c.args.scopes.now c.args.form.now c.in-Some.items.now c.in-Some.ensures (form_of c.in-Some-first_two.head.now) (form_of c.in-Some-first_two.first.now) (forms_of c.in-Some-first_two.field-0-1.now) (forms_of c.in-Some-first_two.rest.now)
    c.in-Some-first_two.ensures.head c.in-Some-first_two.ensures.first
    (Some c.in-Some-atom_head.word) (sym c.in-Some-atom_head.ensures))
    c.list_atom.ensures.read

pub atom-returns-in-None-clause-read : goal.atom-returns-in-None-clause-read
atom-returns-in-None-clause-read t c =
    is_refused _ 7 c.args.form.now.at _ c.malformed-in-None.ensures
    (atom_worded c.args.scopes.now c.args.form.now c.in-Some.items.now c.in-Some.ensures (form_of c.in-Some-first_two.head.now) (form_of c.in-Some-first_two.first.now) (forms_of c.in-Some-first_two.field-0-1.now) (forms_of c.in-Some-first_two.rest.now)
    c.in-Some-first_two.ensures.head c.in-Some-first_two.ensures.first
    None (sym c.in-None.ensures))

pub applied-returns-in_err-function-clause-read : goal.applied-returns-in_err-function-clause-read
applied-returns-in_err-function-clause-read t c =
    let h = applied_refused c.args.argument c.args.scopes.now c.args.at c.args.rest.now (expr c.args.scopes.now (form_of c.args.first.now)) c.if-is_empty.ensures c.in_err-function.field-0.0 c.in_err-function.ensures.read in
    same_answer expr_of c.from_residual.result _ (applied_read c.args.argument c.args.scopes.now c.args.at (forms_of c.args.rest.now) (expr c.args.scopes.now (form_of c.args.first.now))) refl (search rules)

pub applied-returns-clause-read : goal.applied-returns-clause-read
applied-returns-clause-read t c =
    same_answer expr_of c.apply.result _ (applied_of c.args.argument c.args.scopes.now c.args.at (forms_of c.args.rest.now) (expr_of c.in_ok-function.function))
    (applied_to c.args.argument c.args.scopes.now c.args.at c.args.rest.now (expr c.args.scopes.now (form_of c.args.first.now)) c.if-is_empty.ensures (expr_of c.in_ok-function.function) c.in_ok-function.ensures.read)
    (subst (λ Γ. Answers expr_of c.apply.result (applied_of c.args.argument Γ c.args.at (forms_of c.args.rest.now) (expr_of c.in_ok-function.function))) c.in_ok-function.ensures.same c.apply.ensures.read)

pub array_or_frame-returns-in_err-dims-clause-read : goal.array_or_frame-returns-in_err-dims-clause-read
array_or_frame-returns-in_err-dims-clause-read t c =
    let h = dims_refused c.args.literal c.args.scopes.now c.args.at (form_of c.args.first.now) c.args.rest.now c.in_err-dims.field-0.0 c.in_err-dims.ensures in
    same_answer expr_of c.from_residual.result _ (literal_read c.args.literal c.args.scopes.now c.args.at (form_of c.args.first.now) (forms_of c.args.rest.now)) refl (search rules)

pub array_or_frame-returns-then-has_no_item-clause-read : goal.array_or_frame-returns-then-has_no_item-clause-read
array_or_frame-returns-then-has_no_item-clause-read t c =
    same_answer expr_of c.empty_literal.result _ _
    (literal_is c.args.literal c.args.scopes.now c.args.at (form_of c.args.first.now) c.args.rest.now c.in_ok-dims.dims c.in_ok-dims.ensures)
    c.empty_literal.ensures.read

pub array_or_frame-returns-in_err-atoms-in-Array-clause-read : goal.array_or_frame-returns-in_err-atoms-in-Array-clause-read
array_or_frame-returns-in_err-atoms-in-Array-clause-read t c =
    let h = atoms_refused c.args.literal c.args.scopes.now c.args.at (form_of c.args.first.now) c.args.rest.now c.in_ok-dims.dims c.in_ok-dims.ensures
    (ap (λ ns. product ns == 0) (sym c.as_slice.ensures) ∙ sym c.if-has_no_item.ensures) c.in-Array.is c.in_err-atoms-in-Array.field-0.0 c.in_err-atoms-in-Array.ensures.read in
    same_answer expr_of c.from_residual-in_err-atoms-in-Array.result _ (literal_read c.args.literal c.args.scopes.now c.args.at (form_of c.args.first.now) (forms_of c.args.rest.now)) refl (search rules)

pub array_or_frame-returns-in_err-cells-in-Frame-clause-read : goal.array_or_frame-returns-in_err-cells-in-Frame-clause-read
array_or_frame-returns-in_err-cells-in-Frame-clause-read t c =
    let h = cells_refused c.args.literal c.args.scopes.now c.args.at (form_of c.args.first.now) c.args.rest.now c.in_ok-dims.dims c.in_ok-dims.ensures
    (ap (λ ns. product ns == 0) (sym c.as_slice.ensures) ∙ sym c.if-has_no_item.ensures) c.in-Frame.is c.in_err-cells-in-Frame.field-0.0 c.in_err-cells-in-Frame.ensures.read in
    same_answer expr_of c.from_residual-in_err-cells-in-Frame.result _ (literal_read c.args.literal c.args.scopes.now c.args.at (form_of c.args.first.now) (forms_of c.args.rest.now)) refl (search rules)

pub array_or_frame-returns-in_ok-atoms-in-Array-clause-read : goal.array_or_frame-returns-in_ok-atoms-in-Array-clause-read
array_or_frame-returns-in_ok-atoms-in-Array-clause-read t c =
    atoms_read c.args.literal c.args.scopes.now c.args.at (form_of c.args.first.now) c.args.rest.now c.in_ok-dims.dims c.in_ok-dims.ensures
    (ap (λ ns. product ns == 0) (sym c.as_slice.ensures) ∙ sym c.if-has_no_item.ensures) c.in-Array.is (atoms_of c.in_ok-atoms-in-Array.atoms) c.in_ok-atoms-in-Array.ensures.read
    ∙ ap Ok (sym c.array.ensures)

pub array_or_frame-returns-in_ok-cells-in-Frame-clause-read : goal.array_or_frame-returns-in_ok-cells-in-Frame-clause-read
array_or_frame-returns-in_ok-cells-in-Frame-clause-read t c =
    cells_read c.args.literal c.args.scopes.now c.args.at (form_of c.args.first.now) c.args.rest.now c.in_ok-dims.dims c.in_ok-dims.ensures
    (ap (λ ns. product ns == 0) (sym c.as_slice.ensures) ∙ sym c.if-has_no_item.ensures) c.in-Frame.is (exprs_of c.in_ok-cells-in-Frame.cells) c.in_ok-cells-in-Frame.ensures.read
    ∙ ap Ok (sym c.frame.ensures)

pub list_atom-expr-requires : goal.list_atom-expr-requires
list_atom-expr-requires t c =
    let entered = c.in_ok-enter.ensures.entered
    ∙ ap (λ bs. under c.in_ok-space.field-0.space (held_names bs) c.read_header.new.scopes) c.as_slice.ensures.value
    ∙ ap (under c.in_ok-space.field-0.space (held_names c.in_ok-space.field-0.bound.items)) c.in_ok-space.ensures.same in
    let s = c.in_ok-space.ensures.size in (
      omega (arith, s),
      subst (λ Γ. HasRoom Γ (form_size (form_of c.in_ok-space.field-0.body.now))) (sym entered)
          (room_under c.in_ok-space.field-0.space (held_names c.in_ok-space.field-0.bound.items) c.args.scopes.now (length c.in_ok-space.field-0.bound.items) _ _ c.requires
          (length_names c.in_ok-space.field-0.bound.items) (omega (arith, s))),
    )

pub list_atom-returns-in_err-body-clause-read : goal.list_atom-returns-in_err-body-clause-read
list_atom-returns-in_err-body-clause-read t c =
    let entered = c.in_ok-enter.ensures.entered
    ∙ ap (λ bs. under c.in_ok-space.field-0.space (held_names bs) c.read_header.new.scopes) c.as_slice.ensures.value
    ∙ ap (under c.in_ok-space.field-0.space (held_names c.in_ok-space.field-0.bound.items)) c.in_ok-space.ensures.same in
    let h = atom_refused c.args.scopes.now c.args.at c.args.word (form_of c.args.first.now) (forms_of c.args.rest.now) (header_of c.args.scopes.now c.args.at c.in_ok-space.field-0) c.in_ok-space.ensures.read
    c.in_err-body.field-0.0 (subst (λ Γ. Refuses c.in_err-body.field-0.0 (expr Γ (form_of c.in_ok-space.field-0.body.now))) entered c.in_err-body.ensures.read) in
    same_answer atom_of c.from_residual-in_err-body.result _
    (list_atom c.args.scopes.now c.args.at c.args.word (form_of c.args.first.now) (forms_of c.args.rest.now) (λ k Δ. nth_expr k Δ (forms_of c.args.rest.now)))
    refl (search rules)

pub list_atom-returns-clause-read : goal.list_atom-returns-clause-read
list_atom-returns-clause-read t c =
    let entered = c.in_ok-enter.ensures.entered
    ∙ ap (λ bs. under c.in_ok-space.field-0.space (held_names bs) c.read_header.new.scopes) c.as_slice.ensures.value
    ∙ ap (under c.in_ok-space.field-0.space (held_names c.in_ok-space.field-0.bound.items)) c.in_ok-space.ensures.same in
    let n : c.len.result ≡ length c.in_ok-space.field-0.bound.items = search rules in
    let left = c.leave.ensures (held_names c.in_ok-space.field-0.bound.items) c.args.scopes.now (c.in_ok-body.ensures.same ∙ entered) (length_names c.in_ok-space.field-0.bound.items ∙ sym n) in
    same_answer atom_of c.finish.result _ (done_of c.args.scopes.now c.args.at c.in_ok-space.field-0.form (expr_of c.in_ok-body.body))
    (atom_read c.args.scopes.now c.args.at c.args.word (form_of c.args.first.now) (forms_of c.args.rest.now) (header_of c.args.scopes.now c.args.at c.in_ok-space.field-0) c.in_ok-space.ensures.read
    (expr_of c.in_ok-body.body) (subst (λ Γ. expr Γ (form_of c.in_ok-space.field-0.body.now) ≡ Ok (expr_of c.in_ok-body.body)) entered c.in_ok-body.ensures.read))
    (subst (λ Γ. Answers atom_of c.finish.result (done_of Γ c.args.at c.in_ok-space.field-0.form (expr_of c.in_ok-body.body))) left c.finish.ensures.read)

pub unbox-returns-in-Ok-clause-read : goal.unbox-returns-in-Ok-clause-read
unbox-returns-in-Ok-clause-read t c =
    let kept = c.in-Ok.ensures.same ∙ c.in_ok-boxed.ensures.same in
    let h = body_refused c.args.scopes.now c.args.at (form_of c.args.first.now) (forms_of c.args.rest.now) (unboxing_of c.in_ok-unboxing.unboxing) c.in_ok-unboxing.ensures.read
    (expr c.args.scopes.now (form_of c.in_ok-unboxing.unboxing.boxed.now)) (c.in_ok-unboxing.ensures.last c.args.scopes.now) (expr_of c.in_ok-boxed.boxed) c.in_ok-boxed.ensures.read (ty_of c.in-Ok.answer)
    (subst (λ Γ. array_ty Γ (form_of c.in_ok-unboxing.unboxing.answer.now) ≡ Ok (ty_of c.in-Ok.answer)) c.in_ok-boxed.ensures.same c.in-Ok.ensures.read)
    c.in-Err-unboxed_body.refusal
    (subst (λ Γ. Refuses c.in-Err-unboxed_body.refusal (expr (inside (unboxing_of c.in_ok-unboxing.unboxing) Γ) (form_of c.in_ok-unboxing.unboxing.body.now))) kept c.in-Err-unboxed_body.ensures.read) in
    subst (λ e. Refuses e (unbox c.args.scopes.now c.args.at (form_of c.args.first.now) (forms_of c.args.rest.now) (last_in c.args.scopes.now (form_of c.args.first.now)) (λ Δ. nth_expr 1 Δ (forms_of c.args.rest.now))))
    (sym (c.given_up-in-Err-unboxed_body.ensures ∙ c.given_up.ensures)) h

pub unbox-returns-in-Ok-unboxed_body-clause-read : goal.unbox-returns-in-Ok-unboxed_body-clause-read
unbox-returns-in-Ok-unboxed_body-clause-read t c =
    let kept = c.in-Ok.ensures.same ∙ c.in_ok-boxed.ensures.same in
    let n : c.len.result ≡ length c.in_ok-unboxing.unboxing.bound.items = search rules in
    same_answer expr_of c.finish_box.result _ _
    (unbox_read c.args.scopes.now c.args.at (form_of c.args.first.now) (forms_of c.args.rest.now) (unboxing_of c.in_ok-unboxing.unboxing) c.in_ok-unboxing.ensures.read
    (expr c.args.scopes.now (form_of c.in_ok-unboxing.unboxing.boxed.now)) (c.in_ok-unboxing.ensures.last c.args.scopes.now) (expr_of c.in_ok-boxed.boxed) c.in_ok-boxed.ensures.read (ty_of c.in-Ok.answer)
    (subst (λ Γ. array_ty Γ (form_of c.in_ok-unboxing.unboxing.answer.now) ≡ Ok (ty_of c.in-Ok.answer)) c.in_ok-boxed.ensures.same c.in-Ok.ensures.read)
    (expr_of c.in-Ok-unboxed_body.body) c.len.result
    (subst (λ Γ. expr (inside (unboxing_of c.in_ok-unboxing.unboxing) Γ) (form_of c.in_ok-unboxing.unboxing.body.now) ≡ Ok (expr_of c.in-Ok-unboxed_body.body)) kept c.in-Ok-unboxed_body.ensures.read)
    (length_names c.in_ok-unboxing.unboxing.bound.items ∙ sym n))
    c.finish_box.ensures

pub unboxed_body-expr-requires : goal.unboxed_body-expr-requires
unboxed_body-expr-requires t c =
    let u = c.args.unboxing.now in (
      omega arith,
      subst (λ Γ. HasRoom Γ (form_size (form_of u.body.now))) (sym c.in_ok-enter_box.ensures.entered)
          (room_under Terms (u.term.name.now ∷ []) (under Indices (held_names u.bound.items) c.args.scopes.now) 1 (1 + form_size (form_of u.body.now)) _
          (room_under Indices (held_names u.bound.items) c.args.scopes.now (length u.bound.items) _ _ c.requires (length_names u.bound.items) (omega arith)) refl (omega arith)),
    )
