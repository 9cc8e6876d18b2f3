use Rattle.std.proofs.Common.{rules, refl, sym, ap, subst, ◌∙◌, arith, length, take, Ok, Err, List, [], ◌∷◌}
use Rattle.core_syntax.specs.declared.index.Sort.{Sort}
use Rattle.core_syntax.specs.declared.ty.Ty.{Ty as Tree}
use Rattle.core_syntax.specs.Lists.{onto, each, Each, EachTwo}
use Rattle.core_syntax.specs.Typing.{Context, under_sorts, under_terms}
use Rattle.core_syntax.proofs.TyRows.{at_ty_form}
use Rattle.core_syntax.specs.Made.{Scope, IsSmall, terms_more, indices_more, ArrayMade, expr_nodes, exprs_nodes, atom_nodes, atoms_nodes, TyMade, IndexMade, ExprMade, ExprsMade, AtomMade, AtomsMade}
use Rattle.core_syntax.specs.Refine.{index_of, ty_of, tys_of, expr_of, exprs_of, atom_form_of, atom_of, atoms_of}
use Rattle.core_syntax.specs.Syntax.{Array, Frame, no_tys, ty_items, no_exprs, Fn, Boxed, Unbox}
use Rattle.core_syntax.specs.Notes.{note_of}
use Rattle.core_syntax.specs.NormTypes.{norm_ty}
use Rattle.type_check.specs.Answers.{Finding, NodeAnswers, AtomAnswers, IsInput}
use Rattle.core_syntax.specs.TypeEqual.{Same}
use Rattle.type_check.specs.Boxes.{AreFunctionTypes}
use Rattle.type_check.specs.Contexts.{Like, IsSound, scope_of}
use Rattle.type_check.specs.Functions.{InFunctionAnswers}
use Rattle.type_check.specs.Found.{Found, FoundAtom}
use Rattle.type_check.specs.FoundParts.{FoundAtoms, FoundCells, FoundArgs}
use Rattle.type_check.specs.State.{State, context_of, IsSteady}
use Rattle.type_check.proofs.contexts.Entering.{steady_types, steady_sorts, made_types, made_sorts}
use Rattle.type_check.proofs.trees.ExprParts.{is_array, is_frame, is_no_atoms, is_no_cells, at_expr, at_atom, atom_within, expr_within, is_app, is_type_app, is_index_app, is_unbox, is_type_fn, is_index_fn, is_boxed, is_fn}
use Rattle.type_check.proofs.one_by_one.NodeLemmas.{noted, type_function_refused, type_function_found, index_function_refused, index_function_found}
use Rattle.type_check.proofs.exits.BoxRule.{content_refused}
use Rattle.type_check.proofs.exits.FnRule.{types_refused}
use Rattle.type_check.proofs.one_by_one.FnSteps.{
  steady_inside as fn_steady_inside,
  made_inside as fn_made_inside,
  in_function_refused,
  in_function_found,
  opened_count as inputs_counted,
  opened_sound,
  opened_same,
  inner_refused,
}
use Rattle.type_check.proofs.trees.MadeWritten.{made_holds, made_arrays}
use Rattle.type_check.proofs.exits.RuleLemmas.{atom_ruled, room_of, written_of, ruled_two_like}
use Rattle.type_check.proofs.one_by_one.BoxSteps.{
  sorts_few_inside,
  steady_inside,
  made_inside,
  in_box_refused,
  in_box_found,
  boxes_array,
  cell_array,
  opened_count,
  content_sound,
  opened_like,
  unbox_not_opened,
  body_refused,
}
use Rattle.type_check.proofs.one_by_one.PrimSteps.{prim_found}
use Rattle.type_check.proofs.one_by_one.PartsTested.{atom_refused, cell_refused, arg_refused}
use Rattle.type_check.proofs.one_by_one.ArgSteps.{
  args_go_on,
  args_stop,
  args_at_first,
  args_at_end,
  args_carried,
  made_at,
  input_at,
  input_after,
  tys_count,
  function_inputs,
  function_output,
  args_later_refused,
}
use Rattle.type_check.proofs.one_by_one.Steps.{
  steady_after,
  made_after,
  sound_after,
  literal_refused,
  later_refused,
  atoms_go_on,
  atoms_stop,
  atoms_carried,
  made_atom,
  frame_refused,
  cells_later_refused,
  cells_go_on,
  cells_stop,
  cells_carried,
  made_cell,
  int_found,
  bool_found,
  char_found,
  atoms_at_first,
  cells_at_first,
  atoms_at_end,
  cells_at_end,
  atoms_count,
  exprs_count,
}
use Rattle.type_check.proofs.expressions.+typing.Goals as goal

pub atom-type_function-requires : goal.atom-type_function-requires
atom-type_function-requires t c =
    let e = is_type_fn c.args.a.now _ _ _ c.get.ensures c.in-TypeFn.is in
    let n = ap atom_nodes e in
    (omega (arith, n), (c.requires.steady, subst (AtomMade (scope_of (context_of c.args.checker.now))) e c.requires.made))

pub atom-index_function-requires : goal.atom-index_function-requires
atom-index_function-requires t c =
    let e = is_index_fn c.args.a.now _ _ _ _ c.as_slice.ensures c.get-in-IndexFn.ensures c.in-IndexFn.is in
    let n = ap atom_nodes e in
    (omega (arith, n), (c.requires.steady, subst (AtomMade (scope_of (context_of c.args.checker.now))) e c.requires.made))

pub atom-returns-in-TypeFn-clause-found : goal.atom-returns-in-TypeFn-clause-found
atom-returns-in-TypeFn-clause-found t c =
    subst (λ a. AtomAnswers c.args.checker.now c.type_function.new.checker a c.type_function.result)
    (sym (is_type_fn c.args.a.now _ _ _ c.get.ensures c.in-TypeFn.is)) c.type_function.ensures.found

pub atom-returns-in-IndexFn-clause-found : goal.atom-returns-in-IndexFn-clause-found
atom-returns-in-IndexFn-clause-found t c =
    subst (λ a. AtomAnswers c.args.checker.now c.index_function.new.checker a c.index_function.result)
    (sym (is_index_fn c.args.a.now _ _ _ _ c.as_slice.ensures c.get-in-IndexFn.ensures c.in-IndexFn.is)) c.index_function.ensures.found

pub expression-returns-in-Ok : goal.expression-returns-in-Ok
expression-returns-in-Ok t c =
    noted c.args.checker.now c.hold_note.new.self c.node.new.checker c.put_note.new.self (expr_of c.args.e.now) c.noted-place.result c.in-Ok.field-0
    c.noted-place.ensures c.in_ok-hold_note.ensures.held c.in-Ok.ensures c.put_note.ensures

pub index_function-expression-requires : goal.index_function-expression-requires
index_function-expression-requires t c =
    let s = c.args.checker.now in
    let made = c.requires.made in (
      omega arith,
      (
        subst IsSteady (sym c.in_ok-enter_sorts.ensures.entered) (steady_sorts s c.args.sorts.now c.requires.steady made.1.1),
        subst (λ (z : State). ExprMade (scope_of (context_of z)) (expr_of c.args.body.now)) (sym c.in_ok-enter_sorts.ensures.entered) (made_sorts s c.args.sorts.now c.requires.steady (expr_of c.args.body.now) made.2),
      ),
    )

pub index_function-returns-in-Ok-clause-found : goal.index_function-returns-in-Ok-clause-found
index_function-returns-in-Ok-clause-found t c =
    index_function_found c.args.checker.now c.enter_sorts.new.self c.args.sorts.now c.args.at (expr_of c.args.body.now) c.requires.steady c.in_ok-enter_sorts.ensures.entered
    (length c.args.sorts.now) c.in-Ok.answer c.expression.new.checker c.leave_sorts.new.self c.pi_type.result refl c.in-Ok.ensures c.leave_sorts.ensures c.pi_type.ensures.ty c.pi_type.ensures.memory

pub index_function-returns-in-Err-clause-found : goal.index_function-returns-in-Err-clause-found
index_function-returns-in-Err-clause-found t c =
    index_function_refused c.args.checker.now c.enter_sorts.new.self c.args.sorts.now c.args.at (expr_of c.args.body.now) c.requires.steady c.in_ok-enter_sorts.ensures.entered
    c.in-Err.refusal c.expression.new.checker c.expression.new.checker c.in-Err.ensures

pub node-literal-requires : goal.node-literal-requires
node-literal-requires t c =
    let e = is_array c.args.e.now _ _ _ _ c.as_slice.ensures c.as_slice-in-Array.ensures c.in-Array.is in
    let n = ap expr_nodes e in
    (omega (arith, n), (c.requires.steady, subst (ExprMade (scope_of (context_of c.args.checker.now))) e c.requires.made))

pub node-application-requires : goal.node-application-requires
node-application-requires t c =
    let e = is_app c.args.e.now _ _ _ _ c.get.ensures c.as_slice-in-App.ensures c.in-App.is in
    let n = ap expr_nodes e in
    (omega (arith, n), (c.requires.steady, subst (ExprMade (scope_of (context_of c.args.checker.now))) e c.requires.made))

pub node-type_application-requires : goal.node-type_application-requires
node-type_application-requires t c =
    let e = is_type_app c.args.e.now _ _ _ _ c.get-in-TypeApp.ensures c.as_slice-in-TypeApp.ensures c.in-TypeApp.is in
    let n = ap expr_nodes e in
    (omega (arith, n), (c.requires.steady, subst (ExprMade (scope_of (context_of c.args.checker.now))) e c.requires.made))

pub node-index_application-requires : goal.node-index_application-requires
node-index_application-requires t c =
    let e = is_index_app c.args.e.now _ _ _ _ c.get-in-IndexApp.ensures c.as_slice-in-IndexApp.ensures c.in-IndexApp.is in
    let n = ap expr_nodes e in
    (omega (arith, n), (c.requires.steady, subst (ExprMade (scope_of (context_of c.args.checker.now))) e c.requires.made))

pub node-unboxing-requires : goal.node-unboxing-requires
node-unboxing-requires t c =
    let e = is_unbox c.args.e.now _ _ _ _ _ _ c.get-in-Unbox.ensures c.get-in-Unbox-2.ensures c.in-Unbox.is in
    let n = ap expr_nodes e in
    (omega (arith, n), (c.requires.steady, subst (ExprMade (scope_of (context_of c.args.checker.now))) e c.requires.made))

pub node-returns-in-Array : goal.node-returns-in-Array
node-returns-in-Array t c =
    subst (λ e. NodeAnswers c.args.checker.now c.literal.new.checker e c.literal.result)
    (sym (is_array c.args.e.now _ _ _ _ c.as_slice.ensures c.as_slice-in-Array.ensures c.in-Array.is)) c.literal.ensures

pub node-returns-in-App : goal.node-returns-in-App
node-returns-in-App t c =
    subst (λ e. NodeAnswers c.args.checker.now c.application.new.checker e c.application.result)
    (sym (is_app c.args.e.now _ _ _ _ c.get.ensures c.as_slice-in-App.ensures c.in-App.is)) c.application.ensures

pub node-returns-in-TypeApp : goal.node-returns-in-TypeApp
node-returns-in-TypeApp t c =
    subst (λ e. NodeAnswers c.args.checker.now c.type_application.new.checker e c.type_application.result)
    (sym (is_type_app c.args.e.now _ _ _ _ c.get-in-TypeApp.ensures c.as_slice-in-TypeApp.ensures c.in-TypeApp.is)) c.type_application.ensures

pub node-returns-in-IndexApp : goal.node-returns-in-IndexApp
node-returns-in-IndexApp t c =
    subst (λ e. NodeAnswers c.args.checker.now c.index_application.new.checker e c.index_application.result)
    (sym (is_index_app c.args.e.now _ _ _ _ c.get-in-IndexApp.ensures c.as_slice-in-IndexApp.ensures c.in-IndexApp.is)) c.index_application.ensures

pub node-returns-in-Unbox : goal.node-returns-in-Unbox
node-returns-in-Unbox t c =
    subst (λ e. NodeAnswers c.args.checker.now c.unboxing.new.checker e c.unboxing.result)
    (sym (is_unbox c.args.e.now _ _ _ _ _ _ c.get-in-Unbox.ensures c.get-in-Unbox-2.ensures c.in-Unbox.is)) c.unboxing.ensures

pub type_function-expression-requires : goal.type_function-expression-requires
type_function-expression-requires t c =
    let s = c.args.checker.now in
    let made = c.requires.made in (
      omega arith,
      (
        subst IsSteady (sym c.enter_types.ensures) (steady_types s c.args.count c.requires.steady made.1.0),
        subst (λ (z : State). ExprMade (scope_of (context_of z)) (expr_of c.args.body.now)) (sym c.enter_types.ensures) (made_types s c.args.count c.requires.steady (expr_of c.args.body.now) made.2),
      ),
    )

pub type_function-returns-in-Ok-clause-found : goal.type_function-returns-in-Ok-clause-found
type_function-returns-in-Ok-clause-found t c =
    type_function_found c.args.checker.now c.enter_types.new.self c.args.count c.args.at (expr_of c.args.body.now) c.requires.steady c.enter_types.ensures
    c.in-Ok.answer c.expression.new.checker c.leave_types.new.self c.forall_type.result c.in-Ok.ensures c.leave_types.ensures c.forall_type.ensures.ty c.forall_type.ensures.memory

pub type_function-returns-in-Err-clause-found : goal.type_function-returns-in-Err-clause-found
type_function-returns-in-Err-clause-found t c =
    type_function_refused c.args.checker.now c.enter_types.new.self c.args.count c.args.at (expr_of c.args.body.now) c.requires.steady c.enter_types.ensures
    c.in-Err.refusal c.expression.new.checker c.expression.new.checker c.in-Err.ensures

pub node-no_atoms_rule-requires : goal.node-no_atoms_rule-requires
node-no_atoms_rule-requires t c =
    let e = is_no_atoms c.args.e.now _ _ _ c.as_slice-in-NoAtoms.ensures c.in-NoAtoms.is in
    record { steady = c.requires.steady; made = subst (ExprMade (scope_of (context_of c.args.checker.now))) e c.requires.made }

pub node-no_cells_rule-requires : goal.node-no_cells_rule-requires
node-no_cells_rule-requires t c =
    let e = is_no_cells c.args.e.now _ _ _ c.as_slice-in-NoCells.ensures c.in-NoCells.is in
    record { steady = c.requires.steady; made = subst (ExprMade (scope_of (context_of c.args.checker.now))) e c.requires.made }

pub node-frame-requires : goal.node-frame-requires
node-frame-requires t c =
    let e = is_frame c.args.e.now _ _ _ _ c.as_slice-in-Frame.ensures c.as_slice-in-Frame-2.ensures c.in-Frame.is in
    let n = ap expr_nodes e in
    (omega (arith, n), (c.requires.steady, subst (ExprMade (scope_of (context_of c.args.checker.now))) e c.requires.made))

pub node-returns-in-NoAtoms : goal.node-returns-in-NoAtoms
node-returns-in-NoAtoms t c =
    subst (λ e. NodeAnswers c.args.checker.now c.no_atoms_rule.new.checker e c.no_atoms_rule.result)
    (sym (is_no_atoms c.args.e.now _ _ _ c.as_slice-in-NoAtoms.ensures c.in-NoAtoms.is)) c.no_atoms_rule.ensures

pub node-returns-in-NoCells : goal.node-returns-in-NoCells
node-returns-in-NoCells t c =
    subst (λ e. NodeAnswers c.args.checker.now c.no_cells_rule.new.checker e c.no_cells_rule.result)
    (sym (is_no_cells c.args.e.now _ _ _ c.as_slice-in-NoCells.ensures c.in-NoCells.is)) c.no_cells_rule.ensures

pub node-returns-in-Frame : goal.node-returns-in-Frame
node-returns-in-Frame t c =
    subst (λ e. NodeAnswers c.args.checker.now c.frame.new.checker e c.frame.result)
    (sym (is_frame c.args.e.now _ _ _ _ c.as_slice-in-Frame.ensures c.as_slice-in-Frame-2.ensures c.in-Frame.is)) c.frame.ensures

-- ---- atoms

pub atom-returns-in-Int-clause-found : goal.atom-returns-in-Int-clause-found
atom-returns-in-Int-clause-found t c =
    subst (λ a. AtomAnswers c.args.checker.now c.args.checker.now a (Ok c.base_type.result)) (sym (ap (atom_form_of c.args.a.now.at) c.in-Int.is)) (int_found c.args.checker.now _ _ _ c.base_type.ensures)

pub atom-returns-in-Bool-clause-found : goal.atom-returns-in-Bool-clause-found
atom-returns-in-Bool-clause-found t c =
    subst (λ a. AtomAnswers c.args.checker.now c.args.checker.now a (Ok c.base_type-in-Bool.result)) (sym (ap (atom_form_of c.args.a.now.at) c.in-Bool.is)) (bool_found c.args.checker.now _ _ _ c.base_type-in-Bool.ensures)

pub atom-returns-in-Char-clause-found : goal.atom-returns-in-Char-clause-found
atom-returns-in-Char-clause-found t c =
    subst (λ a. AtomAnswers c.args.checker.now c.args.checker.now a (Ok c.base_type-in-Char.result)) (sym (ap (atom_form_of c.args.a.now.at) c.in-Char.is)) (char_found c.args.checker.now _ _ _ c.base_type-in-Char.ensures)

pub atom-returns-in-Prim-clause-found : goal.atom-returns-in-Prim-clause-found
atom-returns-in-Prim-clause-found t c =
    subst (λ a. AtomAnswers c.args.checker.now c.args.checker.now a c.primitive_type.result) (sym (ap (atom_form_of c.args.a.now.at) c.in-Prim.is))
    (prim_found c.args.checker.now _ _ _ c.primitive_type.ensures.ty c.primitive_type.ensures.memory)

-- ---- arrays

pub literal-first_atom-requires : goal.literal-first_atom-requires
literal-first_atom-requires t c =
    let n = atoms_count c.args.atoms.now in
    let m = c.requires.made.0.1 in
    omega (arith, n, m)

pub literal-atom-requires : goal.literal-atom-requires
literal-atom-requires t c =
    let n = ap (λ xs. atoms_nodes (atoms_of xs)) c.first_atom.ensures in
    (omega (arith, n), (c.requires.steady, (subst (λ xs. AtomsMade (scope_of (context_of c.args.checker.now)) (atoms_of xs)) c.first_atom.ensures c.requires.made.1).0))

pub literal-literal_of-requires : goal.literal-literal_of-requires
literal-literal_of-requires t c =
    let n = ap (λ xs. atoms_nodes (atoms_of xs)) c.first_atom.ensures in (
      omega (arith, n),
      (
        steady_after (λ Γ. FoundAtom Γ (atom_of c.first_atom.result.0.now) (ty_of c.in-Ok.ty)) c.args.checker.now c.atom.new.checker c.in-Ok.ensures.found c.requires.steady,
        (
          made_after (λ Γ. FoundAtom Γ (atom_of c.first_atom.result.0.now) (ty_of c.in-Ok.ty)) c.args.checker.now c.atom.new.checker c.in-Ok.ensures.found (λ Γ. AtomsMade Γ (atoms_of c.first_atom.result.1.now))
              (subst (λ xs. AtomsMade (scope_of (context_of c.args.checker.now)) (atoms_of xs)) c.first_atom.ensures c.requires.made.1).1,
          c.in-Ok.ensures.normal,
        ),
      ),
    )

pub literal-returns-in-Ok : goal.literal-returns-in-Ok
literal-returns-in-Ok t c =
    subst (λ xs. NodeAnswers c.args.checker.now c.literal_of.new.checker (Array c.args.at c.args.dims.now xs) c.literal_of.result) (sym (ap atoms_of c.first_atom.ensures))
    (c.literal_of.ensures c.args.checker.now (atom_of c.first_atom.result.0.now) c.in-Ok.ensures.found)

pub literal-returns-in-Err : goal.literal-returns-in-Err
literal-returns-in-Err t c =
    literal_refused c.args.checker.now c.atom.new.checker c.atom.new.checker c.args.at c.args.dims.now (atom_of c.first_atom.result.0.now) (atoms_of c.first_atom.result.1.now) (atoms_of c.args.atoms.now) c.in-Err.refusal
    (ap atoms_of c.first_atom.ensures) c.in-Err.ensures.found

pub literal_of-returns-in-Ok : goal.literal_of-returns-in-Ok
literal_of-returns-in-Ok t c = λ before x f. c.array_rule.ensures before x (atoms_of c.args.later.now) c.args.checker.now f c.in-Ok.ensures

pub literal_of-returns-in-Err : goal.literal_of-returns-in-Err
literal_of-returns-in-Err t c = λ before x f.
    later_refused before c.args.checker.now c.later_atoms.new.checker c.args.at c.args.dims.now x (atoms_of c.args.later.now) (ty_of c.args.ty.now) c.in-Err.refusal f c.in-Err.ensures

pub later_atoms-loop-a-init : goal.later_atoms-loop-a-init
later_atoms-loop-a-init t c = atoms_at_first c.args.checker.now (ty_of c.args.ty.now)

pub later_atoms-later_atom-requires : goal.later_atoms-later_atom-requires
later_atoms-later_atom-requires t c =
    let k = c.loop-a.a-index in
    let n = atom_within k c.args.atoms.now c.a-item.result c.loop-a-test.true in
    let m = ap (λ a. atom_nodes (atom_of a)) c.a-item.is in (
      omega (arith, n, m),
      (
        steady_after (λ Γ. FoundAtoms Γ (ty_of c.args.ty.now) (atoms_of (take k c.args.atoms.now))) c.args.checker.now c.loop-a.checker c.loop-a.invariant c.requires.steady,
        (
          made_after (λ Γ. FoundAtoms Γ (ty_of c.args.ty.now) (atoms_of (take k c.args.atoms.now))) c.args.checker.now c.loop-a.checker c.loop-a.invariant (λ Γ. AtomMade Γ (atom_of c.a-item.result))
              (made_atom (ty_of c.args.ty.now) c.args.atoms.now k c.a-item.result c.loop-a-test.true c.a-item.is c.args.checker.now c.loop-a.checker c.loop-a.invariant (scope_of (context_of c.args.checker.now)) c.requires.made),
          c.requires.normal,
        ),
      ),
    )

pub later_atoms-loop-a-preserved : goal.later_atoms-loop-a-preserved
later_atoms-loop-a-preserved t c =
    atoms_go_on (ty_of c.args.ty.now) c.args.atoms.now c.loop-a.a-index c.a-item.result c.loop-a-test.true c.a-item.is c.args.checker.now c.loop-a.checker c.loop-a.invariant
    c.later_atom.new.checker c.in_ok-later_atom.ensures

pub later_atoms-returns-in_err-later_atom : goal.later_atoms-returns-in_err-later_atom
later_atoms-returns-in_err-later_atom t c =
    atoms_carried (ty_of c.args.ty.now) (atoms_of c.args.atoms.now) c.args.checker.now c.later_atom.new.checker c.from_residual.result c.in_err-later_atom.field-0.0 c.from_residual.ensures.1
    (atoms_stop (ty_of c.args.ty.now) c.args.atoms.now c.loop-a.a-index c.a-item.result c.loop-a-test.true c.a-item.is c.args.checker.now c.loop-a.checker c.loop-a.invariant c.in_err-later_atom.field-0.0 c.in_err-later_atom.ensures)

pub later_atoms-returns : goal.later_atoms-returns
later_atoms-returns t c = atoms_at_end c.args.checker.now c.loop-a.checker (ty_of c.args.ty.now) c.args.atoms.now c.loop-a.a-index c.loop-a-test.false c.loop-a.invariant

pub later_atom-returns-in-Ok : goal.later_atom-returns-in-Ok
later_atom-returns-in-Ok t c = c.atom_rule.ensures c.args.checker.now (atom_of c.args.a.now) (at_atom c.args.a.now) c.in-Ok.ensures.found

pub later_atom-returns-in-Err : goal.later_atom-returns-in-Err
later_atom-returns-in-Err t c = λ Γ l. atom_refused Γ (ty_of c.args.ty.now) (atom_of c.args.a.now) c.in-Err.refusal (c.in-Err.ensures.found Γ l)

-- ---- frames

pub frame-first_expr-requires : goal.frame-first_expr-requires
frame-first_expr-requires t c =
    let n = exprs_count c.args.cells.now in
    let m = c.requires.made.0.1 in
    omega (arith, n, m)

pub frame-expression-requires : goal.frame-expression-requires
frame-expression-requires t c =
    let n = ap (λ xs. exprs_nodes (exprs_of xs)) c.first_expr.ensures in
    (omega (arith, n), (c.requires.steady, (subst (λ xs. ExprsMade (scope_of (context_of c.args.checker.now)) (exprs_of xs)) c.first_expr.ensures c.requires.made.1).0))

pub frame-frame_of-requires : goal.frame-frame_of-requires
frame-frame_of-requires t c =
    let n = ap (λ xs. exprs_nodes (exprs_of xs)) c.first_expr.ensures in (
      omega (arith, n),
      (
        steady_after (λ Γ. Found Γ (expr_of c.first_expr.result.0.now) (ty_of c.in-Ok.ty)) c.args.checker.now c.expression.new.checker c.in-Ok.ensures c.requires.steady,
        (
          made_after (λ Γ. Found Γ (expr_of c.first_expr.result.0.now) (ty_of c.in-Ok.ty)) c.args.checker.now c.expression.new.checker c.in-Ok.ensures (λ Γ. ExprsMade Γ (exprs_of c.first_expr.result.1.now))
              (subst (λ xs. ExprsMade (scope_of (context_of c.args.checker.now)) (exprs_of xs)) c.first_expr.ensures c.requires.made.1).1,
          (sound_after c.args.checker.now c.expression.new.checker (expr_of c.first_expr.result.0.now) (ty_of c.in-Ok.ty) c.in-Ok.ensures).top,
        ),
      ),
    )

pub frame-returns-in-Ok : goal.frame-returns-in-Ok
frame-returns-in-Ok t c =
    subst (λ xs. NodeAnswers c.args.checker.now c.frame_of.new.checker (Frame c.args.at c.args.dims.now xs) c.frame_of.result) (sym (ap exprs_of c.first_expr.ensures))
    (c.frame_of.ensures c.args.checker.now (expr_of c.first_expr.result.0.now) c.in-Ok.ensures)

pub frame-returns-in-Err : goal.frame-returns-in-Err
frame-returns-in-Err t c =
    frame_refused c.args.checker.now c.expression.new.checker c.expression.new.checker c.args.at c.args.dims.now (expr_of c.first_expr.result.0.now) (exprs_of c.first_expr.result.1.now) (exprs_of c.args.cells.now) c.in-Err.refusal
    (ap exprs_of c.first_expr.ensures) c.in-Err.ensures

pub frame_of-returns-in-Ok : goal.frame_of-returns-in-Ok
frame_of-returns-in-Ok t c = λ before x f. c.frame_rule.ensures before x (exprs_of c.args.later.now) c.args.checker.now f c.in-Ok.ensures

pub frame_of-returns-in-Err : goal.frame_of-returns-in-Err
frame_of-returns-in-Err t c = λ before x f.
    cells_later_refused before c.args.checker.now c.later_cells.new.checker c.args.at c.args.dims.now x (exprs_of c.args.later.now) (ty_of c.args.ty.now) c.in-Err.refusal f c.in-Err.ensures

pub later_cells-loop-e-init : goal.later_cells-loop-e-init
later_cells-loop-e-init t c = cells_at_first c.args.checker.now (ty_of c.args.ty.now)

pub later_cells-later_cell-requires : goal.later_cells-later_cell-requires
later_cells-later_cell-requires t c =
    let k = c.loop-e.e-index in
    let n = expr_within k c.args.cells.now c.e-item.result c.loop-e-test.true in
    let m = ap (λ e. expr_nodes (expr_of e)) c.e-item.is in (
      omega (arith, n, m),
      (
        steady_after (λ Γ. FoundCells Γ (ty_of c.args.ty.now) (exprs_of (take k c.args.cells.now))) c.args.checker.now c.loop-e.checker c.loop-e.invariant c.requires.steady,
        made_after (λ Γ. FoundCells Γ (ty_of c.args.ty.now) (exprs_of (take k c.args.cells.now))) c.args.checker.now c.loop-e.checker c.loop-e.invariant (λ Γ. ExprMade Γ (expr_of c.e-item.result))
            (made_cell (ty_of c.args.ty.now) c.args.cells.now k c.e-item.result c.loop-e-test.true c.e-item.is c.args.checker.now c.loop-e.checker c.loop-e.invariant (scope_of (context_of c.args.checker.now)) c.requires.made),
      ),
    )

pub later_cells-loop-e-preserved : goal.later_cells-loop-e-preserved
later_cells-loop-e-preserved t c =
    cells_go_on (ty_of c.args.ty.now) c.args.cells.now c.loop-e.e-index c.e-item.result c.loop-e-test.true c.e-item.is c.args.checker.now c.loop-e.checker c.loop-e.invariant
    c.later_cell.new.checker c.in_ok-later_cell.ensures

pub later_cells-returns-in_err-later_cell : goal.later_cells-returns-in_err-later_cell
later_cells-returns-in_err-later_cell t c =
    cells_carried (ty_of c.args.ty.now) (exprs_of c.args.cells.now) c.args.checker.now c.later_cell.new.checker c.from_residual.result c.in_err-later_cell.field-0.0 c.from_residual.ensures.1
    (cells_stop (ty_of c.args.ty.now) c.args.cells.now c.loop-e.e-index c.e-item.result c.loop-e-test.true c.e-item.is c.args.checker.now c.loop-e.checker c.loop-e.invariant c.in_err-later_cell.field-0.0 c.in_err-later_cell.ensures)

pub later_cells-returns : goal.later_cells-returns
later_cells-returns t c = cells_at_end c.args.checker.now c.loop-e.checker (ty_of c.args.ty.now) c.args.cells.now c.loop-e.e-index c.loop-e-test.false c.loop-e.invariant

pub later_cell-returns-in-Ok : goal.later_cell-returns-in-Ok
later_cell-returns-in-Ok t c = c.cell_rule.ensures c.args.checker.now (expr_of c.args.e.now) (at_expr c.args.e.now) c.in-Ok.ensures

pub later_cell-returns-in-Err : goal.later_cell-returns-in-Err
later_cell-returns-in-Err t c = λ Γ l. cell_refused Γ (ty_of c.args.ty.now) (expr_of c.args.e.now) c.in-Err.refusal (c.in-Err.ensures Γ l)

-- ---- applications to types and to indices

pub type_application-types_rule-requires : goal.type_application-types_rule-requires
type_application-types_rule-requires t c =
    record {
      steady = steady_after (λ Γ. Found Γ (expr_of c.args.function.now) (ty_of c.in-Ok.callee)) c.args.checker.now c.expression.new.checker c.in-Ok.ensures c.requires.steady;
      sound = sound_after c.args.checker.now c.expression.new.checker (expr_of c.args.function.now) (ty_of c.in-Ok.callee) c.in-Ok.ensures;
      made = made_after (λ Γ. Found Γ (expr_of c.args.function.now) (ty_of c.in-Ok.callee)) c.args.checker.now c.expression.new.checker c.in-Ok.ensures (λ Γ. Each (TyMade Γ) (each ty_of c.args.types.now)) c.requires.made.2;
    }

pub type_application-returns-in-Ok : goal.type_application-returns-in-Ok
type_application-returns-in-Ok t c = c.types_rule.ensures c.args.checker.now (expr_of c.args.function.now) (at_expr c.args.function.now) c.in-Ok.ensures

pub index_application-indices_rule-requires : goal.index_application-indices_rule-requires
index_application-indices_rule-requires t c =
    record {
      steady = steady_after (λ Γ. Found Γ (expr_of c.args.function.now) (ty_of c.in-Ok.callee)) c.args.checker.now c.expression.new.checker c.in-Ok.ensures c.requires.steady;
      sound = sound_after c.args.checker.now c.expression.new.checker (expr_of c.args.function.now) (ty_of c.in-Ok.callee) c.in-Ok.ensures;
      made = made_after (λ Γ. Found Γ (expr_of c.args.function.now) (ty_of c.in-Ok.callee)) c.args.checker.now c.expression.new.checker c.in-Ok.ensures (λ (Γ : Scope). Each (IndexMade Γ.indices) (each index_of c.args.indices.now)) c.requires.made.2;
    }

pub index_application-returns-in-Ok : goal.index_application-returns-in-Ok
index_application-returns-in-Ok t c = c.indices_rule.ensures c.args.checker.now (expr_of c.args.function.now) (at_expr c.args.function.now) c.in-Ok.ensures

-- ---- applications

pub application-applied-requires : goal.application-applied-requires
application-applied-requires t c = (
  omega arith,
  (
    steady_after (λ Γ. Found Γ (expr_of c.args.function.now) (ty_of c.in-Ok.callee)) c.args.checker.now c.expression.new.checker c.in-Ok.ensures c.requires.steady,
    (
      made_after (λ Γ. Found Γ (expr_of c.args.function.now) (ty_of c.in-Ok.callee)) c.args.checker.now c.expression.new.checker c.in-Ok.ensures (λ Γ. ExprsMade Γ (exprs_of c.args.args.now)) c.requires.made.2,
      sound_after c.args.checker.now c.expression.new.checker (expr_of c.args.function.now) (ty_of c.in-Ok.callee) c.in-Ok.ensures,
    ),
  ),
)

pub application-returns-in-Ok : goal.application-returns-in-Ok
application-returns-in-Ok t c = c.applied.ensures c.args.checker.now (expr_of c.args.function.now) (at_expr c.args.function.now) c.in-Ok.ensures

pub applied-function-requires : goal.applied-function-requires
applied-function-requires t c = c.requires.sound.top

pub applied-applied_parts-requires : goal.applied-applied_parts-requires
applied-applied_parts-requires t c =
    let n = ap (λ t. norm_ty (ty_of t)) (sym c.ty-normal.ensures.tree) ∙ c.ty-normal.ensures.normal ∙ ap ty_of c.ty-normal.ensures.tree in (
      omega arith,
      (
        c.requires.steady,
        (
          c.requires.made,
          (
            function_inputs c.args.checker.now.types (onto c.args.checker.now.sorts []) (ty_of c.args.callee.now) c.in-Ok.parts.inputs.now (ty_of c.in-Ok.parts.output.now) (index_of c.in-Ok.parts.shape.now) c.requires.sound n c.in-Ok.ensures.parts,
            (
              function_output c.args.checker.now.types (onto c.args.checker.now.sorts []) (ty_of c.args.callee.now) (tys_of c.in-Ok.parts.inputs.now) (ty_of c.in-Ok.parts.output.now) (index_of c.in-Ok.parts.shape.now) c.requires.sound n c.in-Ok.ensures.parts,
              c.in-Ok.ensures.count,
            ),
          ),
        ),
      ),
    )

pub applied-returns-in-Ok : goal.applied-returns-in-Ok
applied-returns-in-Ok t c = λ before f at g. c.applied_parts.ensures before f (ty_of c.args.callee.now) g c.in-Ok.ensures.parts

pub applied-returns-in-Err : goal.applied-returns-in-Err
applied-returns-in-Err t c = λ before f at g Γ l. c.in-Err.ensures.refused Γ f (exprs_of c.args.args.now) (each note_of g.0) at (exprs_count c.args.args.now) (g.2 Γ l)

pub applied_parts-arguments-requires : goal.applied_parts-arguments-requires
applied_parts-arguments-requires t c = (omega arith, (c.requires.steady, (c.requires.made, (c.requires.inputs, c.requires.count))))

pub applied_parts-application_rule-requires : goal.applied_parts-application_rule-requires
applied_parts-application_rule-requires t c = record { output = c.requires.output.array; normal = c.requires.output.normal }

pub applied_parts-returns-in-Ok : goal.applied_parts-returns-in-Ok
applied_parts-returns-in-Ok t c = λ before f t g is.
    c.application_rule.ensures before f (exprs_of c.args.args.now) t c.args.checker.now g is
    (tys_count c.args.parts.now.inputs.now ∙ c.requires.count ∙ sym (exprs_count c.args.args.now)) c.in-Ok.ensures

pub applied_parts-returns-in-Err : goal.applied_parts-returns-in-Err
applied_parts-returns-in-Err t c = λ before f t g is.
    args_later_refused before c.args.checker.now c.arguments.new.checker c.args.at f (exprs_of c.args.args.now) t (tys_of c.args.parts.now.inputs.now) (ty_of c.args.parts.now.output.now) (index_of c.args.parts.now.shape.now) c.in-Err.refusal g is
    (tys_count c.args.parts.now.inputs.now ∙ c.requires.count ∙ sym (exprs_count c.args.args.now)) c.in-Err.ensures

pub arguments-loop-place-init : goal.arguments-loop-place-init
arguments-loop-place-init t c = subst (λ ws. Finding (λ Γ. FoundArgs Γ no_tys no_exprs ws) c.args.checker.now c.args.checker.now) (sym c.new-words.ensures.items) (args_at_first c.args.checker.now)

pub arguments-argument-requires : goal.arguments-argument-requires
arguments-argument-requires t c =
    let k = c.loop-place.place in
    let n = expr_within k c.args.args.now c.index-args-place.result c.loop-place-test.true in
    let m = ap (λ e. expr_nodes (expr_of e)) c.index-args-place.is in
    let e = c.requires.count in
    let lt = c.loop-place-test.true in (
      omega (arith, n, m),
      (
        steady_after (λ Γ. FoundArgs Γ (tys_of (take k c.args.inputs.now)) (exprs_of (take k c.args.args.now)) c.loop-place.words.items) c.args.checker.now c.loop-place.checker c.loop-place.invariant c.requires.steady,
        (
          made_after (λ Γ. FoundArgs Γ (tys_of (take k c.args.inputs.now)) (exprs_of (take k c.args.args.now)) c.loop-place.words.items) c.args.checker.now c.loop-place.checker c.loop-place.invariant (λ Γ. ExprMade Γ (expr_of c.index-args-place.result))
              (made_at (scope_of (context_of c.args.checker.now)) c.args.args.now k c.index-args-place.result c.loop-place-test.true c.index-args-place.is c.requires.made),
          input_after (λ Γ. FoundArgs Γ (tys_of (take k c.args.inputs.now)) (exprs_of (take k c.args.args.now)) c.loop-place.words.items) c.args.checker.now c.loop-place.checker (ty_of c.index-inputs-place.result) c.loop-place.invariant
              (input_at (IsInput c.args.checker.now.types (onto c.args.checker.now.sorts [])) c.args.inputs.now k c.index-inputs-place.result (omega (arith, e, lt)) c.index-inputs-place.is c.requires.inputs),
        ),
      ),
    )

pub arguments-loop-place-preserved : goal.arguments-loop-place-preserved
arguments-loop-place-preserved t c =
    let e = c.requires.count in
    let lt = c.loop-place-test.true in
    args_go_on c.args.inputs.now c.args.args.now c.loop-place.place c.index-inputs-place.result c.index-args-place.result lt c.index-args-place.is (omega (arith, e, lt)) c.index-inputs-place.is c.loop-place.words.items
    c.args.checker.now c.loop-place.checker c.loop-place.invariant c.in_ok-word.word c.push.new.self.items c.argument.new.checker (search rules) c.in_ok-word.ensures

pub arguments-returns-in_err-word : goal.arguments-returns-in_err-word
arguments-returns-in_err-word t c =
    let e = c.requires.count in
    let lt = c.loop-place-test.true in
    args_carried (λ ws. ws.items) (tys_of c.args.inputs.now) (exprs_of c.args.args.now) c.args.checker.now c.argument.new.checker c.from_residual.result c.in_err-word.field-0.0 c.from_residual.ensures.1
    (args_stop c.args.inputs.now c.args.args.now c.loop-place.place c.index-inputs-place.result c.index-args-place.result lt c.index-args-place.is (omega (arith, e, lt)) c.index-inputs-place.is c.loop-place.words.items
    c.args.checker.now c.loop-place.checker c.loop-place.invariant c.in_err-word.field-0.0 c.in_err-word.ensures)

pub arguments-returns : goal.arguments-returns
arguments-returns t c = args_at_end c.args.checker.now c.loop-place.checker c.args.inputs.now c.args.args.now c.loop-place.words.items c.loop-place.place c.requires.count c.loop-place-test.false c.loop-place.invariant

pub argument-argument_rule-requires : goal.argument-argument_rule-requires
argument-argument_rule-requires t c =
    let i = input_after (λ Γ. Found Γ (expr_of c.args.arg.now) (ty_of c.in-Ok.found)) c.args.checker.now c.expression.new.checker (ty_of c.args.input.now) c.in-Ok.ensures c.requires.input in
    record { array = i.array; normal = i.normal; formed = i.formed; found = (sound_after c.args.checker.now c.expression.new.checker (expr_of c.args.arg.now) (ty_of c.in-Ok.found) c.in-Ok.ensures).top }

pub argument-returns-in-Ok : goal.argument-returns-in-Ok
argument-returns-in-Ok t c =
    c.argument_rule.ensures c.args.checker.now (expr_of c.args.arg.now) (at_expr c.args.arg.now) (sym (ap (λ (s : State). s.types) c.in-Ok.ensures.1)) (sym (ap (λ (s : State). s.sorts) c.in-Ok.ensures.1)) c.in-Ok.ensures

pub argument-returns-in-Err : goal.argument-returns-in-Err
argument-returns-in-Err t c = λ Γ l. arg_refused Γ (ty_of c.args.input.now) (expr_of c.args.arg.now) c.in-Err.refusal (c.in-Err.ensures Γ l)

-- ---- boxes

pub atom-boxing-requires : goal.atom-boxing-requires
atom-boxing-requires t c =
    let e = is_boxed c.args.a.now _ _ _ _ _ c.as_slice-in-Boxed.ensures c.get-in-Boxed.ensures c.in-Boxed.is in
    let n = ap atom_nodes e in
    (omega (arith, n), (c.requires.steady, subst (AtomMade (scope_of (context_of c.args.checker.now))) e c.requires.made))

pub atom-returns-in-Boxed-clause-found : goal.atom-returns-in-Boxed-clause-found
atom-returns-in-Boxed-clause-found t c =
    subst (λ a. AtomAnswers c.args.checker.now c.boxing.new.checker a c.boxing.result)
    (sym (is_boxed c.args.a.now _ _ _ _ _ c.as_slice-in-Boxed.ensures c.get-in-Boxed.ensures c.in-Boxed.is)) c.boxing.ensures.found

pub boxing-box_opened-requires : goal.boxing-box_opened-requires
boxing-box_opened-requires t c = record { steady = c.requires.steady; indices = c.requires.made.1; ty = c.requires.made.3 }

pub boxing-boxed_content-requires : goal.boxing-boxed_content-requires
boxing-boxed_content-requires t c = (
  omega arith,
  (
    subst IsSteady (sym c.in-Ok.ensures.kept) c.requires.steady,
    subst (λ (s : State). ExprMade (scope_of (context_of s)) (expr_of c.args.content.now)) (sym c.in-Ok.ensures.kept) c.requires.made.2,
  ),
)

pub boxing-returns-in-Ok-clause-found : goal.boxing-returns-in-Ok-clause-found
boxing-returns-in-Ok-clause-found t c =
    subst (λ (s : State). AtomAnswers s c.boxed_content.new.checker (Boxed c.args.at (each index_of c.args.indices.now) (expr_of c.args.content.now) (ty_of c.args.ty.now)) c.boxed_content.result) c.in-Ok.ensures.kept
    (c.boxed_content.ensures.found c.args.at (each index_of c.args.indices.now) (ty_of c.args.ty.now)
    (λ Γ l. c.in-Ok.ensures.opens Γ (subst (λ (s : State). Like Γ (context_of s)) c.in-Ok.ensures.kept l))
    (made_holds (scope_of (context_of c.args.checker.now)) (ty_of c.args.ty.now) c.requires.made.3))

pub boxing-returns-in-Err-clause-found : goal.boxing-returns-in-Err-clause-found
boxing-returns-in-Err-clause-found t c = λ Γ l. c.in-Err.ensures.opens Γ l (expr_of c.args.content.now)

pub boxed_content-returns-in-Ok-clause-found : goal.boxed_content-returns-in-Ok-clause-found
boxed_content-returns-in-Ok-clause-found t c = λ at is u o holds.
    atom_ruled c.args.checker.now c.expression.new.checker (Boxed at is (expr_of c.args.content.now) u) (λ Γ. Found Γ (expr_of c.args.content.now) (ty_of c.in-Ok.found)) c.in-Ok.ensures c.box_rule.result
    (λ Γ ns l p. c.box_rule.ensures.concludes Γ at is u (expr_of c.args.content.now) ns (o Γ l) holds (at_expr c.args.content.now) p)

pub boxed_content-returns-in-Err-clause-found : goal.boxed_content-returns-in-Err-clause-found
boxed_content-returns-in-Err-clause-found t c = λ at is u o holds Γ l.
    content_refused Γ at is u c.args.opened (o Γ l) (expr_of c.args.content.now) c.in-Err.refusal (c.in-Err.ensures Γ l)

-- ---- the bodies of `unbox`

pub unboxing-unboxed-requires : goal.unboxing-unboxed-requires
unboxing-unboxed-requires t c =
    let made = c.requires.made in (
      omega arith,
      (
        steady_after (λ Γ. Found Γ (expr_of c.args.content.now) (ty_of c.in-Ok.boxes)) c.args.checker.now c.expression.new.checker c.in-Ok.ensures c.requires.steady,
        (
          made_after (λ Γ. Found Γ (expr_of c.args.content.now) (ty_of c.in-Ok.boxes)) c.args.checker.now c.expression.new.checker c.in-Ok.ensures (λ Γ. ArrayMade Γ (ty_of c.args.ty.now)) made.2,
          (
            made_after (λ Γ. Found Γ (expr_of c.args.content.now) (ty_of c.in-Ok.boxes)) c.args.checker.now c.expression.new.checker c.in-Ok.ensures (λ Γ. IsSmall (terms_more 1 (indices_more c.args.count Γ))) made.3,
            (
              made_after (λ Γ. Found Γ (expr_of c.args.content.now) (ty_of c.in-Ok.boxes)) c.args.checker.now c.expression.new.checker c.in-Ok.ensures (λ Γ. ExprMade (terms_more 1 (indices_more c.args.count Γ)) (expr_of c.args.body.now)) made.4,
              (c.args.checker.now, expr_of c.args.content.now, at_expr c.args.content.now, c.in-Ok.ensures),
            ),
          ),
        ),
      ),
    )

pub unboxing-returns-in-Ok : goal.unboxing-returns-in-Ok
unboxing-returns-in-Ok t c = c.unboxed.ensures c.args.checker.now (expr_of c.args.content.now) (at_expr c.args.content.now) c.in-Ok.ensures

pub unboxed-open_unbox-requires : goal.unboxed-open_unbox-requires
unboxed-open_unbox-requires t c = record { room = room_of c.args.checker.now c.requires.steady; written = written_of c.args.checker.now (ty_of c.args.ty.now) c.requires.ty.1 }

pub unboxed-unboxed_body-requires : goal.unboxed-unboxed_body-requires
unboxed-unboxed_body-requires t c =
    let o = c.in-Ok.opened in
    let s = c.args.checker.now in
    let opens = c.in-Ok.ensures.opens in
    let n = opened_count c.args.boxes_at (ty_of c.args.boxes.now) (ty_of c.args.ty.now) c.args.count s o c.requires.found opens in
    let k = c.in-Ok.ensures.kept in (
      omega arith,
      (
        subst IsSteady (sym k) c.requires.steady,
        (
          boxes_array c.args.boxes_at (ty_of c.args.boxes.now) (ty_of c.args.ty.now) c.args.count s o c.requires.found opens,
          (
            cell_array c.args.boxes_at (ty_of c.args.boxes.now) (ty_of c.args.ty.now) c.args.count s o c.requires.found opens c.requires.ty.0,
            (
              subst (λ (z : State). IsSmall (terms_more 1 (indices_more (length o.sorts) (scope_of (context_of z))))) (sym k) (subst (λ m. IsSmall (terms_more 1 (indices_more m (scope_of (context_of s))))) n c.requires.small),
              (
                subst (λ (z : State). ExprMade (terms_more 1 (indices_more (length o.sorts) (scope_of (context_of z)))) (expr_of c.args.body.now)) (sym k)
                    (subst (λ m. ExprMade (terms_more 1 (indices_more m (scope_of (context_of s)))) (expr_of c.args.body.now)) n c.requires.body),
                subst (λ (z : State). IsSound z.types (onto o.sorts (onto z.sorts [])) (ty_of o.content)) (sym k)
                    (content_sound c.args.boxes_at (ty_of c.args.boxes.now) (ty_of c.args.ty.now) c.args.count s o c.requires.found opens),
              ),
            ),
          ),
        ),
      ),
    )

pub unboxed-returns-in-Ok : goal.unboxed-returns-in-Ok
unboxed-returns-in-Ok t c = λ before e is f.
    c.unboxed_body.ensures before c.args.count e (ty_of c.args.ty.now) (subst (Finding (λ Γ. Found Γ e (ty_of c.args.boxes.now)) before) (sym c.in-Ok.ensures.kept) f)
    (opened_like c.args.boxes_at (ty_of c.args.boxes.now) (ty_of c.args.ty.now) c.args.count before c.args.checker.now c.in-Ok.opened e c.in-Ok.ensures.opens is f)
    c.requires.ty.0 (made_holds (scope_of (context_of c.args.checker.now)) (ty_of c.args.ty.now) c.requires.ty.1) (sym (at_ty_form c.args.ty.now.at c.args.ty.now.form))

pub unboxed-returns-in-Err : goal.unboxed-returns-in-Err
unboxed-returns-in-Err t c = λ before e is f.
    unbox_not_opened c.args.at c.args.boxes_at (ty_of c.args.boxes.now) (ty_of c.args.ty.now) c.args.count before c.args.checker.now c.open_unbox.new.self e (expr_of c.args.body.now) c.in-Err.refusal c.in-Err.ensures.opens is f

pub unboxed_body-in_box-requires : goal.unboxed_body-in_box-requires
unboxed_body-in_box-requires t c =
    let e = sym c.as_slice.ensures in (
      omega arith,
      (
        c.requires.steady,
        (
          subst (λ (ss : List Sort). IsSmall (terms_more 1 (indices_more (length ss) (scope_of (context_of c.args.checker.now))))) e c.requires.small,
          (
            subst (λ (ss : List Sort). ExprMade (terms_more 1 (indices_more (length ss) (scope_of (context_of c.args.checker.now)))) (expr_of c.args.body.now)) e c.requires.body,
            subst (λ (ss : List Sort). IsSound c.args.checker.now.types (onto ss (onto c.args.checker.now.sorts [])) (ty_of c.args.opened.content)) e c.requires.sound,
          ),
        ),
      ),
    )

pub unboxed_body-returns-in-Ok : goal.unboxed_body-returns-in-Ok
unboxed_body-returns-in-Ok t c = λ before n e u f o array holds place.
    ruled_two_like before c.args.checker.now c.in_box.new.checker (Unbox c.args.at n e u (expr_of c.args.body.now)) (λ Γ. Found Γ e (ty_of c.args.boxes.now))
    (λ Γ. Found (under_terms (ty_of c.args.opened.content ∷ []) (under_sorts c.as_slice.result.now Γ)) (expr_of c.args.body.now) (ty_of c.in-Ok.found)) f c.in-Ok.ensures c.close_unbox.result
    (λ Γ ns ms l p q. c.close_unbox.ensures Γ n e u (expr_of c.args.body.now) ns ms c.args.opened refl refl refl (o Γ l) array holds place p
    (subst (λ (ss : List Sort). Found (under_terms (ty_of c.args.opened.content ∷ []) (under_sorts ss Γ)) (expr_of c.args.body.now) (ty_of c.in-Ok.found) ms) c.as_slice.ensures q))

pub unboxed_body-returns-in-Err : goal.unboxed_body-returns-in-Err
unboxed_body-returns-in-Err t c = λ before n e u f o array holds place.
    body_refused before c.args.checker.now c.in_box.new.checker c.args.at n e u (expr_of c.args.body.now) (ty_of c.args.boxes.now) c.args.opened c.as_slice.result.now c.in-Err.refusal f o c.as_slice.ensures c.in-Err.ensures

pub in_box-enter_box-requires : goal.in_box-enter_box-requires
in_box-enter_box-requires t c = sorts_few_inside c.args.checker.now c.args.sorts.now c.args.content c.requires.steady c.requires.small

pub in_box-expression-requires : goal.in_box-expression-requires
in_box-expression-requires t c =
    let s = c.args.checker.now in
    let e = sym c.in_ok-enter_box.ensures.entered in (
      omega arith,
      (
        subst IsSteady e (steady_inside s c.args.sorts.now c.args.content c.requires.steady c.requires.small c.requires.sound),
        subst (λ (z : State). ExprMade (scope_of (context_of z)) (expr_of c.args.body.now)) e (made_inside s c.args.sorts.now c.args.content c.requires.steady c.requires.small (expr_of c.args.body.now) c.requires.body),
      ),
    )

pub in_box-returns-in-Ok : goal.in_box-returns-in-Ok
in_box-returns-in-Ok t c =
    in_box_found c.args.checker.now c.args.sorts.now c.args.content c.requires.steady c.requires.small c.enter_box.new.checker c.in_ok-enter_box.ensures.entered
    (expr_of c.args.body.now) c.in-Ok.found (length c.args.sorts.now) c.expression.new.checker c.leave_box.new.checker refl c.in-Ok.ensures c.leave_box.ensures

pub in_box-returns-in-Err : goal.in_box-returns-in-Err
in_box-returns-in-Err t c =
    in_box_refused c.args.checker.now c.args.sorts.now c.args.content c.requires.steady c.requires.small c.enter_box.new.checker c.in_ok-enter_box.ensures.entered
    (expr_of c.args.body.now) c.in-Err.refusal c.expression.new.checker c.expression.new.checker c.in-Err.ensures

-- ---- functions

pub atom-term_function-requires : goal.atom-term_function-requires
atom-term_function-requires t c =
    let e = is_fn c.args.a.now _ _ _ _ _ c.as_slice-in-Fn.ensures c.get-in-Fn.ensures c.in-Fn.is in
    let n = ap atom_nodes e in
    (omega (arith, n), (c.requires.steady, subst (AtomMade (scope_of (context_of c.args.checker.now))) e c.requires.made))

pub atom-returns-in-Fn-clause-found : goal.atom-returns-in-Fn-clause-found
atom-returns-in-Fn-clause-found t c =
    subst (λ a. AtomAnswers c.args.checker.now c.term_function.new.checker a c.term_function.result)
    (sym (is_fn c.args.a.now _ _ _ _ _ c.as_slice-in-Fn.ensures c.get-in-Fn.ensures c.in-Fn.is)) c.term_function.ensures.found

pub term_function-function_opened-requires : goal.term_function-function_opened-requires
term_function-function_opened-requires t c = record { steady = c.requires.steady; inputs = c.requires.made.1; output = c.requires.made.2.1 }

pub term_function-function_body-requires : goal.term_function-function_body-requires
term_function-function_body-requires t c =
    let s = c.args.checker.now in
    let f = c.in-Ok.types in
    let ts = tys_of c.args.inputs.now in
    let r = ty_of c.args.output.now in
    let opens : (Γ : Context) → Like Γ (context_of s) → AreFunctionTypes Γ ts r f = λ Γ l. (c.in-Ok.ensures.opens Γ l).1 in
    let n = inputs_counted s ts r f opens in
    let k = sym c.in-Ok.ensures.kept in (
      omega arith,
      (
        subst IsSteady k c.requires.steady,
        (
          subst (λ (z : State). Each (IsSound z.types (onto z.sorts [])) (each ty_of f.inputs.items)) k (opened_sound s ts r f opens (made_arrays (scope_of (context_of s)) ts c.requires.made.1)),
          (
            subst (λ (z : State). IsSmall (terms_more (length f.inputs.items) (scope_of (context_of z)))) k (subst (λ m. IsSmall (terms_more m (scope_of (context_of s)))) n c.requires.made.3),
            subst (λ (z : State). ExprMade (terms_more (length f.inputs.items) (scope_of (context_of z))) (expr_of c.args.body.now)) k
                (subst (λ m. ExprMade (terms_more m (scope_of (context_of s))) (expr_of c.args.body.now)) n c.requires.made.4),
          ),
        ),
      ),
    )

pub term_function-returns-in-Ok-clause-found : goal.term_function-returns-in-Ok-clause-found
term_function-returns-in-Ok-clause-found t c =
    let s = c.args.checker.now in
    let ts = tys_of c.args.inputs.now in
    let r = ty_of c.args.output.now in
    subst (λ (z : State). AtomAnswers z c.function_body.new.checker (Fn c.args.at ts r (expr_of c.args.body.now)) c.function_body.result) c.in-Ok.ensures.kept
    (c.function_body.ensures.found c.args.at ts r (λ Γ l. (c.in-Ok.ensures.opens Γ (subst (λ (z : State). Like Γ (context_of z)) c.in-Ok.ensures.kept l)).1)
    (made_arrays (scope_of (context_of s)) ts c.requires.made.1) c.requires.made.2.0 (made_holds (scope_of (context_of s)) r c.requires.made.2.1)
    (sym (at_ty_form c.args.output.now.at c.args.output.now.form)))

pub term_function-returns-in-Err-clause-found : goal.term_function-returns-in-Err-clause-found
term_function-returns-in-Err-clause-found t c = λ Γ l.
    types_refused Γ c.args.at (tys_of c.args.inputs.now) (ty_of c.args.output.now) (expr_of c.args.body.now) c.in-Err.refusal (c.in-Err.ensures.opens Γ l)

pub function_body-in_function-requires : goal.function_body-in_function-requires
function_body-in_function-requires t c =
    let e = sym c.as_slice.ensures.value in
    let s = c.args.checker.now in (
      omega arith,
      (
        c.requires.steady,
        (
          subst (λ (ns : List Tree). Each (IsSound s.types (onto s.sorts [])) (each ty_of ns)) e c.requires.sound,
          (
            subst (λ (ns : List Tree). IsSmall (terms_more (length ns) (scope_of (context_of s)))) e c.requires.small,
            subst (λ (ns : List Tree). ExprMade (terms_more (length ns) (scope_of (context_of s))) (expr_of c.args.body.now)) e c.requires.body,
          ),
        ),
      ),
    )

pub function_body-returns-in-Ok-clause-found : goal.function_body-returns-in-Ok-clause-found
function_body-returns-in-Ok-clause-found t c = λ at ts r opens arrays array holds place.
    atom_ruled c.args.checker.now c.in_function.new.checker (Fn at ts r (expr_of c.args.body.now)) (λ Γ. Found (under_terms (ty_items ts) Γ) (expr_of c.args.body.now) (ty_of c.in-Ok.found))
    (c.in-Ok.ensures (ty_items ts) (subst (λ (ns : List Tree). EachTwo Same (ty_items ts) (each ty_of ns)) (sym c.as_slice.ensures.value) (opened_same c.args.checker.now ts r c.args.types opens)))
    c.close_function.result
    (λ Γ ns l p. c.close_function.ensures.concludes Γ at ts r (expr_of c.args.body.now) ns (opens Γ l) arrays array holds place p)

pub function_body-returns-in-Err-clause-found : goal.function_body-returns-in-Err-clause-found
function_body-returns-in-Err-clause-found t c = λ at ts r opens arrays array holds place.
    inner_refused c.args.checker.now ts r c.args.types opens at (expr_of c.args.body.now) c.in-Err.refusal c.in_function.new.checker
    (subst (λ (ns : List Tree). InFunctionAnswers (each ty_of ns) (expr_of c.args.body.now) c.args.checker.now c.in_function.new.checker (Err c.in-Err.refusal)) c.as_slice.ensures.value c.in-Err.ensures)

pub in_function-enter_terms-requires : goal.in_function-enter_terms-requires
in_function-enter_terms-requires t c = (room_of c.args.checker.now c.requires.steady).sorts_few

pub in_function-expression-requires : goal.in_function-expression-requires
in_function-expression-requires t c =
    let s = c.args.checker.now in
    let e = sym c.in_ok-enter_terms.ensures.entered in (
      omega arith,
      (
        subst IsSteady e (fn_steady_inside s c.args.inputs.now c.requires.steady c.requires.small c.requires.sound),
        subst (λ (z : State). ExprMade (scope_of (context_of z)) (expr_of c.args.body.now)) e (fn_made_inside s c.args.inputs.now c.requires.steady c.requires.small (expr_of c.args.body.now) c.requires.body),
      ),
    )

pub in_function-returns-in-Ok : goal.in_function-returns-in-Ok
in_function-returns-in-Ok t c =
    in_function_found c.args.checker.now c.args.inputs.now c.requires.steady c.requires.small c.enter_terms.new.checker c.in_ok-enter_terms.ensures.entered
    (expr_of c.args.body.now) c.in-Ok.found (length c.args.inputs.now) c.expression.new.checker c.leave_terms.new.self refl c.in-Ok.ensures c.leave_terms.ensures

pub in_function-returns-in-Err : goal.in_function-returns-in-Err
in_function-returns-in-Err t c =
    in_function_refused c.args.checker.now c.args.inputs.now c.requires.steady c.requires.small c.enter_terms.new.checker c.in_ok-enter_terms.ensures.entered
    (expr_of c.args.body.now) c.in-Err.refusal c.expression.new.checker c.expression.new.checker c.in-Err.ensures
