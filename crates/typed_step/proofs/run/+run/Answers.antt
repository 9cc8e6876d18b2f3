use Rattle.std.proofs.Common.{◌∙◌, subst, ℕ, ◌<◌, ◌≤◌, arith, List, length}
use Rattle.core_syntax.specs.declared.term.TermExpr.{TermExpr, Array, Frame, App, TypeApp, IndexApp, Unbox}
use Rattle.core_syntax.specs.declared.term.TermAtom.{Boxed}
use Rattle.core_syntax.specs.declared.term.TermAtom.TheViews.{out-TermExpr, out-TermAtom}
use Rattle.core_syntax.specs.declared.term.TermAtom.TheBlock.{shown-the_row-TermExpr-0}
use Rattle.core_syntax.specs.declared.index.Index.{Index}
use Rattle.core_syntax.specs.Lists.{each}
use Rattle.core_syntax.specs.Refine.{index_of}
use Rattle.core_syntax.specs.RefineTerms.{term_of, terms_of, cell_of, cells_of}
use Rattle.term_values.specs.Rooms.{FirstHasRoom}
use Rattle.typed_step.specs.Runs.{TermRun, FrameRun, BoxRun, CellRun, CellsRun, PartsRun, ApplicationRun}
use Rattle.typed_step.proofs.Ways.{stops, stopped_at, fired_at, fired_less, ended_at}
use Rattle.typed_step.proofs.TermWays as terms
use Rattle.typed_step.proofs.CellWays as cells
use Rattle.typed_step.proofs.PartWays.{function_stops, arguments_run, content_stops, box_fits, box_too_large}
use Rattle.typed_step.proofs.TreeRuns.{array_parts, frame_parts, app_parts, type_app_parts, index_app_parts, unbox_parts, box_parts, no_first, first_stops, first_too_large, others_run}
use Rattle.typed_step.proofs.run.+run.Goals as goal

pub run-returns-in_default : goal.run-returns-in_default
run-returns-in_default t c =
    stopped_at (each term_of c.args.defs.now) c.args.budget.now c.loop-end.budget c.run_parts.new.budget (term_of c.args.term.now) (term_of c.loop-end.term) (term_of c.run_parts.new.term) c.in_ok-end.end
    c.loop-end.invariant c.in_ok-end.ensures c.in_default.not-Value

pub run-returns-in-Some : goal.run-returns-in-Some
run-returns-in-Some t c =
    ended_at (each term_of c.args.defs.now) c.args.budget.now c.loop-end.budget c.run_parts.new.budget c.fire.new.budget (term_of c.args.term.now) (term_of c.loop-end.term) (term_of c.run_parts.new.term) (term_of c.fire.new.term)
    c.in_ok-end.end c.in_ok-end-2.field-0 c.in-Some.end c.loop-end.invariant c.in_ok-end.ensures c.in-Value.is c.in_ok-end-2.ensures c.in-Some.is

pub run-loop-end-smaller : goal.run-loop-end-smaller
run-loop-end-smaller t c =
    fired_less (each term_of c.args.defs.now) c.loop-end.budget c.run_parts.new.budget c.fire.new.budget (term_of c.loop-end.term) (term_of c.run_parts.new.term) (term_of c.fire.new.term)
    c.in_ok-end.end c.in_ok-end-2.field-0 c.in_ok-end.ensures c.in-Value.is c.in_ok-end-2.ensures c.in_default-2.is

pub run-loop-end-preserved : goal.run-loop-end-preserved
run-loop-end-preserved t c =
    fired_at (each term_of c.args.defs.now) c.args.budget.now c.loop-end.budget c.run_parts.new.budget c.fire.new.budget (term_of c.args.term.now) (term_of c.loop-end.term) (term_of c.run_parts.new.term) (term_of c.fire.new.term)
    c.in_ok-end.end c.in_ok-end-2.field-0 c.loop-end.invariant c.in_ok-end.ensures c.in-Value.is c.in_ok-end-2.ensures c.in_default-2.is

pub run_terms-returns-in_default : goal.run_terms-returns-in_default
run_terms-returns-in_default t c =
    let lt : c.loop-place.place < length c.loop-place.terms = omega (arith, c.loop-place-test.true, c.len-place-end.ensures, c.loop-place.invariant.0) in
    terms.one_stops (each term_of c.args.defs.now) c.args.budget.now c.loop-place.budget c.run.new.budget (terms_of c.args.terms.now) c.loop-place.terms c.loop-place.place c.at_mut.result.now c.run.new.term c.in_ok-end.end
    c.loop-place.invariant.1 c.loop-place.invariant.2 lt c.at_mut.ensures.value c.in_default.not-Value c.in_ok-end.ensures

pub run_terms-loop-place-preserved : goal.run_terms-loop-place-preserved
run_terms-loop-place-preserved t c =
    let lt : c.loop-place.place < length c.loop-place.terms = omega (arith, c.loop-place-test.true, c.len-place-end.ensures, c.loop-place.invariant.0) in
    let r = terms.one_rests (each term_of c.args.defs.now) c.args.budget.now c.loop-place.budget c.run.new.budget (terms_of c.args.terms.now) c.loop-place.terms c.loop-place.place c.at_mut.result.now c.run.new.term c.in_ok-end.end
    c.loop-place.invariant.1 c.loop-place.invariant.2 lt c.at_mut.ensures.value c.in_ok-end.ensures c.in-Value.is in
    (terms.set_length c.loop-place.terms c.loop-place.place c.run.new.term ∙ c.loop-place.invariant.0, r.0, r.1)

pub run_terms-returns : goal.run_terms-returns
run_terms-returns t c =
    let le : length c.loop-place.terms ≤ c.loop-place.place = omega (arith, c.loop-place-test.false, c.len-place-end.ensures, c.loop-place.invariant.0) in
    terms.all_done (each term_of c.args.defs.now) c.args.budget.now c.loop-place.budget (terms_of c.args.terms.now) c.loop-place.terms c.loop-place.place c.loop-place.invariant.1 c.loop-place.invariant.2 le

pub run_atoms-returns-in_default : goal.run_atoms-returns-in_default
run_atoms-returns-in_default t c =
    let lt : c.loop-place.place < length c.loop-place.atoms = omega (arith, c.loop-place-test.true, c.len-place-end.ensures, c.loop-place.invariant.0) in
    cells.one_stops (each term_of c.args.defs.now) c.args.budget.now c.loop-place.budget c.run_atom.new.budget (cells_of c.args.atoms.now) c.loop-place.atoms c.loop-place.place c.at_mut.result.now c.run_atom.new.atom c.in_ok-end.end
    c.loop-place.invariant.1 c.loop-place.invariant.2 lt c.at_mut.ensures.value c.in_default.not-Value c.in_ok-end.ensures

pub run_atoms-loop-place-preserved : goal.run_atoms-loop-place-preserved
run_atoms-loop-place-preserved t c =
    let lt : c.loop-place.place < length c.loop-place.atoms = omega (arith, c.loop-place-test.true, c.len-place-end.ensures, c.loop-place.invariant.0) in
    let r = cells.one_rests (each term_of c.args.defs.now) c.args.budget.now c.loop-place.budget c.run_atom.new.budget (cells_of c.args.atoms.now) c.loop-place.atoms c.loop-place.place c.at_mut.result.now c.run_atom.new.atom c.in_ok-end.end
    c.loop-place.invariant.1 c.loop-place.invariant.2 lt c.at_mut.ensures.value c.in_ok-end.ensures c.in-Value.is in
    (cells.set_length c.loop-place.atoms c.loop-place.place c.run_atom.new.atom ∙ c.loop-place.invariant.0, r.0, r.1)

pub run_atoms-returns : goal.run_atoms-returns
run_atoms-returns t c =
    let le : length c.loop-place.atoms ≤ c.loop-place.place = omega (arith, c.loop-place-test.false, c.len-place-end.ensures, c.loop-place.invariant.0) in
    cells.all_done (each term_of c.args.defs.now) c.args.budget.now c.loop-place.budget (cells_of c.args.atoms.now) c.loop-place.atoms c.loop-place.place c.loop-place.invariant.1 c.loop-place.invariant.2 le

pub run_cells-returns-then-len-eq0 : goal.run_cells-returns-then-len-eq0
run_cells-returns-then-len-eq0 t c = no_first (each term_of c.args.defs.now) c.args.dims.now c.args.budget.now c.args.cells.now (omega (arith, c.len.ensures, c.if-len-eq0.true))

pub run_cells-returns-in_default : goal.run_cells-returns-in_default
run_cells-returns-in_default t c =
    first_stops (each term_of c.args.defs.now) c.args.dims.now c.args.budget.now c.run.new.budget c.args.cells.now c.at_mut.result.now c.run.new.term c.in_ok-end.end
    (omega (arith, c.len.ensures, c.if-len-eq0.false)) c.at_mut.ensures.value c.in_ok-end.ensures c.in_default.not-Value

pub run_cells-returns-then-not-has_room : goal.run_cells-returns-then-not-has_room
run_cells-returns-then-not-has_room t c =
    first_too_large (each term_of c.args.defs.now) c.args.dims.now c.args.budget.now c.run.new.budget c.trap.new.budget c.args.cells.now c.at_mut.result.now c.run.new.term c.in_ok-end.end c.trap.result c.has_room.result
    (omega (arith, c.len.ensures, c.if-len-eq0.false)) c.at_mut.ensures.value c.in_ok-end.ensures c.in-Value.is
    (subst (λ xs. FirstHasRoom c.args.dims.now (terms_of xs) c.has_room.result) c.as_slice.ensures c.has_room.ensures) c.if-not-has_room.true c.trap.ensures

pub run_cells-returns : goal.run_cells-returns
run_cells-returns t c =
    others_run (each term_of c.args.defs.now) c.args.dims.now c.args.budget.now c.run.new.budget c.run_terms.new.budget c.args.cells.now c.run_terms.new.terms c.at_mut.result.now c.run.new.term c.in_ok-end.end c.in_ok-end-2.end c.has_room.result
    (omega (arith, c.len.ensures, c.if-len-eq0.false)) c.at_mut.ensures.value c.in_ok-end.ensures c.in-Value.is
    (subst (λ xs. FirstHasRoom c.args.dims.now (terms_of xs) c.has_room.result) c.as_slice.ensures c.has_room.ensures) c.if-not-has_room.false c.in_ok-end-2.ensures

pub run_application-returns-in_ok-end-in-Value : goal.run_application-returns-in_ok-end-in-Value
run_application-returns-in_ok-end-in-Value t c =
    let D = each term_of c.args.defs.now in
    let r : TermRun D c.args.budget.now (term_of c.args.function.now) c.in_ok-end.end c.run.new.budget (term_of c.run.new.term) =
    subst (λ x. TermRun D c.args.budget.now (term_of x) c.in_ok-end.end c.run.new.budget (term_of c.run.new.term)) c.get_mut.ensures.value c.in_ok-end.ensures in
    arguments_run D c.args.budget.now c.run_terms.new.budget c.in_ok-end-in-Value.end c.run.new.budget (term_of c.args.function.now) (term_of c.run.new.term) (terms_of c.args.args.now) (terms_of c.run_terms.new.terms)
    (subst (λ e. TermRun D c.args.budget.now (term_of c.args.function.now) e c.run.new.budget (term_of c.run.new.term)) c.in-Value.is r) c.in_ok-end-in-Value.ensures

pub run_application-returns-in_default : goal.run_application-returns-in_default
run_application-returns-in_default t c =
    let D = each term_of c.args.defs.now in
    function_stops D c.args.budget.now c.run.new.budget c.in_ok-end.end (term_of c.args.function.now) (term_of c.run.new.term) (terms_of c.args.args.now) (stops c.in_ok-end.end c.in_default.not-Value)
    (subst (λ x. TermRun D c.args.budget.now (term_of x) c.in_ok-end.end c.run.new.budget (term_of c.run.new.term)) c.get_mut.ensures.value c.in_ok-end.ensures)

pub run_atom-returns-in_ok-end-in-Boxed : goal.run_atom-returns-in_ok-end-in-Boxed
unfolding out-TermAtom denote.Hole.Carrier.out shown-the_row-TermExpr-0 denote.Hole.Carrier.shown denote.Hole.Carrier.hidden
run_atom-returns-in_ok-end-in-Boxed t c =
    let D = each term_of c.args.defs.now in
    let x : CellRun D c.args.budget.now (cell_of (Boxed c.in-Boxed.indices c.in-Boxed.content c.in-Boxed.field-2)) c.in_ok-end-in-Boxed.end c.run_box.new.budget (cell_of (Boxed c.in-Boxed.indices c.run_box.new.content c.in-Boxed.field-2)) =
    box_parts D c.args.budget.now c.run_box.new.budget c.in_ok-end-in-Boxed.end c.in-Boxed.indices c.in-Boxed.content c.run_box.new.content c.in-Boxed.field-2
    (subst (λ (p : List Index × TermExpr). BoxRun D (each index_of p.0) c.args.budget.now (term_of p.1) c.in_ok-end-in-Boxed.end c.run_box.new.budget (term_of c.run_box.new.content))
    (λ i. ((c.as_slice.ensures ∙ c.in-Boxed.indices-is) i, c.in-Boxed.content-is i)) c.in_ok-end-in-Boxed.ensures) in
    rw c.in-Boxed.is x

pub run_parts-returns-in_ok-end-in-Array : goal.run_parts-returns-in_ok-end-in-Array
unfolding out-TermExpr denote.Hole.Carrier.out
run_parts-returns-in_ok-end-in-Array t c =
    let D = each term_of c.args.defs.now in
    let x : PartsRun D c.args.budget.now (term_of (Array c.in-Array.field-0 c.in-Array.atoms)) c.in_ok-end-in-Array.end c.run_atoms.new.budget (term_of (Array c.in-Array.field-0 c.run_atoms.new.atoms)) =
    array_parts D c.args.budget.now c.run_atoms.new.budget c.in_ok-end-in-Array.end c.in-Array.field-0 c.in-Array.atoms c.run_atoms.new.atoms
    (subst (λ xs. CellsRun D c.args.budget.now (cells_of xs) c.in_ok-end-in-Array.end c.run_atoms.new.budget (cells_of c.run_atoms.new.atoms)) c.in-Array.atoms-is c.in_ok-end-in-Array.ensures) in
    rw c.in-Array.is x

pub run_parts-returns-in_ok-end-in-Frame : goal.run_parts-returns-in_ok-end-in-Frame
unfolding out-TermExpr denote.Hole.Carrier.out
run_parts-returns-in_ok-end-in-Frame t c =
    let D = each term_of c.args.defs.now in
    let x : PartsRun D c.args.budget.now (term_of (Frame c.in-Frame.dims c.in-Frame.cells c.in-Frame.field-2)) c.in_ok-end-in-Frame.end c.run_cells.new.budget (term_of (Frame c.in-Frame.dims c.run_cells.new.cells c.in-Frame.field-2)) =
    frame_parts D c.args.budget.now c.run_cells.new.budget c.in_ok-end-in-Frame.end c.in-Frame.dims c.in-Frame.cells c.run_cells.new.cells c.in-Frame.field-2
    (subst (λ (p : List ℕ × List TermExpr). FrameRun D p.0 c.args.budget.now (terms_of p.1) c.in_ok-end-in-Frame.end c.run_cells.new.budget (terms_of c.run_cells.new.cells))
    (λ i. ((c.as_slice.ensures ∙ c.in-Frame.dims-is) i, c.in-Frame.cells-is i)) c.in_ok-end-in-Frame.ensures) in
    rw c.in-Frame.is x

pub run_parts-returns-in_ok-end-in-App : goal.run_parts-returns-in_ok-end-in-App
unfolding out-TermExpr denote.Hole.Carrier.out shown-the_row-TermExpr-0 denote.Hole.Carrier.shown denote.Hole.Carrier.hidden
run_parts-returns-in_ok-end-in-App t c =
    let D = each term_of c.args.defs.now in
    let x : PartsRun D c.args.budget.now (term_of (App c.in-App.function c.in-App.args c.in-App.field-2 c.in-App.field-3)) c.in_ok-end-in-App.end c.run_application.new.budget (term_of (App c.run_application.new.function c.run_application.new.args c.in-App.field-2 c.in-App.field-3)) =
    app_parts D c.args.budget.now c.run_application.new.budget c.in_ok-end-in-App.end c.in-App.function c.run_application.new.function c.in-App.args c.run_application.new.args c.in-App.field-2 c.in-App.field-3
    (subst (λ (p : TermExpr × List TermExpr). ApplicationRun D c.args.budget.now (term_of p.0) (terms_of p.1) c.in_ok-end-in-App.end c.run_application.new.budget (term_of c.run_application.new.function) (terms_of c.run_application.new.args))
    (λ i. (c.in-App.function-is i, c.in-App.args-is i)) c.in_ok-end-in-App.ensures) in
    rw c.in-App.is x

pub run_parts-returns-in_ok-end-in-TypeApp : goal.run_parts-returns-in_ok-end-in-TypeApp
unfolding out-TermExpr denote.Hole.Carrier.out
run_parts-returns-in_ok-end-in-TypeApp t c =
    let D = each term_of c.args.defs.now in
    let x : PartsRun D c.args.budget.now (term_of (TypeApp c.in-TypeApp.function c.in-TypeApp.field-1 c.in-TypeApp.field-2)) c.in_ok-end-in-TypeApp.end c.run.new.budget (term_of (TypeApp c.run.new.term c.in-TypeApp.field-1 c.in-TypeApp.field-2)) =
    type_app_parts D c.args.budget.now c.run.new.budget c.in_ok-end-in-TypeApp.end c.in-TypeApp.function c.run.new.term c.in-TypeApp.field-1 c.in-TypeApp.field-2
    (subst (λ y. TermRun D c.args.budget.now (term_of y) c.in_ok-end-in-TypeApp.end c.run.new.budget (term_of c.run.new.term)) (c.get_mut.ensures.value ∙ c.in-TypeApp.function-is) c.in_ok-end-in-TypeApp.ensures) in
    rw c.in-TypeApp.is x

pub run_parts-returns-in_ok-end-in-IndexApp : goal.run_parts-returns-in_ok-end-in-IndexApp
unfolding out-TermExpr denote.Hole.Carrier.out
run_parts-returns-in_ok-end-in-IndexApp t c =
    let D = each term_of c.args.defs.now in
    let x : PartsRun D c.args.budget.now (term_of (IndexApp c.in-IndexApp.function c.in-IndexApp.field-1 c.in-IndexApp.field-2)) c.in_ok-end-in-IndexApp.end c.run-in-IndexApp.new.budget (term_of (IndexApp c.run-in-IndexApp.new.term c.in-IndexApp.field-1 c.in-IndexApp.field-2)) =
    index_app_parts D c.args.budget.now c.run-in-IndexApp.new.budget c.in_ok-end-in-IndexApp.end c.in-IndexApp.function c.run-in-IndexApp.new.term c.in-IndexApp.field-1 c.in-IndexApp.field-2
    (subst (λ y. TermRun D c.args.budget.now (term_of y) c.in_ok-end-in-IndexApp.end c.run-in-IndexApp.new.budget (term_of c.run-in-IndexApp.new.term)) (c.get_mut-in-IndexApp.ensures.value ∙ c.in-IndexApp.function-is) c.in_ok-end-in-IndexApp.ensures) in
    rw c.in-IndexApp.is x

pub run_parts-returns-in_ok-end-in-Unbox : goal.run_parts-returns-in_ok-end-in-Unbox
unfolding out-TermExpr denote.Hole.Carrier.out shown-the_row-TermExpr-0 denote.Hole.Carrier.shown denote.Hole.Carrier.hidden
run_parts-returns-in_ok-end-in-Unbox t c =
    let D = each term_of c.args.defs.now in
    let x : PartsRun D c.args.budget.now (term_of (Unbox c.in-Unbox.field-0 c.in-Unbox.boxed c.in-Unbox.field-2 c.in-Unbox.field-3)) c.in_ok-end-in-Unbox.end c.run-in-Unbox.new.budget (term_of (Unbox c.in-Unbox.field-0 c.run-in-Unbox.new.term c.in-Unbox.field-2 c.in-Unbox.field-3)) =
    unbox_parts D c.args.budget.now c.run-in-Unbox.new.budget c.in_ok-end-in-Unbox.end c.in-Unbox.field-0 c.in-Unbox.boxed c.run-in-Unbox.new.term c.in-Unbox.field-2 c.in-Unbox.field-3
    (subst (λ y. TermRun D c.args.budget.now (term_of y) c.in_ok-end-in-Unbox.end c.run-in-Unbox.new.budget (term_of c.run-in-Unbox.new.term)) (c.get_mut-in-Unbox.ensures.value ∙ c.in-Unbox.boxed-is) c.in_ok-end-in-Unbox.ensures) in
    rw c.in-Unbox.is x

pub run_box-returns-in_default : goal.run_box-returns-in_default
run_box-returns-in_default t c =
    let D = each term_of c.args.defs.now in
    content_stops D c.args.budget.now c.run.new.budget c.in_ok-end.end (each index_of c.args.indices.now) (term_of c.args.content.now) (term_of c.run.new.term) (stops c.in_ok-end.end c.in_default.not-Value)
    (subst (λ x. TermRun D c.args.budget.now (term_of x) c.in_ok-end.end c.run.new.budget (term_of c.run.new.term)) c.get_mut.ensures.value c.in_ok-end.ensures)

pub run_box-returns-then-branch : goal.run_box-returns-then-branch
run_box-returns-then-branch t c =
    let D = each term_of c.args.defs.now in
    box_fits D c.args.budget.now c.run.new.budget (each index_of c.args.indices.now) (term_of c.args.content.now) (term_of c.run.new.term) c.in_ok-end.end c.in_ok-all_fit.field-0
    (subst (λ x. TermRun D c.args.budget.now (term_of x) c.in_ok-end.end c.run.new.budget (term_of c.run.new.term)) c.get_mut.ensures.value c.in_ok-end.ensures)
    c.in-Value.is c.in_ok-all_fit.ensures c.if-branch.true

pub run_box-returns : goal.run_box-returns
run_box-returns t c =
    let D = each term_of c.args.defs.now in
    box_too_large D c.args.budget.now c.run.new.budget (each index_of c.args.indices.now) (term_of c.args.content.now) (term_of c.run.new.term) c.in_ok-end.end c.in_ok-all_fit.field-0
    (subst (λ x. TermRun D c.args.budget.now (term_of x) c.in_ok-end.end c.run.new.budget (term_of c.run.new.term)) c.get_mut.ensures.value c.in_ok-end.ensures)
    c.in-Value.is c.in_ok-all_fit.ensures c.trap.new.budget c.trap.result c.if-branch.false c.trap.ensures
