use Rattle.std.proofs.Common.{◌≡◌, ap, ◌++◌, ◌∷◌, [], rules}
use Rattle.std.proofs.lemmas.Result.{IfOk-weaker}
use Rattle.std.specs.Option.{option_copied}
use Rattle.core_syntax.specs.Annotate.{annotated_atom}
use Rattle.core_syntax.specs.Refine.{atom_form_of}
use Rattle.reduction_laws.specs.Readings.{note_read, notes_from}
use Rattle.typed_start.proofs.ReadRows.{reads, read_var, read_def, read_array, read_no_atoms, read_frame, read_no_cells, read_app, read_type_app, read_index_app, read_unbox, read_fn, read_type_fn, read_index_fn, read_boxed, terms_read, atoms_read}
use Rattle.typed_start.proofs.starting.+annotated.Goals as goal

pub annotated-returns-in-Var : goal.annotated-returns-in-Var
annotated-returns-in-Var t c =
    let ns = notes_from c.args.at.now c.args.notes.now in
    let ms = notes_from c.next_note-note.new.at c.args.notes.now in
    read_var c.args.expr.now ns ms c.next_note-note.ensures.place _ c.in-Var.is

pub annotated-returns-in-Def : goal.annotated-returns-in-Def
annotated-returns-in-Def t c =
    let ns = notes_from c.args.at.now c.args.notes.now in
    let ms = notes_from c.next_note-note.new.at c.args.notes.now in
    read_def c.args.expr.now ns ms c.next_note-note.ensures.place _ c.in-Def.is

pub annotated-returns-in_ok-atoms-in-Array : goal.annotated-returns-in_ok-atoms-in-Array
annotated-returns-in_ok-atoms-in-Array t c =
    let ns = notes_from c.args.at.now c.args.notes.now in
    let ms = notes_from c.next_note-note.new.at c.args.notes.now in
    IfOk-weaker c.array_over.result _ _ (λ u e. reads _ _ _ _ (read_array c.args.expr.now ns ms c.next_note-note.ensures.place _ _ _ _ c.as_slice-in-Array.ensures c.as_slice.ensures c.in-Array.is _ _ c.in_ok-atoms-in-Array.ensures) e) c.array_over.ensures

pub annotated-returns-in-NoAtoms : goal.annotated-returns-in-NoAtoms
annotated-returns-in-NoAtoms t c =
    let ns = notes_from c.args.at.now c.args.notes.now in
    let ms = notes_from c.next_note-note.new.at c.args.notes.now in
    IfOk-weaker c.no_atoms.result _ _ (λ u e. reads _ _ _ _ (read_no_atoms c.args.expr.now ns ms c.next_note-note.ensures.place _ _ _ c.as_slice-in-NoAtoms.ensures c.in-NoAtoms.is) e) c.no_atoms.ensures

pub annotated-returns-in_ok-cells-in-Frame : goal.annotated-returns-in_ok-cells-in-Frame
annotated-returns-in_ok-cells-in-Frame t c =
    let ns = notes_from c.args.at.now c.args.notes.now in
    let ms = notes_from c.next_note-note.new.at c.args.notes.now in
    IfOk-weaker c.frame.result _ _ (λ u e. reads _ _ _ _ (read_frame c.args.expr.now ns ms c.next_note-note.ensures.place (note_read (option_copied c.next_note-note.result)) c.next_note-note.ensures.note _ _ _ _ c.as_slice-in-Frame-2.ensures c.as_slice-in-Frame.ensures c.in-Frame.is _ _ c.in_ok-cells-in-Frame.ensures) e) c.frame.ensures

pub annotated-returns-in-NoCells : goal.annotated-returns-in-NoCells
annotated-returns-in-NoCells t c =
    let ns = notes_from c.args.at.now c.args.notes.now in
    let ms = notes_from c.next_note-note.new.at c.args.notes.now in
    IfOk-weaker c.no_cells.result _ _ (λ u e. reads _ _ _ _ (read_no_cells c.args.expr.now ns ms c.next_note-note.ensures.place _ _ _ c.as_slice-in-NoCells.ensures c.in-NoCells.is) e) c.no_cells.ensures

pub annotated-returns-in_ok-args-in-App : goal.annotated-returns-in_ok-args-in-App
annotated-returns-in_ok-args-in-App t c =
    let ns = notes_from c.args.at.now c.args.notes.now in
    let ms = notes_from c.next_note-note.new.at c.args.notes.now in
    IfOk-weaker c.application.result _ _ (λ u e. reads _ _ _ _ (read_app c.args.expr.now ns ms c.next_note-note.ensures.place (note_read (option_copied c.next_note-note.result)) c.next_note-note.ensures.note _ _ _ _ c.get.ensures c.as_slice-in-App.ensures c.in-App.is _ _ _ _ c.in_ok-function-in-App.ensures c.in_ok-args-in-App.ensures) e) c.application.ensures

pub annotated-returns-in_ok-function-in-TypeApp : goal.annotated-returns-in_ok-function-in-TypeApp
annotated-returns-in_ok-function-in-TypeApp t c =
    let ns = notes_from c.args.at.now c.args.notes.now in
    let ms = notes_from c.next_note-note.new.at c.args.notes.now in
    IfOk-weaker c.type_application.result _ _ (λ u e. reads _ _ _ _ (read_type_app c.args.expr.now ns ms c.next_note-note.ensures.place (note_read (option_copied c.next_note-note.result)) c.next_note-note.ensures.note _ _ _ _ c.get-in-TypeApp.ensures c.as_slice-in-TypeApp.ensures c.in-TypeApp.is _ _ c.in_ok-function-in-TypeApp.ensures) e) c.type_application.ensures

pub annotated-returns-in_ok-function-in-IndexApp : goal.annotated-returns-in_ok-function-in-IndexApp
annotated-returns-in_ok-function-in-IndexApp t c =
    let ns = notes_from c.args.at.now c.args.notes.now in
    let ms = notes_from c.next_note-note.new.at c.args.notes.now in
    IfOk-weaker c.index_application.result _ _ (λ u e. reads _ _ _ _ (read_index_app c.args.expr.now ns ms c.next_note-note.ensures.place (note_read (option_copied c.next_note-note.result)) c.next_note-note.ensures.note _ _ _ _ c.get-in-IndexApp.ensures c.as_slice-in-IndexApp.ensures c.in-IndexApp.is _ _ c.in_ok-function-in-IndexApp.ensures) e) c.index_application.ensures

pub annotated-returns-in_ok-body-in-Unbox : goal.annotated-returns-in_ok-body-in-Unbox
annotated-returns-in_ok-body-in-Unbox t c =
    let ns = notes_from c.args.at.now c.args.notes.now in
    let ms = notes_from c.next_note-note.new.at c.args.notes.now in
    IfOk-weaker c.unboxing.result _ _ (λ u e. reads _ _ _ _ (read_unbox c.args.expr.now ns ms c.next_note-note.ensures.place (note_read (option_copied c.next_note-note.result)) c.next_note-note.ensures.note _ _ _ _ _ _ c.get-in-Unbox.ensures c.get-in-Unbox-2.ensures c.in-Unbox.is _ _ _ _ c.in_ok-boxed-in-Unbox.ensures c.in_ok-body-in-Unbox.ensures) e) c.unboxing.ensures

pub annotated_atom-returns-in_ok-body-in-Fn : goal.annotated_atom-returns-in_ok-body-in-Fn
annotated_atom-returns-in_ok-body-in-Fn t c =
    IfOk-weaker c.function.result _ _ (λ u e. reads _ _ _ _ (read_fn c.args.atom.now (notes_from c.args.at.now c.args.notes.now) _ _ _ _ _ _ _ c.as_slice.ensures c.get.ensures c.in-Fn.is c.in_ok-body-in-Fn.ensures) e) c.function.ensures

pub annotated_atom-returns-in_ok-body-in-TypeFn : goal.annotated_atom-returns-in_ok-body-in-TypeFn
annotated_atom-returns-in_ok-body-in-TypeFn t c =
    reads _ _ _ _ (read_type_fn c.args.atom.now (notes_from c.args.at.now c.args.notes.now) _ _ _ _ _ c.get-in-TypeFn.ensures c.in-TypeFn.is c.in_ok-body-in-TypeFn.ensures) c.type_function.ensures

pub annotated_atom-returns-in_ok-body-in-IndexFn : goal.annotated_atom-returns-in_ok-body-in-IndexFn
annotated_atom-returns-in_ok-body-in-IndexFn t c =
    IfOk-weaker c.index_function.result _ _ (λ u e. reads _ _ _ _ (read_index_fn c.args.atom.now (notes_from c.args.at.now c.args.notes.now) _ _ _ _ _ _ c.as_slice-in-IndexFn.ensures c.get-in-IndexFn.ensures c.in-IndexFn.is c.in_ok-body-in-IndexFn.ensures) e) c.index_function.ensures

pub annotated_atom-returns-in_ok-content-in-Boxed : goal.annotated_atom-returns-in_ok-content-in-Boxed
annotated_atom-returns-in_ok-content-in-Boxed t c =
    IfOk-weaker c.boxed.result _ _ (λ u e. reads _ _ _ _ (read_boxed c.args.atom.now (notes_from c.args.at.now c.args.notes.now) _ _ _ _ _ _ _ c.as_slice-in-Boxed.ensures c.get-in-Boxed.ensures c.in-Boxed.is c.in_ok-content-in-Boxed.ensures) e) c.boxed.ensures

pub annotated_atom-returns-in-Bool : goal.annotated_atom-returns-in-Bool
annotated_atom-returns-in-Bool t c = ap (λ f. annotated_atom (atom_form_of c.args.atom.now.at f) (notes_from c.args.at.now c.args.notes.now)) c.in-Bool.is

pub annotated_atom-returns-in-Char : goal.annotated_atom-returns-in-Char
annotated_atom-returns-in-Char t c = ap (λ f. annotated_atom (atom_form_of c.args.atom.now.at f) (notes_from c.args.at.now c.args.notes.now)) c.in-Char.is

pub annotated_atom-returns-in-Prim : goal.annotated_atom-returns-in-Prim
annotated_atom-returns-in-Prim t c = ap (λ f. annotated_atom (atom_form_of c.args.atom.now.at f) (notes_from c.args.at.now c.args.notes.now)) c.in-Prim.is

pub annotated_all-loop-expr-preserved : goal.annotated_all-loop-expr-preserved
annotated_all-loop-expr-preserved t c =
    let e : c.push.new.self.items ≡ c.loop-expr.terms.items ++ c.in_ok-term.term ∷ [] = search rules in
    terms_read c.args.exprs.now _ c.expr-item.result _ _ _ _ _ c.in_ok-term.term c.loop-expr-test.true c.expr-item.is e c.in_ok-term.ensures c.loop-expr.invariant

pub annotated_atoms-loop-atom-preserved : goal.annotated_atoms-loop-atom-preserved
annotated_atoms-loop-atom-preserved t c =
    let e : c.push.new.self.items ≡ c.loop-atom.made.items ++ c.in_ok-one.one ∷ [] = search rules in
    atoms_read c.args.atoms.now _ c.atom-item.result _ _ _ _ _ c.in_ok-one.one c.loop-atom-test.true c.atom-item.is e c.in_ok-one.ensures c.loop-atom.invariant
