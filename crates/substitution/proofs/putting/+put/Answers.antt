use Rattle.std.proofs.Common.{◌≡◌, ◌∙◌, refl, subst, IfOk, ◌++◌, ◌∷◌, [], rules}
use Rattle.core_syntax.specs.RefineTerms.{term_of, cell_of}
use Rattle.core_syntax.specs.TermPut.{term_put, terms_put, cell_put, cells_put}
use Rattle.core_syntax.specs.Typed.{typed_rules}
use Rattle.type_substitution.specs.Putting.{puts_at, terms_at}
use Rattle.type_substitution.proofs.Made.{terms_made, cells_made}
use Rattle.substitution.proofs.PutRows.{put_array, put_no_atoms, put_frame, put_no_cells, put_app, put_type_app, put_index_app, put_unbox, put_prim, put_fn, put_type_fn, put_index_fn, put_boxed}
use Rattle.substitution.proofs.putting.+put.Goals as goal

pub put_term-returns-in_ok-atoms-in-Array : goal.put_term-returns-in_ok-atoms-in-Array
put_term-returns-in_ok-atoms-in-Array t c =
    subst (λ w. IfOk c.array_over.result (λ r. term_of r ≡ w))
    (put_array c.args.under.indices c.args.under.types c.args.under.terms c.args.puts.indices.now c.args.puts.types.now c.args.puts.terms.now c.args.term.now _ _ _ _ c.as_slice-in-Array.ensures c.as_slice.ensures c.in-Array.is _ c.in_ok-atoms-in-Array.ensures)
    c.array_over.ensures

pub put_term-returns-in-NoAtoms : goal.put_term-returns-in-NoAtoms
put_term-returns-in-NoAtoms t c =
    subst (λ w. IfOk c.no_atoms.result (λ r. term_of r ≡ w))
    (put_no_atoms c.args.under.indices c.args.under.types c.args.under.terms c.args.puts.indices.now c.args.puts.types.now c.args.puts.terms.now c.args.term.now _ _ _ c.as_slice-in-NoAtoms.ensures c.in-NoAtoms.is)
    c.no_atoms.ensures

pub put_term-returns-in_ok-cells-in-Frame : goal.put_term-returns-in_ok-cells-in-Frame
put_term-returns-in_ok-cells-in-Frame t c =
    subst (λ w. IfOk c.frame.result (λ r. term_of r ≡ w))
    (put_frame c.args.under.indices c.args.under.types c.args.under.terms c.args.puts.indices.now c.args.puts.types.now c.args.puts.terms.now c.args.term.now _ _ _ _ _ c.as_slice-in-Frame-2.ensures c.as_slice-in-Frame.ensures c.in-Frame.is _ c.in_ok-cells-in-Frame.ensures)
    c.frame.ensures

pub put_term-returns-in-NoCells : goal.put_term-returns-in-NoCells
put_term-returns-in-NoCells t c =
    subst (λ w. IfOk c.no_cells.result (λ r. term_of r ≡ w))
    (put_no_cells c.args.under.indices c.args.under.types c.args.under.terms c.args.puts.indices.now c.args.puts.types.now c.args.puts.terms.now c.args.term.now _ _ _ c.as_slice-in-NoCells.ensures c.in-NoCells.is)
    c.no_cells.ensures

pub put_term-returns-in_ok-args-in-App : goal.put_term-returns-in_ok-args-in-App
put_term-returns-in_ok-args-in-App t c =
    subst (λ w. IfOk c.application.result (λ r. term_of r ≡ w))
    (put_app c.args.under.indices c.args.under.types c.args.under.terms c.args.puts.indices.now c.args.puts.types.now c.args.puts.terms.now c.args.term.now _ _ _ _ _ _ _ c.get.ensures c.as_slice-in-App.ensures c.as_slice-in-App-2.ensures c.in-App.is _ _ c.in_ok-function-in-App.ensures c.in_ok-args-in-App.ensures)
    c.application.ensures

pub put_term-returns-in_ok-function-in-TypeApp : goal.put_term-returns-in_ok-function-in-TypeApp
put_term-returns-in_ok-function-in-TypeApp t c =
    subst (λ w. IfOk c.type_application.result (λ r. term_of r ≡ w))
    (put_type_app c.args.under.indices c.args.under.types c.args.under.terms c.args.puts.indices.now c.args.puts.types.now c.args.puts.terms.now c.args.term.now _ _ _ _ _ c.get-in-TypeApp.ensures c.as_slice-in-TypeApp.ensures c.in-TypeApp.is _ c.in_ok-function-in-TypeApp.ensures)
    c.type_application.ensures

pub put_term-returns-in_ok-function-in-IndexApp : goal.put_term-returns-in_ok-function-in-IndexApp
put_term-returns-in_ok-function-in-IndexApp t c =
    subst (λ w. IfOk c.index_application.result (λ r. term_of r ≡ w))
    (put_index_app c.args.under.indices c.args.under.types c.args.under.terms c.args.puts.indices.now c.args.puts.types.now c.args.puts.terms.now c.args.term.now _ _ _ _ _ c.get-in-IndexApp.ensures c.as_slice-in-IndexApp.ensures c.in-IndexApp.is _ c.in_ok-function-in-IndexApp.ensures)
    c.index_application.ensures

pub put_term-returns-in_ok-body-in-Unbox : goal.put_term-returns-in_ok-body-in-Unbox
put_term-returns-in_ok-body-in-Unbox t c =
    subst (λ w. IfOk c.unboxing.result (λ r. term_of r ≡ w))
    (put_unbox c.args.under.indices c.args.under.types c.args.under.terms c.args.puts.indices.now c.args.puts.types.now c.args.puts.terms.now c.args.term.now _ _ _ _ _ _ _ c.as_slice-in-Unbox.ensures c.get-in-Unbox.ensures c.get-in-Unbox-2.ensures c.in-Unbox.is _ _ _ c.in_ok-binders-in-Unbox.ensures c.len.ensures c.in_ok-more-in-Unbox.ensures _ _ c.in_ok-boxed-in-Unbox.ensures c.in_ok-body-in-Unbox.ensures)
    c.unboxing.ensures

pub put_atom-returns-in-Prim : goal.put_atom-returns-in-Prim
put_atom-returns-in-Prim t c =
    subst (λ w. IfOk c.primitive.result (λ r. cell_of r ≡ w))
    (put_prim c.args.under.indices c.args.under.types c.args.under.terms c.args.puts.indices.now c.args.puts.types.now c.args.puts.terms.now c.args.atom.now _ _ _ c.in-Prim.is)
    c.primitive.ensures

pub put_atom-returns-in_ok-body-in-Fn : goal.put_atom-returns-in_ok-body-in-Fn
put_atom-returns-in_ok-body-in-Fn t c =
    subst (λ w. IfOk c.function.result (λ r. cell_of r ≡ w))
    (put_fn c.args.under.indices c.args.under.types c.args.under.terms c.args.puts.indices.now c.args.puts.types.now c.args.puts.terms.now c.args.atom.now _ _ _ _ _ c.as_slice.ensures c.get.ensures c.in-Fn.is _ _ c.in_ok-binders-in-Fn.ensures c.len.ensures _ c.in_ok-body-in-Fn.ensures)
    c.function.ensures

pub put_atom-returns-in_ok-body-in-TypeFn : goal.put_atom-returns-in_ok-body-in-TypeFn
put_atom-returns-in_ok-body-in-TypeFn t c =
    c.type_function.ensures
    ∙ put_type_fn c.args.under.indices c.args.under.types c.args.under.terms c.args.puts.indices.now c.args.puts.types.now c.args.puts.terms.now c.args.atom.now _ _ _ c.get-in-TypeFn.ensures c.in-TypeFn.is _ c.in_ok-more-in-TypeFn.ensures _ c.in_ok-body-in-TypeFn.ensures

pub put_atom-returns-in_ok-body-in-IndexFn : goal.put_atom-returns-in_ok-body-in-IndexFn
put_atom-returns-in_ok-body-in-IndexFn t c =
    subst (λ w. IfOk c.index_function.result (λ r. cell_of r ≡ w))
    (put_index_fn c.args.under.indices c.args.under.types c.args.under.terms c.args.puts.indices.now c.args.puts.types.now c.args.puts.terms.now c.args.atom.now _ _ _ _ c.as_slice-in-IndexFn.ensures c.get-in-IndexFn.ensures c.in-IndexFn.is _ _ c.in_ok-binders-in-IndexFn.ensures c.len-in-IndexFn.ensures _ c.in_ok-body-in-IndexFn.ensures)
    c.index_function.ensures

pub put_atom-returns-in_ok-content-in-Boxed : goal.put_atom-returns-in_ok-content-in-Boxed
put_atom-returns-in_ok-content-in-Boxed t c =
    subst (λ w. IfOk c.boxed.result (λ r. cell_of r ≡ w))
    (put_boxed c.args.under.indices c.args.under.types c.args.under.terms c.args.puts.indices.now c.args.puts.types.now c.args.puts.terms.now c.args.atom.now _ _ _ _ _ c.as_slice-in-Boxed.ensures c.get-in-Boxed.ensures c.in-Boxed.is _ c.in_ok-content-in-Boxed.ensures)
    c.boxed.ensures

pub put_terms-loop-term-preserved : goal.put_terms-loop-term-preserved
put_terms-loop-term-preserved t c =
    let σ = puts_at c.args.under.indices c.args.under.types c.args.puts.indices.now c.args.puts.types.now in
    let τ = terms_at c.args.under.terms c.args.puts.terms.now in
    let e : c.push.new.self.items ≡ c.loop-term.put.items ++ c.in_ok-one.one ∷ [] = search rules in
    terms_made (term_put typed_rules σ τ) (terms_put typed_rules σ τ) refl (λ u us. refl) c.args.terms.now _ _ _ c.term-item.result c.in_ok-one.one c.loop-term-test.true c.term-item.is e
    c.in_ok-one.ensures c.loop-term.invariant

pub put_atoms-loop-atom-preserved : goal.put_atoms-loop-atom-preserved
put_atoms-loop-atom-preserved t c =
    let σ = puts_at c.args.under.indices c.args.under.types c.args.puts.indices.now c.args.puts.types.now in
    let τ = terms_at c.args.under.terms c.args.puts.terms.now in
    let e : c.push.new.self.items ≡ c.loop-atom.put.items ++ c.in_ok-one.one ∷ [] = search rules in
    cells_made (cell_put typed_rules σ τ) (cells_put typed_rules σ τ) refl (λ u us. refl) c.args.atoms.now _ _ _ c.atom-item.result c.in_ok-one.one c.loop-atom-test.true c.atom-item.is e
    c.in_ok-one.ensures c.loop-atom.invariant
