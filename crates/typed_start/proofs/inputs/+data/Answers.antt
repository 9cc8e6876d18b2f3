use Rattle.std.proofs.Common.{◌≡◌, sym, ap, ◌∙◌, subst, IfOk, ◌++◌, ◌∷◌, [], rules}
use Rattle.array_values.specs.Data.{atom_data, array_data}
use Rattle.array_values.specs.Lent.{value_of}
use Rattle.core_syntax.specs.Data.{data_cell}
use Rattle.core_syntax.specs.Refine.{ty_of}
use Rattle.core_syntax.specs.RefineTerms.{term_of, cell_of, cells_of}
use Rattle.core_syntax.specs.Terms.{TArray, TNoAtoms}
use Rattle.typed_start.proofs.DataTerms.{each_more, elements_only, boxed_term, box_of_data, array_filled, array_empty}
use Rattle.typed_start.proofs.inputs.+data.Goals as goal

pub array-returns-in-Arr : goal.array-returns-in-Arr
array-returns-in-Arr t c =
    subst (λ w. IfOk c.elements.result (λ u. term_of u ≡ w)) (elements_only c.args.ty.now c.in-Arr.element c.get.result.now c.in-Arr.field-1 (array_data c.args.array.now) c.get.ensures c.in-Arr.is) c.elements.ensures

pub elements-returns : goal.elements-returns
elements-returns t c =
    subst (λ w. IfOk c.array_over.result (λ u. term_of u ≡ w))
    (ap (λ dims. TArray dims (cells_of c.in_ok-atoms.atoms.items)) c.dims-2.ensures.dims
    ∙ array_filled (ty_of c.args.element.now) c.args.array.now.dims c.args.array.now.atoms c.in_ok-atoms.atoms.items (λ none. c.if-len-eq0.false (c.len.ensures.len ∙ none)) c.in_ok-atoms.ensures)
    c.array_over.ensures

pub elements-returns-then-len-eq0 : goal.elements-returns-then-len-eq0
elements-returns-then-len-eq0 t c =
    subst (λ w. IfOk c.no_atoms.result (λ u. term_of u ≡ w))
    (ap (λ dims. TNoAtoms dims (ty_of c.args.element.now)) c.dims.ensures.dims
    ∙ array_empty (ty_of c.args.element.now) c.args.array.now.dims c.args.array.now.atoms (sym c.len.ensures.len ∙ c.if-len-eq0.true))
    c.no_atoms.ensures

pub atoms-loop-place-preserved : goal.atoms-loop-place-preserved
atoms-loop-place-preserved t c =
    let e : c.push.new.self.items ≡ c.loop-place.atoms.items ++ c.in_ok-atom.atom ∷ [] = search rules in
    each_more cell_of (λ v. data_cell (ty_of c.args.ty.now) (atom_data v)) c.args.array.now.atoms c.loop-place.place (value_of c.atom_at.result) c.loop-place.atoms.items c.push.new.self.items c.in_ok-atom.atom
    c.atom_at.ensures.atom e c.in_ok-atom.ensures c.loop-place.invariant

pub other-returns-in-Boxed : goal.other-returns-in-Boxed
other-returns-in-Boxed t c =
    subst (λ w. IfOk c.boxed.result (λ a. cell_of a ≡ w)) (box_of_data (ty_of c.args.ty.now) c.args.value.now c.get.result.now c.in-Boxed.shared c.in-Boxed.is c.get.ensures) c.boxed.ensures

pub boxed-returns-in-Ok : goal.boxed-returns-in-Ok
boxed-returns-in-Ok t c =
    subst (λ w. IfOk c.boxed.result (λ a. cell_of a ≡ w))
    (boxed_term (ty_of c.args.ty.now) c.in_ok-indices.indices c.as_slice-in-Ok.result.now c.as_slice-2.result.now c.as_slice.result.now c.args.boxed.now.indices c.in_ok-content.content c.args.boxed.now.content (term_of c.in-Ok.content)
    c.as_slice-in-Ok.ensures c.as_slice-2.ensures c.as_slice.ensures c.in_ok-indices.ensures c.in_ok-content.ensures c.in-Ok.ensures)
    c.boxed.ensures
