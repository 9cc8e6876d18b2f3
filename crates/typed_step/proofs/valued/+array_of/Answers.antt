use Rattle.std.proofs.Common.{◌≡◌, ◌∙◌, refl, sym, subst, arith, rules, ◌++◌, ◌∷◌, [], IfOk}
use Rattle.array_values.specs.Data.{atom_data}
use Rattle.core_syntax.specs.Data.{atom_of_cell, array_of_value}
use Rattle.core_syntax.specs.Lists.{each}
use Rattle.core_syntax.specs.Refine.{index_of}
use Rattle.core_syntax.specs.RefineTerms.{cell_of, term_of}
use Rattle.core_syntax.specs.Typed.{closed_value, typed_rules}
use Rattle.typed_start.proofs.ValueArrays.{SomeAtomFits, atoms_fit, dims_form, is_full, made_is, atom_fits, no_function, box_keeps, box_content, box_is, boxed_cell, matched_more, matched_through}
use Rattle.typed_step.proofs.valued.+array_of.Goals as goal

pub array_of-atoms_of-requires : goal.array_of-atoms_of-requires
array_of-atoms_of-requires t c =
    (omega arith, atoms_fit (term_of c.args.term.now) _ c.atoms.result.now refl c.atoms.ensures c.requires)

pub array_of-new-requires-clause-forms : goal.array_of-new-requires-clause-forms
array_of-new-requires-clause-forms t c = dims_form (term_of c.args.term.now) c.dims.result.now c.atoms.result.now c.dims.ensures c.atoms.ensures c.requires

pub array_of-new-requires-clause-full : goal.array_of-new-requires-clause-full
array_of-new-requires-clause-full t c =
    c.in_ok-atoms.atoms.ok.0 ∙ is_full (term_of c.args.term.now) c.dims.result.now c.atoms.result.now c.dims.ensures c.atoms.ensures c.in_ok-atoms.atoms.items c.in_ok-atoms.ensures c.requires

pub array_of-returns : goal.array_of-returns
array_of-returns t c = made_is (term_of c.args.term.now) c.dims.result.now c.atoms.result.now c.dims.ensures c.atoms.ensures c.new.result c.in_ok-atoms.atoms.items c.in_ok-atoms.ensures c.new.ensures

pub atoms_of-atom_of-requires : goal.atoms_of-atom_of-requires
atoms_of-atom_of-requires t c =
    (omega arith, atom_fits c.args.atoms.now c.loop-atom.atom-index c.atom-item.result c.loop-atom-test.true c.atom-item.is c.requires)

pub atoms_of-loop-atom-preserved : goal.atoms_of-loop-atom-preserved
atoms_of-loop-atom-preserved t c =
    let e : c.push.new.self.items ≡ c.loop-atom.values.items ++ c.in_ok-value.value ∷ [] = search rules in
    matched_more atom_data (λ a. atom_of_cell typed_rules (cell_of a)) c.loop-atom.values.items c.push.new.self.items c.args.atoms.now c.loop-atom.atom-index c.in_ok-value.value c.atom-item.result
    c.loop-atom-test.true c.atom-item.is e c.in_ok-value.ensures c.loop-atom.invariant

pub atoms_of-returns : goal.atoms_of-returns
atoms_of-returns t c =
    matched_through atom_data (atom_of_cell typed_rules) cell_of c.loop-atom.values.items c.args.atoms.now c.loop-atom.atom-index c.loop-atom-test.false c.loop-atom.invariant

pub atom_of-box_of-requires : goal.atom_of-box_of-requires
atom_of-box_of-requires t c =
    (omega arith, subst SomeAtomFits (boxed_cell c.args.atom.now c.in-Boxed.indices c.as_slice.result.now c.in-Boxed.content c.get.result.now c.in-Boxed.field-2 c.in-Boxed.is c.as_slice.ensures c.get.ensures) c.requires)

pub atom_of-unreachable-requires : goal.atom_of-unreachable-requires
atom_of-unreachable-requires t c = no_function c.args.atom.now c.requires c.in-Prim.is

pub atom_of-returns-in-Boxed : goal.atom_of-returns-in-Boxed
atom_of-returns-in-Boxed t c =
    subst (λ d. IfOk c.box_of.result (λ value. atom_data value ≡ d)) (sym (boxed_cell c.args.atom.now c.in-Boxed.indices c.as_slice.result.now c.in-Boxed.content c.get.result.now c.in-Boxed.field-2 c.in-Boxed.is c.as_slice.ensures c.get.ensures))
    c.box_of.ensures

pub box_of-indices_of-requires : goal.box_of-indices_of-requires
box_of-indices_of-requires t c = box_keeps (each closed_value (each index_of c.args.indices.now)) (array_of_value typed_rules (term_of c.args.content.now)) c.requires

pub box_of-array_of-requires : goal.box_of-array_of-requires
box_of-array_of-requires t c = (search rules, box_content (each closed_value (each index_of c.args.indices.now)) (array_of_value typed_rules (term_of c.args.content.now)) c.requires)

pub box_of-returns : goal.box_of-returns
box_of-returns t c =
    box_is _ (record { indices = c.in_ok-indices.indices; content = c.in_ok-content.content }) c.in_ok-boxed.boxed _ _ refl c.in_ok-boxed.ensures c.in_ok-indices.ensures c.in_ok-content.ensures
