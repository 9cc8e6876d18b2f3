use Rattle.std.proofs.Common.{◌≡◌, refl, sym, ap, ◌∙◌, ℕ, List, [], ◌∷◌}
use Rattle.core_syntax.specs.declared.term.TermExpr.{TermExpr, Array}
use Rattle.core_syntax.specs.declared.term.TermAtom.{TermAtom}
use Rattle.core_syntax.specs.Lists.{each}
use Rattle.core_syntax.specs.Rules.{atoms_of}
use Rattle.core_syntax.specs.RefineTerms.{term_of, cell_of, cells_of}
use Rattle.core_syntax.specs.Terms.{cell_items}
use Rattle.core_syntax.specs.Typed.{typed_rules}
use Rattle.core_syntax.proofs.RowsOfTerms.{of_array}
use Rattle.term_values.proofs.values.atoms.Goals as goal

items : (xs : List TermAtom) → cell_items (cells_of xs) ≡ each cell_of xs
items [] = refl
items (x ∷ xs) = ap (λ ys. cell_of x ∷ ys) (items xs)

atoms_are : (t : TermExpr) (dims : List ℕ) (xs ys : List TermAtom) → t ≡ Array dims xs → ys ≡ xs → each cell_of ys ≡ atoms_of typed_rules (term_of t)
atoms_are t dims xs ys h e = ap (each cell_of) e ∙ sym (ap (λ t. atoms_of typed_rules (term_of t)) h ∙ ap (atoms_of typed_rules) (of_array dims xs) ∙ items xs)

pub returns-in-Array : goal.returns-in-Array
returns-in-Array c = atoms_are c.args.term.now c.in-Array.field-0 c.in-Array.atoms c.as_slice.result.now c.in-Array.is c.as_slice.ensures
