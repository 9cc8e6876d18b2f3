-- One part more of a list is lowered, and those behind it are left.
use Rattle.std.proofs.Common.{◌≡◌, ◌∙◌, sym, ap, ℕ, ◌+◌, ◌<◌, List, length, drop, get_or}
use Rattle.std.proofs.lemmas.List.{at_drop_more}
use Rattle.core_syntax.specs.Terms.{more_terms, more_cells}
use Rattle.erasure.specs.declared.term.ErExpr.{ErExpr}
use Rattle.erasure.specs.declared.term.ErAtom.{ErAtom}
use Rattle.lowering.specs.Outputs.{Output, with_term, with_terms, with_cell, with_cells}
use Rattle.erasure.specs.Refine.{erased_of, erased_terms_of, erased_cell_of, erased_cells_of}
use Rattle.lowering.proofs.trees.Outputs.{more_terms_out, more_cells_out}

pub terms_left : (ts : List ErExpr) (k : ℕ) (t : ErExpr) (start o o' : Output) → k < length ts → t ≡ get_or ts k t → start ≡ with_terms (erased_terms_of (drop k ts)) o → o' ≡ with_term (erased_of t) o
    → start ≡ with_terms (erased_terms_of (drop (k + 1) ts)) o'
terms_left ts k t start o o' lt is so next =
    so ∙ at_drop_more (λ xs. with_terms (erased_terms_of xs) o) ts k t lt ∙ ap (λ u. with_terms (more_terms (erased_of u) (erased_terms_of (drop (k + 1) ts))) o) (sym is)
    ∙ more_terms_out (erased_of t) (erased_terms_of (drop (k + 1) ts)) o ∙ ap (with_terms (erased_terms_of (drop (k + 1) ts))) (sym next)

pub cells_left : (xs : List ErAtom) (k : ℕ) (a : ErAtom) (start o o' : Output) → k < length xs → a ≡ get_or xs k a → start ≡ with_cells (erased_cells_of (drop k xs)) o → o' ≡ with_cell (erased_cell_of a) o
    → start ≡ with_cells (erased_cells_of (drop (k + 1) xs)) o'
cells_left xs k a start o o' lt is so next =
    so ∙ at_drop_more (λ ys. with_cells (erased_cells_of ys) o) xs k a lt ∙ ap (λ u. with_cells (more_cells (erased_cell_of u) (erased_cells_of (drop (k + 1) xs))) o) (sym is)
    ∙ more_cells_out (erased_cell_of a) (erased_cells_of (drop (k + 1) xs)) o ∙ ap (with_cells (erased_cells_of (drop (k + 1) xs))) (sym next)
