-- Lists of trees as the lists of terms and atoms that they stand for.
use Rattle.std.proofs.Common.{◌≡◌, refl, ap, List, [], ◌∷◌}
use Rattle.core_syntax.specs.declared.term.TermAtom.{TermAtom}
use Rattle.core_syntax.specs.declared.term.TermExpr.{TermExpr}
use Rattle.core_syntax.specs.Lists.{each}
use Rattle.core_syntax.specs.RefineTerms.{term_of, cell_of, terms_of, cells_of}
use Rattle.core_syntax.specs.Terms.{more_terms, more_cells, term_list, cell_list}

pub terms_are : (ts : List TermExpr) → terms_of ts ≡ term_list (each term_of ts)
terms_are [] = refl
terms_are (t ∷ ts) = ap (λ us. more_terms (term_of t) us) (terms_are ts)

pub atoms_are : (xs : List TermAtom) → cells_of xs ≡ cell_list (each cell_of xs)
atoms_are [] = refl
atoms_are (x ∷ xs) = ap (λ ys. more_cells (cell_of x) ys) (atoms_are xs)
