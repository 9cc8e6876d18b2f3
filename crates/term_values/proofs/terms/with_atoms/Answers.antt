use Rattle.std.proofs.Common.{◌≡◌, ◌∙◌, ◌<◌, ap, arith, length, ℕ, List, [], ◌∷◌}
use Rattle.core_syntax.specs.declared.term.TermAtom.{TermAtom}
use Rattle.core_syntax.specs.Lists.{each}
use Rattle.core_syntax.specs.RefineTerms.{cell_of, cells_of}
use Rattle.core_syntax.specs.Rules.{array_term_of}
use Rattle.core_syntax.specs.Refine.{ty_of}
use Rattle.core_syntax.specs.Syntax.{Ty}
use Rattle.core_syntax.specs.Terms.{TArray, more_cells}
use Rattle.core_syntax.specs.Typed.{atom_type, typed_rules}
use Rattle.term_values.proofs.TermLists.{atoms_are}
use Rattle.term_values.proofs.terms.with_atoms.Goals as goal

-- an array with atoms
filled : (n : Ty) (dims : List ℕ) (xs : List TermAtom) → 0 < length xs → TArray dims (cells_of xs) ≡ array_term_of typed_rules n dims (each cell_of xs)
filled n dims [] h = absurd (omega (arith, h))
filled n dims (x ∷ xs) h = ap (λ cs. TArray dims (more_cells (cell_of x) cs)) (atoms_are xs)

pub returns : goal.returns
returns c =
    let h : 0 < length c.args.atoms.items = grind arith in
    c.array.ensures ∙ filled (atom_type (ty_of c.args.cell.now)) c.args.dims c.args.atoms.items h
