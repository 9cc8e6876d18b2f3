use Rattle.std.proofs.Common.{◌≡◌, take}
use Rattle.core_syntax.specs.Annotate.{annotated_all, annotated_atoms}
use Rattle.core_syntax.specs.Refine.{exprs_of, atoms_of}
use Rattle.core_syntax.specs.RefineTerms.{terms_of, cells_of}
use Rattle.reduction_laws.specs.Readings.{notes_from}
use Rattle.typed_start.proofs.starting.+annotated.Given as goal

abbrev pub invariant-annotated_all-loop-expr : goal.invariant-annotated_all-loop-expr
invariant-annotated_all-loop-expr l = annotated_all (exprs_of (take l.expr-index l.exprs)) (notes_from l.fn.at l.notes) ≡ (terms_of l.terms.items, notes_from l.at l.notes)

abbrev pub invariant-annotated_atoms-loop-atom : goal.invariant-annotated_atoms-loop-atom
invariant-annotated_atoms-loop-atom l = annotated_atoms (atoms_of (take l.atom-index l.atoms)) (notes_from l.fn.at l.notes) ≡ (cells_of l.made.items, notes_from l.at l.notes)
