use Rattle.std.proofs.Common.{◌≡◌, ◌+◌, ◌*◌, length}
use Rattle.core_syntax.specs.Lists.{each}
use Rattle.core_syntax.specs.RefineTerms.{term_of, terms_of, cells_of}
use Rattle.core_syntax.specs.Step.{step, terms_step, cells_step}
use Rattle.core_syntax.specs.Typed.{typed_rules}
use Rattle.typed_step.proofs.Ways.{SoFar}
use Rattle.typed_step.proofs.TermWays as terms
use Rattle.typed_step.proofs.CellWays as cells
use Rattle.typed_step.proofs.run.+run.Given as goal

abbrev pub decreases-run : goal.decreases-run
decreases-run l = 5 * l.room + 2

abbrev pub decreases-run_parts : goal.decreases-run_parts
decreases-run_parts l = 5 * l.room + 1

abbrev pub decreases-run_application : goal.decreases-run_application
decreases-run_application l = 5 * l.room + 4

abbrev pub decreases-run_terms : goal.decreases-run_terms
decreases-run_terms l = 5 * l.room + 3

abbrev pub decreases-run_cells : goal.decreases-run_cells
decreases-run_cells l = 5 * l.room + 4

abbrev pub decreases-run_atoms : goal.decreases-run_atoms
decreases-run_atoms l = 5 * l.room + 5

abbrev pub decreases-run_atom : goal.decreases-run_atom
decreases-run_atom l = 5 * l.room + 4

abbrev pub decreases-run_box : goal.decreases-run_box
decreases-run_box l = 5 * l.room + 3

abbrev pub invariant-run-loop-end : goal.invariant-run-loop-end
invariant-run-loop-end l = SoFar (step typed_rules (each term_of l.defs)) l.initial.budget (term_of l.initial.term) l.budget (term_of l.term)

abbrev pub decreases-run-loop-end : goal.decreases-run-loop-end
decreases-run-loop-end l = l.budget

abbrev pub invariant-run_terms-loop-place : goal.invariant-run_terms-loop-place
invariant-run_terms-loop-place l =
    (length l.terms ≡ length l.initial.terms) × SoFar (terms_step typed_rules (each term_of l.defs)) l.initial.budget (terms_of l.initial.terms) l.budget (terms_of l.terms)
    × terms.RestBefore (each term_of l.defs) l.place (terms_of l.terms)

abbrev pub invariant-run_atoms-loop-place : goal.invariant-run_atoms-loop-place
invariant-run_atoms-loop-place l =
    (length l.atoms ≡ length l.initial.atoms) × SoFar (cells_step typed_rules (each term_of l.defs)) l.initial.budget (cells_of l.initial.atoms) l.budget (cells_of l.atoms)
    × cells.RestBefore (each term_of l.defs) l.place (cells_of l.atoms)
