use Rattle.std.proofs.Common.{◌+◌, ◌*◌, take}
use Rattle.core_syntax.specs.Made.{expr_nodes, exprs_nodes, atom_nodes, atoms_nodes}
use Rattle.core_syntax.specs.Refine.{ty_of, tys_of, expr_of, exprs_of, atom_of, atoms_of}
use Rattle.type_check.specs.Answers.{Finding}
use Rattle.type_check.specs.FoundParts.{FoundAtoms, FoundCells, FoundArgs}
use Rattle.type_check.proofs.expressions.+typing.Given as goal

abbrev pub decreases-expression : goal.decreases-expression
decreases-expression l = 8 * expr_nodes (expr_of l.e.now) + 1

abbrev pub decreases-node : goal.decreases-node
decreases-node l = 8 * expr_nodes (expr_of l.e.now)

abbrev pub decreases-literal : goal.decreases-literal
decreases-literal l = 8 * atoms_nodes (atoms_of l.atoms.now) + 7

abbrev pub decreases-application : goal.decreases-application
decreases-application l = 8 * (expr_nodes (expr_of l.function.now) + exprs_nodes (exprs_of l.args.now)) + 7

abbrev pub decreases-type_application : goal.decreases-type_application
decreases-type_application l = 8 * expr_nodes (expr_of l.function.now) + 7

abbrev pub decreases-index_application : goal.decreases-index_application
decreases-index_application l = 8 * expr_nodes (expr_of l.function.now) + 7

abbrev pub decreases-unboxing : goal.decreases-unboxing
decreases-unboxing l = 8 * (expr_nodes (expr_of l.content.now) + expr_nodes (expr_of l.body.now)) + 7

abbrev pub decreases-atom : goal.decreases-atom
decreases-atom l = 8 * atom_nodes (atom_of l.a.now)

abbrev pub decreases-type_function : goal.decreases-type_function
decreases-type_function l = 8 * expr_nodes (expr_of l.body.now) + 7

abbrev pub decreases-index_function : goal.decreases-index_function
decreases-index_function l = 8 * expr_nodes (expr_of l.body.now) + 7

abbrev pub decreases-literal_of : goal.decreases-literal_of
decreases-literal_of l = 8 * atoms_nodes (atoms_of l.later.now) + 6

abbrev pub decreases-later_atoms : goal.decreases-later_atoms
decreases-later_atoms l = 8 * atoms_nodes (atoms_of l.atoms.now) + 5

abbrev pub decreases-later_atom : goal.decreases-later_atom
decreases-later_atom l = 8 * atom_nodes (atom_of l.a.now) + 4

abbrev pub decreases-frame : goal.decreases-frame
decreases-frame l = 8 * exprs_nodes (exprs_of l.cells.now) + 7

abbrev pub decreases-frame_of : goal.decreases-frame_of
decreases-frame_of l = 8 * exprs_nodes (exprs_of l.later.now) + 6

abbrev pub decreases-later_cells : goal.decreases-later_cells
decreases-later_cells l = 8 * exprs_nodes (exprs_of l.cells.now) + 5

abbrev pub decreases-later_cell : goal.decreases-later_cell
decreases-later_cell l = 8 * expr_nodes (expr_of l.e.now) + 4

abbrev pub invariant-later_atoms-loop-a : goal.invariant-later_atoms-loop-a
invariant-later_atoms-loop-a l = Finding (λ Γ. FoundAtoms Γ (ty_of l.ty) (atoms_of (take l.a-index l.atoms))) l.initial.checker l.checker

abbrev pub invariant-later_cells-loop-e : goal.invariant-later_cells-loop-e
invariant-later_cells-loop-e l = Finding (λ Γ. FoundCells Γ (ty_of l.ty) (exprs_of (take l.e-index l.cells))) l.initial.checker l.checker

abbrev pub decreases-applied : goal.decreases-applied
decreases-applied l = 8 * exprs_nodes (exprs_of l.args.now) + 6

abbrev pub decreases-applied_parts : goal.decreases-applied_parts
decreases-applied_parts l = 8 * exprs_nodes (exprs_of l.args.now) + 5

abbrev pub decreases-arguments : goal.decreases-arguments
decreases-arguments l = 8 * exprs_nodes (exprs_of l.args.now) + 4

abbrev pub decreases-argument : goal.decreases-argument
decreases-argument l = 8 * expr_nodes (expr_of l.arg.now) + 3

abbrev pub invariant-arguments-loop-place : goal.invariant-arguments-loop-place
invariant-arguments-loop-place l = Finding (λ Γ. FoundArgs Γ (tys_of (take l.place l.inputs)) (exprs_of (take l.place l.args)) l.words.items) l.initial.checker l.checker

abbrev pub decreases-boxing : goal.decreases-boxing
decreases-boxing l = 8 * expr_nodes (expr_of l.content.now) + 7

abbrev pub decreases-boxed_content : goal.decreases-boxed_content
decreases-boxed_content l = 8 * expr_nodes (expr_of l.content.now) + 6

abbrev pub decreases-unboxed : goal.decreases-unboxed
decreases-unboxed l = 8 * expr_nodes (expr_of l.body.now) + 6

abbrev pub decreases-unboxed_body : goal.decreases-unboxed_body
decreases-unboxed_body l = 8 * expr_nodes (expr_of l.body.now) + 5

abbrev pub decreases-in_box : goal.decreases-in_box
decreases-in_box l = 8 * expr_nodes (expr_of l.body.now) + 4

abbrev pub decreases-term_function : goal.decreases-term_function
decreases-term_function l = 8 * expr_nodes (expr_of l.body.now) + 7

abbrev pub decreases-function_body : goal.decreases-function_body
decreases-function_body l = 8 * expr_nodes (expr_of l.body.now) + 6

abbrev pub decreases-in_function : goal.decreases-in_function
decreases-in_function l = 8 * expr_nodes (expr_of l.body.now) + 5
