use Rattle.std.proofs.Common.{◌+◌, ◌*◌}
use Rattle.array_values.specs.Data.{atom_data}
use Rattle.core_syntax.specs.Data.{atom_of_cell}
use Rattle.core_syntax.specs.RefineTerms.{cell_of}
use Rattle.core_syntax.specs.Typed.{typed_rules}
use Rattle.typed_start.proofs.ValueArrays.{Matched}
use Rattle.typed_step.proofs.valued.+array_of.Given as goal

abbrev pub decreases-array_of : goal.decreases-array_of
decreases-array_of l = 4 * l.room + 3

abbrev pub decreases-atoms_of : goal.decreases-atoms_of
decreases-atoms_of l = 4 * l.room + 2

abbrev pub decreases-atom_of : goal.decreases-atom_of
decreases-atom_of l = 4 * l.room + 1

abbrev pub decreases-box_of : goal.decreases-box_of
decreases-box_of l = 4 * l.room

abbrev pub invariant-atoms_of-loop-atom : goal.invariant-atoms_of-loop-atom
invariant-atoms_of-loop-atom l = Matched atom_data (λ a. atom_of_cell typed_rules (cell_of a)) l.values.items l.atoms l.atom-index
