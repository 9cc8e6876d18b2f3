use Rattle.std.proofs.Common.{◌≡◌, ◌+◌, ◌*◌, take}
use Rattle.array_values.specs.Data.{atom_data}
use Rattle.core_syntax.specs.Data.{data_cell}
use Rattle.core_syntax.specs.Lists.{each}
use Rattle.core_syntax.specs.Refine.{ty_of}
use Rattle.core_syntax.specs.RefineTerms.{cell_of}
use Rattle.typed_start.proofs.inputs.+data.Given as goal

abbrev pub decreases-array : goal.decreases-array
decreases-array l = 7 * l.room + 6

abbrev pub decreases-elements : goal.decreases-elements
decreases-elements l = 7 * l.room + 5

abbrev pub decreases-atoms : goal.decreases-atoms
decreases-atoms l = 7 * l.room + 4

abbrev pub decreases-atom : goal.decreases-atom
decreases-atom l = 7 * l.room + 3

abbrev pub decreases-other : goal.decreases-other
decreases-other l = 7 * l.room + 2

abbrev pub decreases-boxed : goal.decreases-boxed
decreases-boxed l = 7 * l.room + 1

abbrev pub decreases-part : goal.decreases-part
decreases-part l = 7 * l.room

abbrev pub invariant-atoms-loop-place : goal.invariant-atoms-loop-place
invariant-atoms-loop-place l = each cell_of l.atoms.items ≡ each (λ v. data_cell (ty_of l.ty) (atom_data v)) (take l.place l.array.atoms)
