use Rattle.std.proofs.Common.{◌≡◌, ◌≤◌, take}
use Rattle.core_syntax.specs.Lists.{each}
use Rattle.core_syntax.specs.RefineTerms.{cell_of}
use Rattle.typed_prims.specs.Boxes.{count_marks}
use Rattle.typed_prims.proofs.boxes.kept_count.Given as goal

abbrev pub invariant-loop-place : goal.invariant-loop-place
invariant-loop-place l = (l.kept ≡ count_marks (take l.place (each cell_of l.marks))) × (l.kept ≤ l.place)
