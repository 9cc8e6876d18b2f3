use Rattle.std.proofs.Common.{◌≡◌, take}
use Rattle.core_syntax.specs.Lists.{each}
use Rattle.core_syntax.specs.RefineTerms.{cell_of}
use Rattle.typed_prims.specs.Boxes.{wanted}
use Rattle.typed_prims.proofs.boxes.asked_dims.Given as goal

abbrev pub invariant-loop-place : goal.invariant-loop-place
invariant-loop-place l = l.dims.items ≡ each wanted (each cell_of (take l.place l.atoms))
