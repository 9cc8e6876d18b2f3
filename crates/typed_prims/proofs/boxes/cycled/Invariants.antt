use Rattle.std.proofs.Common.{◌≡◌}
use Rattle.typed_prims.specs.Boxes.{cycled}
use Rattle.typed_prims.proofs.boxes.cycled.Given as goal

abbrev pub invariant-loop-place : goal.invariant-loop-place
invariant-loop-place l = l.all.items ≡ cycled l.atoms l.fill l.place
