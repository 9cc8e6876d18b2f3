use Rattle.std.proofs.Common.{◌≡◌, ◌-◌, ◌*◌, [], drop}
use Rattle.core_syntax.specs.Arrays.{runs}
use Rattle.core_syntax.specs.Lists.{joined, onto, product}
use Rattle.typed_prims.proofs.arrays.reversed.Given as goal

abbrev pub invariant-loop-done : goal.invariant-loop-done
invariant-loop-done l = l.all.items ≡ joined (onto (runs l.done (product l.cell) (drop ((l.count - l.done) * product l.cell) l.atoms)) [])
