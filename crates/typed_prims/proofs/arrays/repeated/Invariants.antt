use Rattle.std.proofs.Common.{◌≡◌, replicate}
use Rattle.core_syntax.specs.Lists.{joined}
use Rattle.typed_prims.proofs.arrays.repeated.Given as goal

abbrev pub invariant-loop-done : goal.invariant-loop-done
invariant-loop-done l = l.all.items ≡ joined (replicate l._done l.atoms)
