use Rattle.std.proofs.Common.{◌≡◌}
use Rattle.core_syntax.specs.Lists.{each}
use Rattle.core_syntax.specs.RefineTerms.{cell_of}
use Rattle.typed_prims.specs.ArrayAnswers.{places}
use Rattle.typed_prims.proofs.arrays.numbers.Given as goal

abbrev pub invariant-loop-place : goal.invariant-loop-place
invariant-loop-place l = each cell_of l.atoms.items ≡ places l.place
