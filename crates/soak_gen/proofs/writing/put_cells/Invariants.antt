use Rattle.std.proofs.Common.{◌≡◌, ◌++◌}
use Rattle.std.specs.Prelude.{map}
use Rattle.core_syntax.specs.Norm.{spaced}
use Rattle.soak_gen.specs.SoakText.{cell_text}
use Rattle.soak_gen.proofs.Numbers.{from}
use Rattle.soak_gen.proofs.writing.put_cells.Given as goal

abbrev pub invariant-loop-i : goal.invariant-loop-i
invariant-loop-i l = l.out.items ++ spaced (map cell_text (from l.i l.count)) ≡ l.initial.out.items ++ spaced (map cell_text (from 0 l.count))
