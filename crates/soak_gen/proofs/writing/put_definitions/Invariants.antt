use Rattle.std.proofs.Common.{◌≡◌, ◌++◌}
use Rattle.std.specs.Prelude.{flat_map}
use Rattle.soak_gen.specs.SoakText.{definition_text}
use Rattle.soak_gen.proofs.Numbers.{from}
use Rattle.soak_gen.proofs.writing.put_definitions.Given as goal

abbrev pub invariant-loop-i : goal.invariant-loop-i
invariant-loop-i l = l.out.items ++ flat_map definition_text (from l.i l.count) ≡ l.initial.out.items ++ flat_map definition_text (from 0 l.count)
