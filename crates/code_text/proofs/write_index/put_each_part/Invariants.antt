use Rattle.std.proofs.Common.{◌≡◌, ◌++◌, length}
use Rattle.code_text.specs.Spelling.{spaced}
use Rattle.code_text.specs.IndexText.{part_text}
use Rattle.code_text.specs.IndexReading.{scope_of}
use Rattle.code_text.proofs.write_index.put_each_part.Given as goal

abbrev pub invariant-loop-left : goal.invariant-loop-left
invariant-loop-left l = l.out.items ++ spaced (part_text (scope_of l.scope)) l.left ≡ l.initial.out.items ++ spaced (part_text (scope_of l.scope)) l.parts

abbrev pub decreases-loop-left : goal.decreases-loop-left
decreases-loop-left l = length l.left
