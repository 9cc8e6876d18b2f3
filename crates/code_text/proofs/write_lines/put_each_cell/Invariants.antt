use Rattle.std.proofs.Common.{◌≡◌, ◌++◌, length}
use Rattle.code_text.specs.Spelling.{spaced}
use Rattle.code_text.specs.Text.{cell_text}
use Rattle.code_text.proofs.write_lines.put_each_cell.Given as goal

abbrev pub invariant-loop-left : goal.invariant-loop-left
invariant-loop-left l = l.out.items ++ spaced cell_text l.left ≡ l.initial.out.items ++ spaced cell_text l.shapes

abbrev pub decreases-loop-left : goal.decreases-loop-left
decreases-loop-left l = length l.left
