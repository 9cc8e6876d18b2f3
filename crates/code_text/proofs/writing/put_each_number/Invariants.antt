use Rattle.std.proofs.Common.{◌≡◌, ◌++◌, length}
use Rattle.std.specs.Fmt.{decimal}
use Rattle.code_text.specs.Spelling.{spaced}
use Rattle.code_text.proofs.writing.put_each_number.Given as goal

abbrev pub invariant-loop-left : goal.invariant-loop-left
invariant-loop-left l = l.out.items ++ spaced decimal l.left ≡ l.initial.out.items ++ spaced decimal l.numbers

abbrev pub decreases-loop-left : goal.decreases-loop-left
decreases-loop-left l = length l.left
