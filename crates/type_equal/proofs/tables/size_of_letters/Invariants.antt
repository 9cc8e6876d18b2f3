use Rattle.std.proofs.Common.{◌≡◌, ◌+◌, ◌-◌, ◌^◌, ◌≤◌, min, drop}
use Rattle.core_syntax.specs.Word.{letters_size}
use Rattle.type_equal.proofs.tables.size_of_letters.Given as goal

abbrev pub invariant-loop-letter : goal.invariant-loop-letter
invariant-loop-letter l =
    record {
      within : l.total ≤ 2 ^ 64 - 1;
      counted : min (l.total + letters_size (drop l.letter-index l.letters)) (2 ^ 64 - 1) ≡ min (letters_size l.letters) (2 ^ 64 - 1);
    }
