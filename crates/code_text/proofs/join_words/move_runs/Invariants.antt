use Rattle.std.proofs.Common.{◌≡◌, ◌++◌, reverse, length}
use Rattle.core_syntax.specs.Word.{AreNormal}
use Rattle.code_text.specs.IndexReading.{word_of}
use Rattle.code_text.proofs.join_words.move_runs.Given as goal

abbrev pub invariant-loop-run : goal.invariant-loop-run
invariant-loop-run l = record {
  value : l.word.items ++ reverse (word_of l.runs) ≡ l.initial.word.items ++ reverse (word_of l.initial.runs);
  normal : AreNormal l.initial.word.items → AreNormal l.word.items;
}

abbrev pub decreases-loop-run : goal.decreases-loop-run
decreases-loop-run l = length l.runs
