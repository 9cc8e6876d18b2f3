use Rattle.std.proofs.Common.{◌≡◌, drop}
use Rattle.core_syntax.specs.Lists.{after_prefix}
use Rattle.core_syntax.specs.NormValue.{word_value_under}
use Rattle.value_text.specs.Answers.{inside}
use Rattle.value_text.specs.DataRead.{hidden}
use Rattle.value_text.proofs.hidden.behind.Given as goal

abbrev pub invariant-loop-letter : goal.invariant-loop-letter
invariant-loop-letter l =
    after_prefix (word_value_under (hidden (inside l.hidden)) l.letters) l.dims ≡ after_prefix (word_value_under (hidden (inside l.hidden)) (drop l.letter-index l.letters)) l.rest
