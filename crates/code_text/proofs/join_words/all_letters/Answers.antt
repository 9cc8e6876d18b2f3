use Rattle.std.proofs.Common.{sym, subst}
use Rattle.core_syntax.specs.Word.{AreNormal}
use Rattle.code_text.proofs.indices.NormalWords.{normal_reversed}
use Rattle.code_text.proofs.join_words.all_letters.Goals as goal

pub returns-clause-normal : goal.returns-clause-normal
returns-clause-normal c =
    subst AreNormal (sym c.reverse.ensures.items) (normal_reversed c.move_runs.new.word.items (c.in_ok-move_runs.ensures.normal (subst AreNormal (sym c.new-word.ensures.items) tt)))
