use Rattle.std.proofs.Common.{◌∙◌, ap, ◌-◌, ◌^◌, min}
use Rattle.core_syntax.specs.Word.{letters_size}
use Rattle.core_syntax.specs.Norm.{word_tree, has_large}
use Rattle.type_equal.specs.Counted.{count_of, clipped, lone_letter}
use Rattle.type_equal.proofs.LoneLemmas.{word_counted}
use Rattle.type_equal.proofs.tables.count_word.Goals as goal

pub returns : goal.returns
returns c =
    word_counted c.w.inside.letters c.lone_variable.result c.size_of_letters.result c.any_large_letter.result c.w.invariant
    (c.lone_variable.ensures ∙ ap lone_letter c.as_slice-letters.ensures)
    (c.size_of_letters.ensures ∙ ap (λ l. min (letters_size l) (2 ^ 64 - 1)) c.as_slice-letters.ensures)
    (c.any_large_letter.ensures ∙ ap has_large c.as_slice-letters.ensures)
    ∙ ap (λ w. clipped (count_of (word_tree w))) c.w.view_is
