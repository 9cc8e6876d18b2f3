use Rattle.std.proofs.Common.{◌≡◌, ◌++◌, map, reverse, length}
use Rattle.core_syntax.specs.declared.norm.Letter.TheVariants as letter
use Rattle.core_syntax.specs.Word.{AreNormal}
use Rattle.code_text.proofs.join_words.move_dims.Given as goal

abbrev pub invariant-loop-dim : goal.invariant-loop-dim
invariant-loop-dim l = record {
  value : l.letters.items ++ reverse (map letter.Dim l.dims) ≡ l.initial.letters.items ++ reverse (map letter.Dim l.initial.dims);
  normal : AreNormal l.initial.letters.items → AreNormal l.letters.items;
}

abbrev pub decreases-loop-dim : goal.decreases-loop-dim
decreases-loop-dim l = length l.dims
