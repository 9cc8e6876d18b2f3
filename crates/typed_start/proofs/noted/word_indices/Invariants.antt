use Rattle.std.proofs.Common.{◌≡◌, take}
use Rattle.core_syntax.specs.Lists.{each}
use Rattle.core_syntax.specs.Norm.{word_tree}
use Rattle.core_syntax.specs.Refine.{index_of}
use Rattle.typed_start.proofs.noted.word_indices.Given as goal

abbrev pub invariant-loop-word : goal.invariant-loop-word
invariant-loop-word l = each index_of l.indices.items ≡ each word_tree (take l.word-index l.words)
