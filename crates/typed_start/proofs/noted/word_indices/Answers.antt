use Rattle.std.proofs.Common.{◌≡◌, ◌++◌, ◌∷◌, [], rules}
use Rattle.core_syntax.specs.Norm.{word_tree}
use Rattle.core_syntax.specs.Refine.{index_of}
use Rattle.typed_start.proofs.ReadRows.{each_made}
use Rattle.typed_start.proofs.noted.word_indices.Goals as goal

pub loop-word-preserved : goal.loop-word-preserved
loop-word-preserved c =
    let e : c.push.new.self.items ≡ c.loop-word.indices.items ++ c.in_ok-index.index ∷ [] = search rules in
    each_made index_of word_tree c.args.words.now _ _ _ c.word-item.result c.in_ok-index.index c.loop-word-test.true c.word-item.is e c.in_ok-index.ensures c.loop-word.invariant
