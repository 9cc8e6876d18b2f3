use Rattle.std.proofs.Common.{◌≡◌, [], ◌∷◌, ◌++◌, rules}
use Rattle.type_check.proofs.trees.TreesMade.{words_made}
use Rattle.type_check.proofs.notes.shape_words.Goals as goal

pub loop-ty-preserved : goal.loop-ty-preserved
loop-ty-preserved c =
    let e : c.push.new.self.items ≡ c.loop-ty.words.items ++ c.in_ok-word.word ∷ [] = search rules in
    words_made c.args.types.now _ _ _ c.ty-item.result c.in_ok-word.word c.loop-ty-test.true c.ty-item.is e c.in_ok-word.ensures c.loop-ty.invariant
