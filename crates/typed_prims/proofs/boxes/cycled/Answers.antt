use Rattle.std.proofs.Common.{rules, ◌≡◌, ◌∙◌, [], ◌∷◌, ◌++◌}
use Rattle.typed_prims.proofs.BoxRows.{cycled_more}
use Rattle.typed_prims.proofs.boxes.cycled.Goals as goal

pub loop-place-preserved : goal.loop-place-preserved
loop-place-preserved c =
    let pushed : c.push.new.self.items ≡ c.loop-place.all.items ++ c.in_ok-atom.atom ∷ [] = search rules in
    pushed ∙ (λ i. c.loop-place.invariant i ++ c.in_ok-atom.ensures i ∷ []) ∙ cycled_more c.args.atoms.now c.args.fill.now c.loop-place.place
