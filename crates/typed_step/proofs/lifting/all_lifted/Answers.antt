use Rattle.std.proofs.Common.{◌≡◌, ◌∙◌, ◌++◌, ◌∷◌, [], rules}
use Rattle.typed_step.proofs.Pairs.{lifted_at, pairs_made, pairs_end, lifts_are}
use Rattle.typed_step.proofs.lifting.all_lifted.Goals as goal

pub loop-place-preserved : goal.loop-place-preserved
loop-place-preserved c =
    let e : c.push.new.self.items ≡ c.loop-place.all.items ++ c.in_ok-arg.arg ∷ [] = search rules in
    pairs_made (lifted_at c.args.frame.now) c.args.ranks.now c.args.args.now c.loop-place.all.items c.push.new.self.items c.loop-place.place c.index-args-place.result c.in_ok-arg.arg
    c.requires.ranks c.loop-place-test.true c.index-args-place.is e c.in_ok-arg.ensures c.loop-place.invariant

pub returns : goal.returns
returns c =
    c.loop-place.invariant
    ∙ pairs_end (lifted_at c.args.frame.now) c.args.ranks.now c.args.args.now c.loop-place.place c.requires.ranks c.loop-place-test.false
    ∙ lifts_are c.args.frame.now c.args.ranks.now c.args.args.now
