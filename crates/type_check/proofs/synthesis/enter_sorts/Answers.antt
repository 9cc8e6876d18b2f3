use Rattle.std.proofs.Common.{◌-◌, ◌<◌, length, arith}
use Rattle.type_check.proofs.one_by_one.Loops.{own_item}
use Rattle.type_check.proofs.contexts.SynthSteps.{sorts_back}
use Rattle.type_check.proofs.synthesis.enter_sorts.Goals as goal

pub loop-k-preserved : goal.loop-k-preserved
loop-k-preserved c =
    let some = c.loop-k-test.true in
    let most = c.loop-k.auto.k in
    let lt : c.loop-k.k - 1 < length c.args.sorts.now = omega (arith, some, most) in
    sorts_back c.args.sorts.now c.loop-k.k _ some lt (own_item c.args.sorts.now (c.loop-k.k - 1) _ lt) c.args.checker.now c.loop-k.checker c.enter_sorts.new.self c.loop-k.invariant c.in_ok-enter_sorts.ensures.entered
