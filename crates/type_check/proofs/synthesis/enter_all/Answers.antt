use Rattle.std.proofs.Common.{◌-◌, ◌<◌, length, arith}
use Rattle.type_check.proofs.contexts.SynthSteps.{terms_back}
use Rattle.type_check.proofs.synthesis.enter_all.Goals as goal

pub loop-k-preserved : goal.loop-k-preserved
loop-k-preserved c =
    let some = c.loop-k-test.true in
    let most = c.loop-k.auto.k in
    let lt : c.loop-k.k - 1 < length c.args.types.now = omega (arith, some, most) in
    terms_back c.args.types.now c.loop-k.k c.index-types-k.result some lt c.index-types-k.is c.args.checker.now c.loop-k.checker c.enter_known.new.checker c.loop-k.invariant c.in_ok-enter_known.ensures.entered
