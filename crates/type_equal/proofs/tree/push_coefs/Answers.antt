use Rattle.type_equal.proofs.PartsLemmas.{coefs_more}
use Rattle.type_equal.proofs.tree.push_coefs.Goals as goal

pub loop-at-preserved : goal.loop-at-preserved
loop-at-preserved c = coefs_more _ _ _ c.args.coefs.now c.loop-at.at _ c.loop-at-test.true c.in_ok-push_times.ensures c.loop-at.invariant
