use Rattle.std.proofs.Common.{refl, arith}
use Rattle.index_dims.proofs.CountingLemmas.{counts_ascend, counts_at_most, counts_few, counts_one_more}
use Rattle.index_dims.proofs.counting.counts.Goals as goal

pub count-requires-clause-ascending : goal.count-requires-clause-ascending
count-requires-clause-ascending c = counts_ascend c.args.variables.now _ _ _ c.loop-var-test.true refl c.loop-var.invariant

pub count-requires-clause-greatest : goal.count-requires-clause-greatest
count-requires-clause-greatest c = counts_at_most c.args.variables.now _ _ _ c.loop-var-test.true refl c.loop-var.invariant c.requires

pub count-requires-clause-few : goal.count-requires-clause-few
count-requires-clause-few c = counts_few c.args.variables.now _ _ _ c.loop-var-test.true refl c.loop-var.invariant (omega arith)

pub loop-var-preserved : goal.loop-var-preserved
loop-var-preserved c =
    counts_one_more c.args.variables.now _ _ _ c.loop-var-test.true refl c.loop-var.invariant _ c.in_ok-count.ensures
