use Rattle.core_syntax.specs.RefineTerms.{cell_of}
use Rattle.typed_step.proofs.LiftTrees.{replicating_more, replicating_ends}
use Rattle.typed_step.proofs.lifting.replicated.Goals as goal

pub loop-preserved : goal.loop-preserved
loop-preserved c =
    replicating_more cell_of c.args.runs c.args.times c.args.size c.min.result c.loop.counter c.args.atoms.now c.loop.all.items c.push_times.new.copies.items c.loop.rest.now c.split_at.result.0.now c.split_at.result.1.now
    c.loop-test.true c.min.ensures c.split_at.ensures.front c.split_at.ensures.back c.in_ok-push_times.ensures c.loop.invariant

pub returns : goal.returns
returns c = replicating_ends cell_of c.args.runs c.args.times c.args.size c.loop.counter c.args.atoms.now c.loop.all.items c.loop.rest.now c.loop-test.false c.loop.invariant
