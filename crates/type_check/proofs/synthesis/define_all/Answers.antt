use Rattle.type_check.proofs.contexts.SynthSteps.{added_more}
use Rattle.type_check.proofs.synthesis.define_all.Goals as goal

pub loop-ty-preserved : goal.loop-ty-preserved
loop-ty-preserved c = added_more c.args.types.now c.loop-ty.ty-index c.ty-item.result c.loop-ty-test.true c.ty-item.is c.args.checker.now c.loop-ty.checker c.define_known.new.checker c.loop-ty.invariant c.in_ok-define_known.ensures.defined
