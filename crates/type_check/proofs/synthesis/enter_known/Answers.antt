use Rattle.std.proofs.Common.{refl}
use Rattle.type_check.specs.State.{bound_at}
use Rattle.type_check.proofs.contexts.SynthSteps.{on_ok}
use Rattle.type_check.proofs.synthesis.enter_known.Goals as goal

pub returns-in-Ok-clause-entered : goal.returns-in-Ok-clause-entered
returns-in-Ok-clause-entered c = on_ok c.enter_term.result _ _ (λ e. (bound_at c.args.checker.now c.in-Ok.known, e, (c.in-Ok.ensures.normal, refl, refl))) c.enter_term.ensures.entered
