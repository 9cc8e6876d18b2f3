use Rattle.type_check.proofs.contexts.SynthSteps.{on_ok}
use Rattle.type_check.proofs.synthesis.define_known.Goals as goal

pub returns-in-Ok-clause-defined : goal.returns-in-Ok-clause-defined
returns-in-Ok-clause-defined c = on_ok c.define.result _ _ (λ e. (c.in-Ok.known, e, c.in-Ok.ensures.normal)) c.define.ensures.defined
