use Rattle.type_check.proofs.trees.WrittenLemmas.{formed}
use Rattle.type_check.proofs.written.written.Goals as goal

pub returns-in-Ok-clause-written : goal.returns-in-Ok-clause-written
returns-in-Ok-clause-written c Γ scope = formed c.args.types c.args.sorts.now.items Γ scope c.args.t.now c.in-Ok.ensures.formed c.normal_at.result c.normal_at.ensures
