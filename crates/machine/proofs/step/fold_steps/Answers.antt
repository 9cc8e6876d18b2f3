use Rattle.machine.proofs.step.fold_steps.Goals as goal

pub returns-in-None-clause-next : goal.returns-in-None-clause-next
returns-in-None-clause-next c = c.one.ensures.next c.args.blocks.now _ c.step_fold.ensures
