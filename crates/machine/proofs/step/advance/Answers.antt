use Rattle.std.proofs.Common.{◌∷◌, ap, sym}
use Rattle.machine_table.specs.Machine as table
use Rattle.machine_table.specs.ValueRules.{value_rules}
use Rattle.machine.specs.Refines.{below_of, next_of, state_of, top_of}
use Rattle.machine.specs.declared.state.Activation.{Activation}
use Rattle.machine.proofs.Answered.{answer_same}
use Rattle.machine.proofs.step.advance.Goals as goal

pub returns-in-Run-clause-next : goal.returns-in-Run-clause-next
returns-in-Run-clause-next c =
    c.one.ensures.next c.args.blocks.now (state_of c.args.blocks.now c.args.state)
    (answer_same c.step_run.result (next_of c.args.blocks.now) _ _ c.step_run.ensures
    (ap (λ (top : Activation). table.step value_rules c.args.blocks.now (top_of c.args.blocks.now top ∷ below_of c.args.blocks.now c.args.state.below.items)) (sym c.in-Run.is)))
