use Rattle.std.proofs.Common.{ap}
use Rattle.machine_table.specs.Instructions as begins
use Rattle.machine_table.specs.Machine as table
use Rattle.machine.specs.Refines.{next_of, below_of, rest_of}
use Rattle.machine.proofs.Answered.{answer_same}
use Rattle.machine.proofs.Takes.{taken_popped}
use Rattle.machine.proofs.applied.act_app.Goals as goal

pub returns : goal.returns
returns c = λ blocks.
    answer_same c.apply_top.result (next_of blocks) _ _ (c.apply_top.ensures blocks)
    (ap (λ q. table.with_popped q (λ ys ops. table.with_top ops (λ f rest. table.begun (begins.app_begun c.args.run.env.indices c.args.cells.now c.args.result_cell.now f ys) (rest_of blocks c.args.run) c.args.run.env rest (below_of blocks c.args.below.items))))
    (taken_popped c.in_ok-arguments.field-0 c.in-Some.field-0 _ c.in-Some.is c.in_ok-arguments.ensures.taken))
