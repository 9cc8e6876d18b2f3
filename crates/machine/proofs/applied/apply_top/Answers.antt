use Rattle.std.proofs.Common.{ap, ◌∙◌, reverse, List}
use Rattle.core_syntax.specs.Lists.{each}
use Rattle.array_values.specs.Values.{Array}
use Rattle.machine_table.specs.Instructions as begins
use Rattle.machine_table.specs.Machine as table
use Rattle.machine.specs.Applied.{array_of}
use Rattle.machine.specs.Refines.{next_of, below_of, rest_of}
use Rattle.machine.proofs.Answered.{answer_same}
use Rattle.machine.proofs.Tops.{topped}
use Rattle.machine.proofs.applied.apply_top.Goals as goal

pub returns-in_ok-begun-in-Some : goal.returns-in_ok-begun-in-Some
returns-in_ok-begun-in-Some c = λ blocks.
    let left = c.in-Some.left in
    let xs : List Array = each array_of c.args.arguments.items in
    answer_same c.begin.result (next_of blocks) _ _ (c.begin.ensures blocks)
    (ap (λ b. table.begun b (rest_of blocks left) left.env (reverse left.operands.items) (below_of blocks c.args.below.items))
    (c.in_ok-begun-in-Some.ensures ∙ ap (λ is. begins.app_begun is c.args.cells.now c.args.result_cell.now c.in-Some.function xs) c.indices.ensures)
    ∙ topped blocks c.args.run left c.in-Some.function (λ rest env f ops. table.begun (begins.app_begun env.indices c.args.cells.now c.args.result_cell.now f xs) rest env ops (below_of blocks c.args.below.items)) c.in-Some.ensures.some)
