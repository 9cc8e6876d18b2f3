use Rattle.core_syntax.specs.Lists.{each}
use Rattle.array_values.specs.Data.{array_data}
use Rattle.remora_driver.specs.Reductions.{ended, EndsIn}
use Rattle.remora_driver.proofs.Called.{due_told}
use Rattle.remora_driver.proofs.OneFit.{checked_fits}
use Rattle.remora_driver.proofs.task.reduction_answer.Goals as goal

pub reduce_program-requires : goal.reduce_program-requires
reduce_program-requires c = checked_fits c.args.checked.now (each array_data c.args.inputs.now) c.requires

pub returns-in-Ok : goal.returns-in-Ok
returns-in-Ok c =
    due_told (EndsIn c.args.checked.now c.args.budget (each array_data c.args.inputs.now)) (ended c.in-Ok.end) c.end_answer.result c.in-Ok.ensures c.end_answer.ensures
