use Rattle.remora_driver.proofs.Tasks.{has_params, has_inputs}
use Rattle.remora_driver.proofs.task.Task.has_inputs.Goals as goal

pub returns-in-Run : goal.returns-in-Run
returns-in-Run c = rw c.in-Run.is (has_params c.in-Run.code c.params.result.now c.is_empty.result c.params.ensures.params c.is_empty.ensures)

pub returns-in-Reduce : goal.returns-in-Reduce
returns-in-Reduce c = rw c.in-Reduce.is (has_inputs c.in-Reduce.checked c.program.result.now c.is_empty-in-Reduce.result c.program.ensures c.is_empty-in-Reduce.ensures)
