use Rattle.core_syntax.specs.Lists.{each}
use Rattle.array_values.specs.Data.{array_data}
use Rattle.remora_driver.specs.Due.{HasCodeEnd}
use Rattle.remora_driver.specs.Sources.{told}
use Rattle.remora_driver.proofs.Called.{due_told}
use Rattle.remora_driver.proofs.Dues.{code_ends}
use Rattle.remora_driver.proofs.running.code_answer.Goals as goal

pub returns-in-Ok : goal.returns-in-Ok
returns-in-Ok c =
    due_told (HasCodeEnd c.args.how c.args.code.now c.args.budget (each array_data c.args.inputs.now)) (told c.args.how c.in-Ok.end.steps c.in-Ok.end.outcome) c.end_answer.result
    (code_ends c.args.how c.args.code.now c.args.inputs.now c.args.budget c.in-Ok.end.steps c.in-Ok.end.outcome c.in-Ok.ensures) c.end_answer.ensures
