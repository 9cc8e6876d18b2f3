use Rattle.machine_table.specs.Machine.{Goes}
use Rattle.machine_table.specs.Machine as table
use Rattle.machine_table.specs.ValueRules.{value_rules}
use Rattle.machine.proofs.Runs.{never, goes_on}
use Rattle.machine.proofs.laws.goes_on_until_end.Goals as goal

pub returns : goal.returns
returns c = λ code inputs n. (
  λ going k o within ends. never code.blocks n k (Goes (table.start value_rules code.blocks inputs)) o going.0 within ends going.1,
  λ unended. goes_on code.blocks n (Goes (table.start value_rules code.blocks inputs)) unended,
)
