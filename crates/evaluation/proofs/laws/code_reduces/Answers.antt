use Rattle.machine_table.specs.ValueRules.{value_rules}
use Rattle.evaluation.specs.Inputs.{data_array}
use Rattle.evaluation.specs.Values.{value_cell}
use Rattle.evaluation.proofs.atoms.ValueReads.{values_reading}
use Rattle.evaluation.proofs.Results.{code_is_erased, code_is_source}
use Rattle.evaluation.proofs.laws.code_reduces.Goals as goal

pub returns : goal.returns
returns c = record { erased = code_is_erased value_rules value_cell (data_array value_rules) values_reading; source = code_is_source value_rules value_cell (data_array value_rules) values_reading }
