use Rattle.machine_table.specs.ValueRules.{value_rules}
use Rattle.lowering.proofs.Results.{code_follows, evaluation_ends_soon, evaluation_uses_few, evaluation_ends}
use Rattle.lowering.proofs.laws.code_follows_evaluation.Goals as goal

pub returns : goal.returns
returns c = record { follows = code_follows value_rules; soon = evaluation_ends_soon value_rules; few = evaluation_uses_few value_rules; ends = evaluation_ends value_rules }
