use Rattle.reduction_laws.proofs.runs.Results.{starts_typed, keeps_type, never_stuck, reaches_data}
use Rattle.reduction_laws.proofs.laws.keeps_type.Goals as goal

pub returns : goal.returns
returns c = record { start = starts_typed; way = keeps_type; steps = never_stuck; value = reaches_data }
