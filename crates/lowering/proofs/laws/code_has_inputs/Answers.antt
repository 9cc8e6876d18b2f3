use Rattle.lowering.proofs.InputTypes as checked
use Rattle.lowering.proofs.laws.code_has_inputs.Goals as goal

pub returns : goal.returns
returns c = checked.code_has_inputs
