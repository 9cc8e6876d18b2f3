use Rattle.reduction_laws.proofs.programs.LiteralRows.{dims_fit}
use Rattle.reduction_laws.proofs.literals.read_dims.Goals as goal

pub returns : goal.returns
returns c = dims_fit c.args.dims.now c.type_inv.dims
