use Rattle.core_syntax.specs.Syntax.{no_span}
use Rattle.core_syntax.proofs.TreeRows.{form_of_dims}
use Rattle.prim_table.proofs.parts.vector.Goals as goal

pub returns : goal.returns
returns c = form_of_dims no_span c.args.parts
