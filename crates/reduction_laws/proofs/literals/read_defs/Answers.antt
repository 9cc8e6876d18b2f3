use Rattle.reduction_laws.proofs.programs.LiteralRows.{defs_more}
use Rattle.reduction_laws.proofs.literals.read_defs.Goals as goal

pub loop-def-preserved : goal.loop-def-preserved
loop-def-preserved c = defs_more c.args.defs.now c.loop-def.def-index c.def-item.result c.loop-def-test.true c.def-item.is c.loop-def.invariant c.read_expr.ensures
