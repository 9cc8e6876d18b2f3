use Rattle.std.proofs.Common.{arith}
use Rattle.array_values.specs.Lent.{value_of}
use Rattle.machine.proofs.Ahead.{cell_is_single}
use Rattle.machine.proofs.scalars.scalar_cell.Goals as goal

pub returns-clause-cell : goal.returns-clause-cell
returns-clause-cell c =
    cell_is_single c.args.argument.now.array c.args.argument.now.rank _ c.part.result (value_of c.atom_at.result) (omega (arith, c.if-argument-ne0.false)) c.part.ensures c.atom_at.ensures.atom
