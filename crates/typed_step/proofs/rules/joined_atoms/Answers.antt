use Rattle.typed_step.proofs.CollapseRules.{atoms_more}
use Rattle.typed_step.proofs.rules.joined_atoms.Goals as goal

pub loop-cell-preserved : goal.loop-cell-preserved
loop-cell-preserved c =
    atoms_more c.args.cells.now c.loop-cell.cell-index c.cell-item.result c.loop-cell.atoms.items c.push_copies.new.copies.items c.atoms.result.now c.loop-cell-test.true c.cell-item.is c.in_ok-push_copies.ensures c.atoms.ensures c.loop-cell.invariant
