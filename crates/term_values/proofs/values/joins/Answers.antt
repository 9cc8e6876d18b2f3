use Rattle.std.proofs.Common.{arith}
use Rattle.term_values.proofs.Rooms.{joined_forms}
use Rattle.term_values.proofs.values.joins.Goals as goal

pub returns-then-frame-cell-le-MOST_DIMS : goal.returns-then-frame-cell-le-MOST_DIMS
returns-then-frame-cell-le-MOST_DIMS c =
    joined_forms c.args.frame.now c.args.cell.now c.count.result c.count-then-frame-cell-le-MOST_DIMS.result (λ i. omega (arith, c.type_inv.frame i)) (λ i. omega (arith, c.type_inv.cell i)) c.if-frame-cell-le-MOST_DIMS.true
    c.count.ensures c.count-then-frame-cell-le-MOST_DIMS.ensures
