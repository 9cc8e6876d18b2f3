use Rattle.term_values.proofs.Rooms.{first_has_room}
use Rattle.term_values.proofs.values.has_room.Goals as goal

pub returns-in-len1-up : goal.returns-in-len1-up
returns-in-len1-up c =
    first_has_room c.args.frame.now c.dims.result.now c.args.cells.now c.first-item.result c.joins.result c.in-len1-up.len_at_least c.first-item.is c.dims.ensures c.joins.ensures
