use Rattle.core_syntax.specs.Refine.{ty_of}
use Rattle.core_syntax.specs.Notes.{note_of, cell_note}
use Rattle.type_check.proofs.trees.ArrayLemmas.{follows_noted}
use Rattle.type_check.proofs.frames.conclusion_of_cells.Goals as goal

pub returns-in-Ok : goal.returns-in-Ok
returns-in-Ok c =
    follows_noted c.args.at (ty_of c.args.ty.now) (note_of c.in-Ok.note) (cell_note (ty_of c.args.cell.now)) c.conclusion.result c.in-Ok.ensures c.conclusion.ensures
