use Rattle.std.proofs.Common.{subst, sym}
use Rattle.core_syntax.specs.Refine.{ty_of}
use Rattle.core_syntax.specs.Made.{IsArray}
use Rattle.core_syntax.specs.Notes.{cell_note}
use Rattle.core_syntax.specs.Typing.{numbers}
use Rattle.type_check.specs.Forms.{IsFramed, Follows}
use Rattle.type_check.proofs.trees.ArrayLemmas.{frame_follows}
use Rattle.type_check.proofs.frames.frame.Goals as goal

pub returns-in-Ok : goal.returns-in-Ok
returns-in-Ok c = λ Γ e es ns ms f fs.
    frame_follows Γ c.args.at c.args.dims.now e es (ty_of c.args.cell.now) ns ms f fs (ty_of c.in-Ok.ty) c.conclusion_of_cells.result
    (subst (λ t. IsFramed (numbers c.args.dims.now) (ty_of t) (ty_of c.in-Ok.ty)) c.ty-tree.ensures.tree c.in-Ok.ensures)
    (subst (λ t. Follows c.args.at (ty_of c.in-Ok.ty) (cell_note (ty_of t)) c.conclusion_of_cells.result) c.ty-tree.ensures.tree c.conclusion_of_cells.ensures)
