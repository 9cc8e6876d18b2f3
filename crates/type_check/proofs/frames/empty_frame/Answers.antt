use Rattle.std.proofs.Common.{subst, sym}
use Rattle.core_syntax.specs.Refine.{ty_of}
use Rattle.core_syntax.specs.Made.{IsArray}
use Rattle.core_syntax.specs.Notes.{note_of}
use Rattle.core_syntax.specs.Typing.{numbers}
use Rattle.type_check.specs.Forms.{IsFramed}
use Rattle.type_check.proofs.trees.ArrayLemmas.{no_cells_follows}
use Rattle.type_check.proofs.frames.empty_frame.Goals as goal

pub returns-in-Ok : goal.returns-in-Ok
returns-in-Ok c = λ Γ t met sound is.
    no_cells_follows Γ c.args.at c.args.dims.now t (ty_of c.args.cell.now) met sound is (ty_of c.in-Ok.ty) (note_of c.no_note.result) c.conclusion.result
    (subst (λ t. IsFramed (numbers c.args.dims.now) (ty_of t) (ty_of c.in-Ok.ty)) c.ty-tree.ensures.tree c.in-Ok.ensures) c.no_note.ensures c.conclusion.ensures
