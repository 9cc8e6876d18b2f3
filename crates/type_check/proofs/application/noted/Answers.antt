use Rattle.core_syntax.specs.Refine.{ty_of, tys_of}
use Rattle.core_syntax.specs.Notes.{note_of, app_note}
use Rattle.type_check.proofs.trees.ArrayLemmas.{follows_noted}
use Rattle.type_check.proofs.application.noted.Goals as goal

pub returns-in-Ok : goal.returns-in-Ok
returns-in-Ok c =
    follows_noted c.args.at (ty_of c.args.ty.now) (note_of c.in-Ok.note) (app_note (tys_of c.args.function.now.inputs.now) (ty_of c.args.function.now.output.now))
    c.conclusion.result c.in-Ok.ensures c.conclusion.ensures
