use Rattle.std.proofs.Common.{◌∙◌, ap}
use Rattle.core_syntax.specs.Refine.{ty_of}
use Rattle.core_syntax.specs.Notes.{note_of}
use Rattle.core_syntax.specs.Prims.{array_of}
use Rattle.core_syntax.specs.Typing.{numbers}
use Rattle.type_check.proofs.trees.ArrayLemmas.{none_follows}
use Rattle.type_check.proofs.arrays.empty_literal.Goals as goal

pub returns-in-Ok : goal.returns-in-Ok
returns-in-Ok c = λ Γ t met sound is.
    none_follows Γ c.args.at c.args.dims.now t (ty_of c.args.atom.now) met sound is (ty_of c.in-Ok.ty) (note_of c.no_note.result) c.conclusion.result
    (c.in-Ok.ensures ∙ ap (λ t. array_of (ty_of t) (numbers c.args.dims.now)) c.ty.ensures.tree) c.no_note.ensures c.conclusion.ensures
