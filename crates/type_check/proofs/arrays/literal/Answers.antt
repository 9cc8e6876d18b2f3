use Rattle.core_syntax.specs.Refine.{ty_of}
use Rattle.core_syntax.specs.Notes.{note_of}
use Rattle.type_check.proofs.trees.ArrayLemmas.{literal_follows}
use Rattle.type_check.proofs.arrays.literal.Goals as goal

pub returns-in-Ok : goal.returns-in-Ok
returns-in-Ok c = λ Γ x xs ns ms f fs.
    literal_follows Γ c.args.at c.args.dims.now x xs (ty_of c.args.atom.now) ns ms f fs (ty_of c.in-Ok.ty) (note_of c.no_note.result) c.conclusion.result
    c.in-Ok.ensures c.no_note.ensures c.conclusion.ensures
