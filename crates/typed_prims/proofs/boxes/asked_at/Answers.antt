use Rattle.core_syntax.specs.RefineTerms.{cell_of}
use Rattle.typed_prims.specs.Boxes.{wanted}
use Rattle.typed_prims.proofs.Marks.{found}
use Rattle.typed_prims.proofs.boxes.asked_at.Goals as goal

pub returns : goal.returns
returns c = found wanted cell_of c.args.atoms.now c.args.place c.index-atoms-place.result _ c.requires c.index-atoms-place.is c.asked.ensures
