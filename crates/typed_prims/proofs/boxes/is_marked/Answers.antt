use Rattle.core_syntax.specs.RefineTerms.{cell_of}
use Rattle.typed_prims.specs.Boxes.{mark}
use Rattle.typed_prims.proofs.Marks.{found}
use Rattle.typed_prims.proofs.boxes.is_marked.Goals as goal

pub returns : goal.returns
returns c = found mark cell_of c.args.marks.now c.args.place c.index-marks-place.result _ c.requires c.index-marks-place.is c.is_true.ensures
