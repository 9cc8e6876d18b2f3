use Rattle.std.proofs.Common.{◌∙◌, sym, ap}
use Rattle.core_syntax.specs.Refine.{index_of, ty_of}
use Rattle.core_syntax.proofs.TyRows.{is_arr}
use Rattle.type_check.proofs.trees.FramedLemmas.{tree_told}
use Rattle.type_check.proofs.framed.framed_type.Goals as goal

pub returns-in-Ok : goal.returns-in-Ok
returns-in-Ok c =
    tree_told c.args.at c.in-Ok.tree (index_of c.args.frame.now) (ty_of c.args.cell.now) c.ty.result.now.at (ty_of c.get.result.now) (index_of c.in-Arr.shape)
    (ap ty_of (sym c.ty.ensures.tree) ∙ is_arr c.ty.result.now c.in-Arr.elem c.get.result.now c.in-Arr.shape c.get.ensures c.in-Arr.is)
    c.in-Ok.ensures c.normal_at.result c.normal_at.ensures
