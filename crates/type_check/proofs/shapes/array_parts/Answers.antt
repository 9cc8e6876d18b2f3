use Rattle.core_syntax.proofs.TyRows.{is_arr}
use Rattle.type_check.proofs.shapes.array_parts.Goals as goal

pub returns : goal.returns
returns c = is_arr c.args.t.now _ _ c.in-Arr.shape c.get.ensures c.in-Arr.is
