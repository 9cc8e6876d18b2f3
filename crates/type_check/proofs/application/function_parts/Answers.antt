use Rattle.core_syntax.proofs.TyRows.{is_fun}
use Rattle.type_check.proofs.application.function_parts.Goals as goal

pub returns : goal.returns
returns c = is_fun c.args.t.now _ _ _ _ c.as_slice.ensures c.get.ensures c.in-Fun.is
