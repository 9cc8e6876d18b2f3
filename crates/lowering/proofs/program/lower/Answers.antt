use Rattle.lowering.proofs.Results.{parts_code}
use Rattle.lowering.proofs.program.lower.Goals as goal

pub new-requires : goal.new-requires
new-requires c =
    parts_code c.args.erased.now.program c.program-program.result.now c.as_slice.result.now _ _ c.args.erased.now.erased c.program-program.ensures c.as_slice.ensures c.in_ok-params.ensures c.in_ok-blocks.ensures
