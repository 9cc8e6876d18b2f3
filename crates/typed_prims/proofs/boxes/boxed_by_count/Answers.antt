use Rattle.core_syntax.specs.Terms.{DimValue}
use Rattle.typed_prims.proofs.boxes.boxed_by_count.Goals as goal

pub returns-in-Ok : goal.returns-in-Ok
returns-in-Ok c = c.boxed.ensures (DimValue c.args.count) c.in-Ok.ensures
