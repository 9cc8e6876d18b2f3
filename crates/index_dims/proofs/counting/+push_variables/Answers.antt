use Rattle.std.proofs.Common.{arith}
use Rattle.std.proofs.lemmas.Grind.{common_steps}
use Rattle.core_syntax.proofs.PartLemmas.{is_sum}
use Rattle.index_dims.proofs.CountLemmas.{variables_parts}
use Rattle.index_dims.proofs.counting.+push_variables.Goals as goal

pub returns-after-loop-part : goal.returns-after-loop-part
returns-after-loop-part t c =
    rw (is_sum c.args.i.now _ _ c.as_slice-part-items.ensures c.in-Sum.is, variables_parts) (grind (arith, common_steps))
