use Rattle.std.proofs.Common.{sym, ◌∙◌}
use Rattle.machine.proofs.Celled.{same_end, other_end}
use Rattle.machine.proofs.applied.dims_fit.Goals as goal

pub returns-then-ends_in : goal.returns-then-ends_in
returns-then-ends_in c = same_end c.args.cell.now c.args.dims.now c.if-dims-cell.false (sym c.ends_in.ensures ∙ c.if-ends_in.true)

pub returns-else-ends_in : goal.returns-else-ends_in
returns-else-ends_in c = other_end c.args.cell.now c.args.dims.now c.if-dims-cell.false (sym c.ends_in.ensures ∙ c.if-ends_in.false)
