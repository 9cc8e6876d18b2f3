use Rattle.std.proofs.Common.{ap, ◌∙◌, drop}
use Rattle.name_resolve.proofs.ScopeLemmas.{drop_again}
use Rattle.name_resolve.proofs.scopes.leave_all.Goals as goal

pub loop-preserved : goal.loop-preserved
loop-preserved c = c.leave.ensures ∙ ap (drop 1) c.loop.invariant ∙ drop_again c.loop.counter c.args.space.now
