use Rattle.std.proofs.Common.{◌∙◌, List, drop, ap}
use Rattle.core_syntax.specs.declared.index.Sort.{Sort}
use Rattle.code_text.proofs.types.Stack.{one_dropped}
use Rattle.code_text.proofs.scope.Binders.leave.Goals as goal

pub loop-preserved : goal.loop-preserved
loop-preserved c = c.pop.ensures ∙ ap (λ (bs : List Sort). drop 1 bs) c.loop.invariant ∙ one_dropped c.loop.counter c.args.self.now
