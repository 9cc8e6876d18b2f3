use Rattle.core_syntax.specs.RefineTerms.{cell_of}
use Rattle.typed_step.proofs.LiftTrees.{Replicating}
use Rattle.typed_step.proofs.lifting.replicated.Given as goal

abbrev pub invariant-loop : goal.invariant-loop
invariant-loop l = Replicating cell_of l.runs l.times l.size l.atoms l.all.items l.rest l.counter
