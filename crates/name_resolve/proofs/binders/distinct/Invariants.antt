use Rattle.name_resolve.proofs.BinderLemmas.{TestedTo}
use Rattle.name_resolve.proofs.binders.distinct.Given as goal

abbrev pub invariant-loop-binder : goal.invariant-loop-binder
invariant-loop-binder l = TestedTo l.binders l.before l.binder-index
