use Rattle.std.proofs.Common.{drop}
use Rattle.type_check.proofs.contexts.SynthSteps.{SortsEntered}
use Rattle.type_check.proofs.synthesis.enter_sorts.Given as goal

abbrev pub invariant-loop-k : goal.invariant-loop-k
invariant-loop-k l = SortsEntered (drop l.k l.fn.sorts) l.fn.checker l.checker
