use Rattle.std.proofs.Common.{drop}
use Rattle.core_syntax.specs.Lists.{each}
use Rattle.core_syntax.specs.Refine.{ty_of}
use Rattle.type_check.proofs.contexts.SynthSteps.{TermsEntered}
use Rattle.type_check.proofs.synthesis.enter_all.Given as goal

abbrev pub invariant-loop-k : goal.invariant-loop-k
invariant-loop-k l = TermsEntered (each ty_of (drop l.k l.fn.types)) l.fn.checker l.checker
