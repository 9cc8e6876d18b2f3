use Rattle.std.proofs.Common.{take}
use Rattle.core_syntax.specs.Lists.{each}
use Rattle.core_syntax.specs.Refine.{ty_of}
use Rattle.type_check.proofs.contexts.SynthSteps.{Added}
use Rattle.type_check.proofs.synthesis.define_all.Given as goal

abbrev pub invariant-loop-ty : goal.invariant-loop-ty
invariant-loop-ty l = Added (each ty_of (take l.ty-index l.fn.types)) l.fn.checker l.checker
