use Rattle.std.proofs.Common.{◌≡◌, take, drop}
use Rattle.core_syntax.specs.Lists.{each}
use Rattle.machine.specs.Applied.{placed}
use Rattle.machine.proofs.applied.place_all.Given as goal

abbrev pub invariant-loop-argument : goal.invariant-loop-argument
invariant-loop-argument l =
    (take l.argument-index l.arguments ≡ each (placed l.count) (take l.argument-index l.fn.arguments)) × (drop l.argument-index l.arguments ≡ drop l.argument-index l.fn.arguments)
