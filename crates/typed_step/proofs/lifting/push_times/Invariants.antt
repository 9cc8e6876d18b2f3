use Rattle.std.proofs.Common.{◌≡◌, ◌++◌, replicate}
use Rattle.core_syntax.specs.Lists.{joined}
use Rattle.typed_step.proofs.lifting.push_times.Given as goal

abbrev pub invariant-loop : goal.invariant-loop
invariant-loop l = l.copies.items ≡ l.initial.copies.items ++ joined (replicate l.counter l.atoms)
