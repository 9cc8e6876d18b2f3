use Rattle.std.proofs.Common.{◌≡◌, drop}
use Rattle.name_resolve.proofs.scopes.leave_all.Given as goal

abbrev pub invariant-loop : goal.invariant-loop
invariant-loop l = l.space ≡ drop l.counter l.initial.space
