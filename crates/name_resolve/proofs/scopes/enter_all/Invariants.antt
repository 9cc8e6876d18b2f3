use Rattle.std.proofs.Common.{◌≡◌, take}
use Rattle.core_syntax.specs.Lists.{onto}
use Rattle.name_resolve.specs.Held.{held_names}
use Rattle.name_resolve.proofs.scopes.enter_all.Given as goal

abbrev pub invariant-loop-binder : goal.invariant-loop-binder
invariant-loop-binder l = l.space ≡ onto (held_names (take l.binder-index l.binders)) l.initial.space
