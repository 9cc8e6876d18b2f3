use Rattle.std.proofs.Common.{◌≡◌, take}
use Rattle.core_syntax.specs.Lists.{each}
use Rattle.type_check.specs.declared.state.Bound.{Bound}
use Rattle.type_check.proofs.checking.input_types.Given as goal

abbrev pub invariant-loop-term : goal.invariant-loop-term
invariant-loop-term l = l.types.items ≡ each (λ (b : Bound). b.ty) (take l.term-index l.fn.terms)
