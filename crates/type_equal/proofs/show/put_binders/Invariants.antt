use Rattle.std.proofs.Common.{◌≡◌, ◌+◌, ◌++◌, drop}
use Rattle.core_syntax.specs.Norm.{spaced}
use Rattle.core_syntax.specs.NormTypes.{binder_texts}
use Rattle.type_equal.proofs.show.put_binders.Given as goal

abbrev pub invariant-loop-at : goal.invariant-loop-at
invariant-loop-at l =
    l.out.items ++ spaced (binder_texts (l.at + l.first) (drop l.at l.sorts)) ≡ l.initial.out.items ++ spaced (binder_texts l.first l.sorts)
