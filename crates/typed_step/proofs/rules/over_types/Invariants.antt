use Rattle.core_syntax.specs.Lists.{each}
use Rattle.core_syntax.specs.Refine.{ty_of}
use Rattle.core_syntax.specs.Terms.{TTypeApp}
use Rattle.typed_step.proofs.BindRules.{MadeOf}
use Rattle.typed_step.proofs.rules.over_types.Given as goal

abbrev pub invariant-loop-atom : goal.invariant-loop-atom
invariant-loop-atom l = MadeOf (λ a. TTypeApp a (each ty_of l.types) (ty_of l.answer)) l.atoms l.atom-index l.cells.items
