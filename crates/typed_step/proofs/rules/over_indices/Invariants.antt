use Rattle.core_syntax.specs.Lists.{each}
use Rattle.core_syntax.specs.Refine.{index_of, ty_of}
use Rattle.core_syntax.specs.Terms.{TIndexApp}
use Rattle.typed_step.proofs.BindRules.{MadeOf}
use Rattle.typed_step.proofs.rules.over_indices.Given as goal

abbrev pub invariant-loop-atom : goal.invariant-loop-atom
invariant-loop-atom l = MadeOf (λ a. TIndexApp a (each index_of l.indices) (ty_of l.answer)) l.atoms l.atom-index l.cells.items
