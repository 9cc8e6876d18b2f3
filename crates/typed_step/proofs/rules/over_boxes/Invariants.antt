use Rattle.core_syntax.specs.Refine.{ty_of}
use Rattle.core_syntax.specs.RefineTerms.{term_of}
use Rattle.core_syntax.specs.Terms.{TUnbox}
use Rattle.typed_step.proofs.BindRules.{MadeOf}
use Rattle.typed_step.proofs.rules.over_boxes.Given as goal

abbrev pub invariant-loop-atom : goal.invariant-loop-atom
invariant-loop-atom l = MadeOf (λ a. TUnbox l.sorts a (term_of l.body) (ty_of l.answer)) l.atoms l.atom-index l.cells.items
