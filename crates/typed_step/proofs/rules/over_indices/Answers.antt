use Rattle.core_syntax.specs.Lists.{each}
use Rattle.core_syntax.specs.Refine.{index_of, ty_of}
use Rattle.core_syntax.specs.Terms.{TIndexApp}
use Rattle.typed_step.proofs.BindRules.{all_made}
use Rattle.typed_step.proofs.rules.over_indices.Goals as goal

pub returns : goal.returns
returns c = all_made (λ a. TIndexApp a (each index_of c.args.indices.now) (ty_of c.args.answer.now)) c.args.atoms.now c.loop-atom.atom-index c.loop-atom.cells.items c.loop-atom-test.false c.loop-atom.invariant
