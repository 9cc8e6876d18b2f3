use Rattle.core_syntax.specs.Lists.{each}
use Rattle.core_syntax.specs.Refine.{ty_of}
use Rattle.core_syntax.specs.Terms.{TTypeApp}
use Rattle.typed_step.proofs.BindRules.{all_made}
use Rattle.typed_step.proofs.rules.over_types.Goals as goal

pub returns : goal.returns
returns c = all_made (λ a. TTypeApp a (each ty_of c.args.types.now) (ty_of c.args.answer.now)) c.args.atoms.now c.loop-atom.atom-index c.loop-atom.cells.items c.loop-atom-test.false c.loop-atom.invariant
