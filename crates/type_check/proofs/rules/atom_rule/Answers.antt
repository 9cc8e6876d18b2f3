use Rattle.core_syntax.specs.Refine.{ty_of}
use Rattle.type_check.proofs.exits.RuleLemmas.{tested_atom}
use Rattle.type_check.proofs.rules.atom_rule.Goals as goal

pub returns : goal.returns
returns c = λ before x at f.
    tested_atom before c.args.checker.now x (ty_of c.args.found.now) (ty_of c.args.ty.now) f c.later_atom.result (λ Γ ns p. c.later_atom.ensures Γ x ns at p)
