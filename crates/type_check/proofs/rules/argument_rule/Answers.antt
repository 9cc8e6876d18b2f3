use Rattle.core_syntax.specs.Refine.{ty_of}
use Rattle.type_check.proofs.exits.RuleLemmas.{tested_arg, formed_like}
use Rattle.type_check.proofs.rules.argument_rule.Goals as goal

pub returns : goal.returns
returns c = λ before e at types sorts f.
    tested_arg before c.args.checker.now e (ty_of c.args.found.now) (ty_of c.args.input.now) f c.argument.result
    (λ Γ ns l p. c.argument.ensures Γ e ns at (formed_like Γ before c.args.checker.now (ty_of c.args.input.now) l types sorts c.requires.formed) p)
