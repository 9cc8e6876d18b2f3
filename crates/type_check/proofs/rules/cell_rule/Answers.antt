use Rattle.core_syntax.specs.Refine.{ty_of}
use Rattle.type_check.proofs.exits.RuleLemmas.{tested_cell}
use Rattle.type_check.proofs.rules.cell_rule.Goals as goal

pub returns : goal.returns
returns c = λ before e at f.
    tested_cell before c.args.checker.now e (ty_of c.args.found.now) (ty_of c.args.ty.now) f c.later_cell.result (λ Γ ns p. c.later_cell.ensures Γ e ns at p)
