use Rattle.std.proofs.Common.{sym, ◌∙◌}
use Rattle.core_syntax.specs.Refine.{ty_of}
use Rattle.core_syntax.specs.RefineTerms.{term_of}
use Rattle.typed_step.proofs.AtomRules.{beta_goes}
use Rattle.typed_step.proofs.rules.apply_atom.Goals as goal

pub returns-in_ok-body-in-Fn : goal.returns-in_ok-body-in-Fn
returns-in_ok-body-in-Fn c =
    beta_goes c.args.atom.now c.in-Fn.inputs c.in-Fn.field-1 c.in-Fn.body c.get.result.now c.args.args.now (ty_of c.args.answer.now) (term_of c.in_ok-body-in-Fn.body) c.in-Fn.is (sym c.len.ensures ∙ c.if-len-args.false) c.get.ensures c.in_ok-body-in-Fn.ensures
