use Rattle.std.proofs.Common.{sym, ◌∙◌}
use Rattle.value_text.proofs.InputLemmas.{base_is, no_base}
use Rattle.value_text.proofs.hidden.is_base.Goals as goal

pub returns-in-Base : goal.returns-in-Base
returns-in-Base c = c.same_base.ensures ∙ sym (base_is c.args.elem.now _ c.in-Base.is c.args.base)

pub returns-in-Sigma : goal.returns-in-Sigma
returns-in-Sigma c = sym (no_base c.args.elem.now _ _ c.in-Sigma.is c.args.base)
