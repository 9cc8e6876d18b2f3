use Rattle.std.proofs.Common.{sym, ◌∙◌}
use Rattle.name_resolve.proofs.ListLemmas.{count_of}
use Rattle.name_resolve.proofs.lists.four.Goals as goal

pub returns-then-forms-ne4 : goal.returns-then-forms-ne4
returns-then-forms-ne4 c = λ e. c.if-forms-ne4.true (sym (count_of c.args.forms.now) ∙ e)
