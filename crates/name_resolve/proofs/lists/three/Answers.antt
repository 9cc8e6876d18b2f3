use Rattle.name_resolve.proofs.ListLemmas.{not_three}
use Rattle.name_resolve.proofs.lists.three.Goals as goal

pub returns-then-forms-ne3 : goal.returns-then-forms-ne3
returns-then-forms-ne3 c = not_three c.args.forms.now c.if-forms-ne3.true
