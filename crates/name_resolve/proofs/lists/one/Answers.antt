use Rattle.name_resolve.proofs.ListLemmas.{not_one}
use Rattle.name_resolve.proofs.lists.one.Goals as goal

pub returns-then-forms-ne1 : goal.returns-then-forms-ne1
returns-then-forms-ne1 c = not_one c.args.forms.now c.if-forms-ne1.true
