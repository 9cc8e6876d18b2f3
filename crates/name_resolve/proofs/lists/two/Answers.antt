use Rattle.name_resolve.proofs.ListLemmas.{not_two}
use Rattle.name_resolve.proofs.lists.two.Goals as goal

pub returns-then-forms-ne2 : goal.returns-then-forms-ne2
returns-then-forms-ne2 c = not_two c.args.forms.now c.if-forms-ne2.true
