use Rattle.name_resolve.proofs.ListLemmas.{listed_some, not_empty}
use Rattle.name_resolve.proofs.lists.some_listed.Goals as goal

pub returns : goal.returns
returns c = listed_some _ c.in_ok-items.items.now c.in_ok-items.ensures (not_empty c.in_ok-items.items.now c.if-is_empty.ensures)
