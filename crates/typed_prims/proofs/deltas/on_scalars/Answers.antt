use Rattle.typed_prims.proofs.ScalarAnswers.{on_one_is, on_two_is, on_others_is}
use Rattle.typed_prims.proofs.deltas.on_scalars.Goals as goal

pub returns-in-len1 : goal.returns-in-len1
returns-in-len1 c = λ r is. on_one_is r is c.args.primitive c.requires c.args.args.now c.x-item.result _ _ c.in-len1.len_at_least c.in-len1.len_below c.x-item.is c.seen.ensures (c.on_one.ensures r)

pub returns-in-len2 : goal.returns-in-len2
returns-in-len2 c = λ r is.
    on_two_is r is c.args.primitive c.requires c.args.args.now c.x-item-then-args-lt3.result c.y-item.result _ _ _ c.in-len2.len_at_least c.in-len2.len_below c.x-item-then-args-lt3.is c.y-item.is c.seen-in-len2.ensures
    c.seen-in-len2-2.ensures (c.on_two.ensures r)

pub returns-in_default-2 : goal.returns-in_default-2
returns-in_default-2 c = λ r is. on_others_is r is c.args.primitive c.requires c.args.args.now c.in_default.len_at_least
