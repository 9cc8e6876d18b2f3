use Rattle.std.proofs.Common.{◌≡◌, [], ◌∷◌, sym, subst, IfOk, option_map}
use Rattle.core_syntax.specs.Lists.{each}
use Rattle.core_syntax.specs.Refine.{index_of}
use Rattle.core_syntax.specs.Rules.{values_of}
use Rattle.core_syntax.specs.Typed.{closed_value}
use Rattle.typed_prims.specs.Answers.{answer_on}
use Rattle.typed_prims.specs.ArrayAnswers.{answer_is}
use Rattle.typed_prims.proofs.ArrayRows.{one_item, three_items}
use Rattle.typed_prims.proofs.arrays.on_arrays.Goals as goal

pub returns-in-len1 : goal.returns-in-len1
returns-in-len1 c = λ r.
    let is = values_of closed_value (option_map (each index_of) c.args.indices.now) in
    subst (λ ts. IfOk c.on_array.result (λ a. answer_is a ≡ answer_on r c.args.primitive is ts)) (one_item c.args.args.now c.a-item.result c.in-len1.len_at_least c.in-len1.len_below c.a-item.is) (c.on_array.ensures r)

pub returns-in-IndexOr : goal.returns-in-IndexOr
returns-in-IndexOr c = λ r.
    let is = values_of closed_value (option_map (each index_of) c.args.indices.now) in
    subst (λ ts. IfOk c.index_or.result (λ a. answer_is a ≡ answer_on r c.args.primitive is ts))
    (three_items c.args.args.now c.a-item-then-args-lt4.result c.i-item.result c.other-item.result c.in-len3.len_at_least c.in-len3.len_below c.a-item-then-args-lt4.is c.i-item.is c.other-item.is)
    (subst (λ q. IfOk c.index_or.result (λ a. answer_is a ≡ answer_on r q is (c.a-item-then-args-lt4.result ∷ c.i-item.result ∷ c.other-item.result ∷ []))) (sym c.in-IndexOr.is) (c.index_or.ensures r))
