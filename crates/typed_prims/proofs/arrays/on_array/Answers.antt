use Rattle.std.proofs.Common.{◌≡◌, [], ◌∷◌, sym, subst, IfOk, option_map}
use Rattle.core_syntax.specs.Delta.{taken, dropped, copied, number_at}
use Rattle.core_syntax.specs.Lists.{each}
use Rattle.core_syntax.specs.Refine.{index_of}
use Rattle.core_syntax.specs.Rules.{atom_rules, values_of}
use Rattle.core_syntax.specs.Syntax.{Ty}
use Rattle.core_syntax.specs.Typed.{closed_value, typed_rules}
use Rattle.typed_prims.specs.Answers.{answer_on, array_of}
use Rattle.typed_prims.specs.ArrayAnswers.{answer_is}
use Rattle.typed_prims.proofs.arrays.on_array.Goals as goal

pub returns-in-Reverse : goal.returns-in-Reverse
returns-in-Reverse c =
    let is = values_of closed_value (option_map (each index_of) c.args.indices.now) in
    subst (λ q. (r : Ty) → IfOk c.reverse.result (λ x. answer_is x ≡ answer_on r q is (c.args.a.now ∷ []))) (sym c.in-Reverse.is)
    (c.reverse.ensures)

pub returns-in_ok-dim_at-in-Take : goal.returns-in_ok-dim_at-in-Take
returns-in_ok-dim_at-in-Take c =
    let is = values_of closed_value (option_map (each index_of) c.args.indices.now) in
    subst (λ q. (r : Ty) → IfOk c.take.result (λ x. answer_is x ≡ answer_on r q is (c.args.a.now ∷ []))) (sym c.in-Take.is)
    (λ r. subst (λ k. IfOk c.take.result (λ x. answer_is x ≡ taken (atom_rules typed_rules r) k (array_of c.args.a.now))) c.in_ok-dim_at-in-Take.ensures (c.take.ensures r))

pub returns-in_ok-dim_at-in-Drop-2 : goal.returns-in_ok-dim_at-in-Drop-2
returns-in_ok-dim_at-in-Drop-2 c =
    let is = values_of closed_value (option_map (each index_of) c.args.indices.now) in
    subst (λ q. (r : Ty) → IfOk c.drop_front.result (λ x. answer_is x ≡ answer_on r q is (c.args.a.now ∷ []))) (sym c.in-Drop.is)
    (λ r.
    subst (λ n. IfOk c.drop_front.result (λ x. answer_is x ≡ dropped (atom_rules typed_rules r) (number_at is 0) n (array_of c.args.a.now))) c.in_ok-dim_at-in-Drop-2.ensures
    (subst (λ k. IfOk c.drop_front.result (λ x. answer_is x ≡ dropped (atom_rules typed_rules r) k c.in_ok-dim_at-in-Drop-2.field-0 (array_of c.args.a.now))) c.in_ok-dim_at-in-Drop.ensures (c.drop_front.ensures r)))

pub returns-in_ok-dim_at-in-Replicate : goal.returns-in_ok-dim_at-in-Replicate
returns-in_ok-dim_at-in-Replicate c =
    let is = values_of closed_value (option_map (each index_of) c.args.indices.now) in
    subst (λ q. (r : Ty) → IfOk c.replicate.result (λ x. answer_is x ≡ answer_on r q is (c.args.a.now ∷ []))) (sym c.in-Replicate.is)
    (λ r. subst (λ k. IfOk c.replicate.result (λ x. answer_is x ≡ copied (atom_rules typed_rules r) k (array_of c.args.a.now))) c.in_ok-dim_at-in-Replicate.ensures (c.replicate.ensures r))
