use Rattle.std.proofs.Common.{◌≡◌, [], ◌∷◌, sym, subst, IfOk}
use Rattle.core_syntax.specs.Delta.{taken, dropped, copied, number_at, delta}
use Rattle.core_syntax.specs.Lists.{each}
use Rattle.array_values.specs.Envs.{index_data}
use Rattle.prim_kernels.specs.Kernels.{machine_atoms, made_answer}
use Rattle.prim_kernels.proofs.kernels.on_array.Goals as goal

pub returns-in-Take : goal.returns-in-Take
returns-in-Take c =
    let is = each index_data c.args.indices.now in
    subst (λ q. IfOk c.take.result (λ x. made_answer x ≡ delta machine_atoms q is (c.args.a.now ∷ []))) (sym c.in-Take.is)
    (subst (λ k. IfOk c.take.result (λ x. made_answer x ≡ taken machine_atoms k c.args.a.now)) c.dim_at.ensures c.take.ensures)

pub returns-in-Drop : goal.returns-in-Drop
returns-in-Drop c =
    let is = each index_data c.args.indices.now in
    subst (λ q. IfOk c.drop_front.result (λ x. made_answer x ≡ delta machine_atoms q is (c.args.a.now ∷ []))) (sym c.in-Drop.is)
    (subst (λ n. IfOk c.drop_front.result (λ x. made_answer x ≡ dropped machine_atoms (number_at is 0) n c.args.a.now)) c.dim_at-in-Drop-2.ensures
    (subst (λ k. IfOk c.drop_front.result (λ x. made_answer x ≡ dropped machine_atoms k c.dim_at-in-Drop-2.result c.args.a.now)) c.dim_at-in-Drop.ensures c.drop_front.ensures))

pub returns-in-Replicate : goal.returns-in-Replicate
returns-in-Replicate c =
    let is = each index_data c.args.indices.now in
    subst (λ q. IfOk c.replicate.result (λ x. made_answer x ≡ delta machine_atoms q is (c.args.a.now ∷ []))) (sym c.in-Replicate.is)
    (subst (λ k. IfOk c.replicate.result (λ x. made_answer x ≡ copied machine_atoms k c.args.a.now)) c.dim_at-in-Replicate.ensures c.replicate.ensures)
