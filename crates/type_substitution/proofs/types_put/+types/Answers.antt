use Rattle.std.proofs.Common.{◌≡◌, ◌∙◌, refl, sym, ap, subst, ℕ, ◌+◌, ◌++◌, ◌∷◌, [], length, IfOk, rules}
use Rattle.core_syntax.specs.Syntax as syntax
use Rattle.core_syntax.specs.Refine.{ty_of}
use Rattle.core_syntax.specs.Subst.{indices_under, fates_under_index, ty_put, tys_put}
use Rattle.core_syntax.proofs.TyRows.{is_fun, is_forall, is_pi, is_sigma, is_arr}
use Rattle.type_substitution.specs.Putting.{indices_at, types_at}
use Rattle.type_substitution.proofs.Made.{tys_made}
use Rattle.type_substitution.proofs.Fates.{types_at_forall, types_at_pi, indices_at_pi}
use Rattle.type_substitution.proofs.types_put.+types.Goals as goal

pub put_tree-returns-in_ok-output-in-Fun : goal.put_tree-returns-in_ok-output-in-Fun
put_tree-returns-in_ok-output-in-Fun t c =
    let σ = indices_at c.args.under.indices c.args.indices.now in
    let τ = types_at c.args.under.types c.args.under.indices c.args.types.now in
    subst (λ w. IfOk c.function.result (λ r. ty_of r ≡ w))
    ((λ i. syntax.Fun c.args.t.now.at (c.in_ok-inputs-in-Fun.ensures i) (c.in_ok-output-in-Fun.ensures i))
    ∙ sym (ap (ty_put σ τ) (is_fun c.args.t.now _ _ _ _ c.as_slice.ensures c.get.ensures c.in-Fun.is)))
    c.function.ensures

pub put_tree-returns-in_ok-body-in-Forall : goal.put_tree-returns-in_ok-body-in-Forall
put_tree-returns-in_ok-body-in-Forall t c =
    let σ = indices_at c.args.under.indices c.args.indices.now in
    let τ = types_at c.args.under.types c.args.under.indices c.args.types.now in
    let u = ty_of c.get-in-Forall.result.now in
    subst (λ w. IfOk c.forall.result (λ r. ty_of r ≡ w))
    (ap (syntax.Forall c.args.t.now.at c.in-Forall.n)
    (c.in_ok-body-in-Forall.ensures ∙ ap (λ (n : ℕ). ty_put σ (types_at n c.args.under.indices c.args.types.now) u) c.in_ok-more-in-Forall.ensures
    ∙ ap (λ υ. ty_put σ υ u) (sym (types_at_forall c.args.types.now c.in-Forall.n c.args.under.types c.args.under.indices)))
    ∙ sym (ap (ty_put σ τ) (is_forall c.args.t.now _ _ _ c.get-in-Forall.ensures c.in-Forall.is)))
    c.forall.ensures

pub put_tree-returns-in_ok-body-in-Pi : goal.put_tree-returns-in_ok-body-in-Pi
put_tree-returns-in_ok-body-in-Pi t c =
    let σ = indices_at c.args.under.indices c.args.indices.now in
    let τ = types_at c.args.under.types c.args.under.indices c.args.types.now in
    let u = ty_of c.get-in-Pi.result.now in
    let m = c.args.under.indices in
    let n = length c.in-Pi.bound in
    let body : ty_of c.in_ok-body-in-Pi.body ≡ ty_put (indices_under n σ) (fates_under_index n τ) u =
    c.in_ok-body-in-Pi.ensures ∙ ap (λ (k : ℕ). ty_put (indices_at k c.args.indices.now) (types_at c.args.under.types k c.args.types.now) u) (c.in_ok-binders-in-Pi.ensures ∙ ap (λ (k : ℕ). m + k) c.len.ensures)
    ∙ (λ i. ty_put (sym (indices_at_pi c.args.indices.now n m) i) (sym (types_at_pi c.args.types.now n c.args.under.types m) i) u) in
    subst (λ w. IfOk c.pi.result (λ r. ty_of r ≡ w))
    ((λ i. syntax.Pi c.args.t.now.at ((c.in_ok-sorts-in-Pi.ensures ∙ c.as_slice-in-Pi.ensures) i) (body i))
    ∙ sym (ap (ty_put σ τ) (is_pi c.args.t.now c.in-Pi.bound c.in-Pi.bound _ _ refl c.get-in-Pi.ensures c.in-Pi.is)))
    c.pi.ensures

pub put_tree-returns-in_ok-body-in-Sigma : goal.put_tree-returns-in_ok-body-in-Sigma
put_tree-returns-in_ok-body-in-Sigma t c =
    let σ = indices_at c.args.under.indices c.args.indices.now in
    let τ = types_at c.args.under.types c.args.under.indices c.args.types.now in
    let u = ty_of c.get-in-Sigma.result.now in
    let m = c.args.under.indices in
    let n = length c.in-Sigma.bound in
    let body : ty_of c.in_ok-body-in-Sigma.body ≡ ty_put (indices_under n σ) (fates_under_index n τ) u =
    c.in_ok-body-in-Sigma.ensures ∙ ap (λ (k : ℕ). ty_put (indices_at k c.args.indices.now) (types_at c.args.under.types k c.args.types.now) u) (c.in_ok-binders-in-Sigma.ensures ∙ ap (λ (k : ℕ). m + k) c.len-in-Sigma.ensures)
    ∙ (λ i. ty_put (sym (indices_at_pi c.args.indices.now n m) i) (sym (types_at_pi c.args.types.now n c.args.under.types m) i) u) in
    subst (λ w. IfOk c.sigma.result (λ r. ty_of r ≡ w))
    ((λ i. syntax.Sigma c.args.t.now.at ((c.in_ok-sorts-in-Sigma.ensures ∙ c.as_slice-in-Sigma.ensures) i) (body i))
    ∙ sym (ap (ty_put σ τ) (is_sigma c.args.t.now c.in-Sigma.bound c.in-Sigma.bound _ _ refl c.get-in-Sigma.ensures c.in-Sigma.is)))
    c.sigma.ensures

pub put_tree-returns-in_ok-elem-in-Arr : goal.put_tree-returns-in_ok-elem-in-Arr
put_tree-returns-in_ok-elem-in-Arr t c =
    let σ = indices_at c.args.under.indices c.args.indices.now in
    let τ = types_at c.args.under.types c.args.under.indices c.args.types.now in
    subst (λ w. IfOk c.array.result (λ r. ty_of r ≡ w))
    ((λ i. syntax.Arr c.args.t.now.at (c.in_ok-elem-in-Arr.ensures i) (c.in_ok-shape-in-Arr.ensures i))
    ∙ sym (ap (ty_put σ τ) (is_arr c.args.t.now _ _ c.in-Arr.shape c.get-in-Arr.ensures c.in-Arr.is)))
    c.array.ensures

pub put_trees-loop-tree-preserved : goal.put_trees-loop-tree-preserved
put_trees-loop-tree-preserved t c =
    let σ = indices_at c.args.under.indices c.args.indices.now in
    let τ = types_at c.args.under.types c.args.under.indices c.args.types.now in
    let e : c.push.new.self.items ≡ c.loop-tree.put.items ++ c.in_ok-one.one ∷ [] = search rules in
    tys_made (ty_put σ τ) (tys_put σ τ) refl (λ u us. refl) c.args.trees.now _ _ _ c.tree-item.result c.in_ok-one.one c.loop-tree-test.true c.tree-item.is e
    c.in_ok-one.ensures c.loop-tree.invariant
