use Rattle.std.proofs.Common.{◌≡◌, refl, sym, ap, subst, ◌∙◌, ◌++◌, ◌∷◌, [], IfOk, rules}
use Rattle.core_syntax.specs.Refine.{ty_of}
use Rattle.core_syntax.specs.Syntax as syntax
use Rattle.core_syntax.specs.NormTypes.{norm_ty, norm_tys}
use Rattle.core_syntax.proofs.TyRows.{is_fun, is_forall, is_pi, is_sigma, is_arr}
use Rattle.type_equal.proofs.ListLemmas.{tys_made}
use Rattle.type_equal.proofs.normalize.+normalize.Goals as goal

pub normal_tree-returns-in_ok-output-in-Fun : goal.normal_tree-returns-in_ok-output-in-Fun
normal_tree-returns-in_ok-output-in-Fun t c =
    subst (λ u. IfOk c.function.result (λ r. ty_of r ≡ u))
    ((λ i. syntax.Fun syntax.no_span (c.in_ok-inputs-in-Fun.ensures i) (c.in_ok-output-in-Fun.ensures i))
    ∙ sym (ap norm_ty (is_fun c.args.t.now _ _ _ _ c.as_slice.ensures c.get.ensures c.in-Fun.is)))
    c.function.ensures

pub normal_tree-returns-in_ok-body-in-Forall : goal.normal_tree-returns-in_ok-body-in-Forall
normal_tree-returns-in_ok-body-in-Forall t c =
    subst (λ u. IfOk c.forall.result (λ r. ty_of r ≡ u))
    ((λ i. syntax.Forall syntax.no_span c.in-Forall.n (c.in_ok-body-in-Forall.ensures i))
    ∙ sym (ap norm_ty (is_forall c.args.t.now _ _ _ c.get-in-Forall.ensures c.in-Forall.is)))
    c.forall.ensures

pub normal_tree-returns-in_ok-body-in-Pi : goal.normal_tree-returns-in_ok-body-in-Pi
normal_tree-returns-in_ok-body-in-Pi t c =
    subst (λ u. IfOk c.pi.result (λ r. ty_of r ≡ u))
    ((λ i. syntax.Pi syntax.no_span (c.in_ok-bound-in-Pi.ensures i) (c.in_ok-body-in-Pi.ensures i))
    ∙ sym (ap norm_ty (is_pi c.args.t.now _ _ _ _ c.as_slice-in-Pi.ensures c.get-in-Pi.ensures c.in-Pi.is)))
    c.pi.ensures

pub normal_tree-returns-in_ok-body-in-Sigma : goal.normal_tree-returns-in_ok-body-in-Sigma
normal_tree-returns-in_ok-body-in-Sigma t c =
    subst (λ u. IfOk c.sigma.result (λ r. ty_of r ≡ u))
    ((λ i. syntax.Sigma syntax.no_span (c.in_ok-bound-in-Sigma.ensures i) (c.in_ok-body-in-Sigma.ensures i))
    ∙ sym (ap norm_ty (is_sigma c.args.t.now _ _ _ _ c.as_slice-in-Sigma.ensures c.get-in-Sigma.ensures c.in-Sigma.is)))
    c.sigma.ensures

pub normal_tree-returns-in_ok-elem-in-Arr : goal.normal_tree-returns-in_ok-elem-in-Arr
normal_tree-returns-in_ok-elem-in-Arr t c =
    subst (λ u. IfOk c.array.result (λ r. ty_of r ≡ u))
    ((λ i. syntax.Arr syntax.no_span (c.in_ok-elem-in-Arr.ensures i) (c.in_ok-shape-in-Arr.ensures i))
    ∙ sym (ap norm_ty (is_arr c.args.t.now _ _ c.in-Arr.shape c.get-in-Arr.ensures c.in-Arr.is)))
    c.array.ensures

pub normal_trees-loop-ty-preserved : goal.normal_trees-loop-ty-preserved
normal_trees-loop-ty-preserved t c =
    let e : c.push.new.self.items ≡ c.loop-ty.trees.items ++ c.in_ok-tree.tree ∷ [] = search rules in
    tys_made norm_ty norm_tys refl (λ t ts. refl) c.args.types.now _ _ _ c.ty-item.result c.in_ok-tree.tree c.loop-ty-test.true c.ty-item.is e c.in_ok-tree.ensures c.loop-ty.invariant
