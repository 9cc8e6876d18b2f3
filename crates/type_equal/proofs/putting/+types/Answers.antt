use Rattle.std.proofs.Common.{◌≡◌, ◌∙◌, refl, sym, ap, subst, ℕ, ◌+◌, ◌≤◌, ◌++◌, ◌∷◌, [], length, IfOk, arith, rules}
use Rattle.core_syntax.specs.declared.ty.TyForm.{the_lemmas}
use Rattle.core_syntax.specs.Syntax as syntax
use Rattle.core_syntax.specs.Word.{word_size}
use Rattle.core_syntax.specs.Norm.{norm_word}
use Rattle.core_syntax.specs.NormTypes.{ty_size, tys_size}
use Rattle.core_syntax.specs.Refine.{index_of, ty_of, tys_of}
use Rattle.core_syntax.specs.Subst.{indices_under, fates_under_index, ty_put, tys_put}
use Rattle.core_syntax.proofs.TyRows.{is_fun, is_forall, is_pi, is_sigma, is_arr}
use Rattle.type_equal.specs.Put.{indices_at, types_at}
use Rattle.type_equal.proofs.ListLemmas.{tys_made}
use Rattle.type_equal.proofs.FateLemmas.{types_at_forall, types_at_pi, indices_at_pi}
use Rattle.type_equal.proofs.MeasureLemmas.{size_among}
use Rattle.type_equal.proofs.putting.+types.Goals as goal

pub put_tree-put_trees-requires : goal.put_tree-put_trees-requires
put_tree-put_trees-requires t c =
    let e : ty_size (ty_of c.args.t.now) ≡ 1 + (tys_size (tys_of c.as_slice.result.now) + ty_size (ty_of c.in-Fun.output)) = ap ty_size (is_fun c.args.t.now _ _ c.in-Fun.output c.in-Fun.output c.as_slice.ensures refl c.in-Fun.is) in
    (search (rules, the_lemmas), (omega (arith, e, c.requires.few), (c.requires.types, c.requires.indices)))

pub put_tree-put_tree-requires : goal.put_tree-put_tree-requires
put_tree-put_tree-requires t c =
    let e : ty_size (ty_of c.args.t.now) ≡ 1 + (tys_size (tys_of c.as_slice.result.now) + ty_size (ty_of c.get.result.now)) = ap ty_size (is_fun c.args.t.now _ _ _ _ c.as_slice.ensures c.get.ensures c.in-Fun.is) in
    (search (rules, the_lemmas), (omega (arith, e, c.requires.few), (c.requires.types, c.requires.indices)))

pub put_tree-put_tree-requires-in-Forall : goal.put_tree-put_tree-requires-in-Forall
put_tree-put_tree-requires-in-Forall t c =
    let e : ty_size (ty_of c.args.t.now) ≡ 1 + (c.in-Forall.n + ty_size (ty_of c.get-in-Forall.result.now)) = ap ty_size (is_forall c.args.t.now _ _ _ c.get-in-Forall.ensures c.in-Forall.is) in
    (search (rules, the_lemmas), (omega (arith, e, c.requires.few), (c.requires.types, c.requires.indices)))

pub put_tree-put_tree-requires-in-Pi : goal.put_tree-put_tree-requires-in-Pi
put_tree-put_tree-requires-in-Pi t c =
    let e : ty_size (ty_of c.args.t.now) ≡ 1 + (length c.in-Pi.bound + ty_size (ty_of c.get-in-Pi.result.now)) = ap ty_size (is_pi c.args.t.now c.in-Pi.bound c.in-Pi.bound _ _ refl c.get-in-Pi.ensures c.in-Pi.is) in
    (search (rules, the_lemmas), (omega (arith, e, c.requires.few), (c.requires.types, c.requires.indices)))

pub put_tree-put_tree-requires-in-Sigma : goal.put_tree-put_tree-requires-in-Sigma
put_tree-put_tree-requires-in-Sigma t c =
    let e : ty_size (ty_of c.args.t.now) ≡ 1 + (length c.in-Sigma.bound + ty_size (ty_of c.get-in-Sigma.result.now)) = ap ty_size (is_sigma c.args.t.now c.in-Sigma.bound c.in-Sigma.bound _ _ refl c.get-in-Sigma.ensures c.in-Sigma.is) in
    (search (rules, the_lemmas), (omega (arith, e, c.requires.few), (c.requires.types, c.requires.indices)))

pub put_tree-put_tree-requires-in-Arr : goal.put_tree-put_tree-requires-in-Arr
put_tree-put_tree-requires-in-Arr t c =
    let e : ty_size (ty_of c.args.t.now) ≡ 1 + (ty_size (ty_of c.get-in-Arr.result.now) + word_size (norm_word (index_of c.in-Arr.shape))) = ap ty_size (is_arr c.args.t.now _ _ c.in-Arr.shape c.get-in-Arr.ensures c.in-Arr.is) in
    (search (rules, the_lemmas), (omega (arith, e, c.requires.few), (c.requires.types, c.requires.indices)))

pub put_tree-returns-in_ok-output-in-Fun : goal.put_tree-returns-in_ok-output-in-Fun
put_tree-returns-in_ok-output-in-Fun t c =
    let σ = indices_at c.args.under.indices c.args.indices.now in
    let τ = types_at c.args.under.types c.args.under.indices c.args.types.now in
    subst (λ w. IfOk c.function.result (λ r. ty_of r ≡ w))
    ((λ i. syntax.Fun c.args.t.now.at (c.in_ok-inputs-in-Fun.ensures i) (c.in_ok-output-in-Fun.ensures i))
    ∙ sym (ap (ty_put σ τ) (is_fun c.args.t.now _ _ _ _ c.as_slice.ensures c.get.ensures c.in-Fun.is)))
    c.function.ensures

pub put_tree-returns-in_ok-body-in-Forall : goal.put_tree-returns-in_ok-body-in-Forall
put_tree-returns-in_ok-body-in-Forall t c =
    let σ = indices_at c.args.under.indices c.args.indices.now in
    let τ = types_at c.args.under.types c.args.under.indices c.args.types.now in
    subst (λ w. IfOk c.forall.result (λ r. ty_of r ≡ w))
    (ap (syntax.Forall c.args.t.now.at c.in-Forall.n) (c.in_ok-body-in-Forall.ensures ∙ ap (λ υ. ty_put σ υ (ty_of c.get-in-Forall.result.now)) (sym (types_at_forall c.args.types.now c.in-Forall.n c.args.under.types c.args.under.indices)))
    ∙ sym (ap (ty_put σ τ) (is_forall c.args.t.now _ _ _ c.get-in-Forall.ensures c.in-Forall.is)))
    c.forall.ensures

pub put_tree-returns-in_ok-sorts-in-Pi : goal.put_tree-returns-in_ok-sorts-in-Pi
put_tree-returns-in_ok-sorts-in-Pi t c =
    let σ = indices_at c.args.under.indices c.args.indices.now in
    let τ = types_at c.args.under.types c.args.under.indices c.args.types.now in
    let u = ty_of c.get-in-Pi.result.now in
    let m = c.args.under.indices in
    let n = length c.in-Pi.bound in
    let body : ty_of c.in_ok-body-in-Pi.body ≡ ty_put (indices_under n σ) (fates_under_index n τ) u =
    c.in_ok-body-in-Pi.ensures ∙ ap (λ (k : ℕ). ty_put (indices_at (m + k) c.args.indices.now) (types_at c.args.under.types (m + k) c.args.types.now) u) c.len.ensures
    ∙ (λ i. ty_put (sym (indices_at_pi c.args.indices.now n m) i) (sym (types_at_pi c.args.types.now n c.args.under.types m) i) u) in
    subst (λ w. IfOk c.pi.result (λ r. ty_of r ≡ w))
    ((λ i. syntax.Pi c.args.t.now.at ((c.in_ok-sorts-in-Pi.ensures ∙ c.as_slice-in-Pi.ensures) i) (body i))
    ∙ sym (ap (ty_put σ τ) (is_pi c.args.t.now c.in-Pi.bound c.in-Pi.bound _ _ refl c.get-in-Pi.ensures c.in-Pi.is)))
    c.pi.ensures

pub put_tree-returns-in_ok-sorts-in-Sigma : goal.put_tree-returns-in_ok-sorts-in-Sigma
put_tree-returns-in_ok-sorts-in-Sigma t c =
    let σ = indices_at c.args.under.indices c.args.indices.now in
    let τ = types_at c.args.under.types c.args.under.indices c.args.types.now in
    let u = ty_of c.get-in-Sigma.result.now in
    let m = c.args.under.indices in
    let n = length c.in-Sigma.bound in
    let body : ty_of c.in_ok-body-in-Sigma.body ≡ ty_put (indices_under n σ) (fates_under_index n τ) u =
    c.in_ok-body-in-Sigma.ensures ∙ ap (λ (k : ℕ). ty_put (indices_at (m + k) c.args.indices.now) (types_at c.args.under.types (m + k) c.args.types.now) u) c.len-in-Sigma.ensures
    ∙ (λ i. ty_put (sym (indices_at_pi c.args.indices.now n m) i) (sym (types_at_pi c.args.types.now n c.args.under.types m) i) u) in
    subst (λ w. IfOk c.sigma.result (λ r. ty_of r ≡ w))
    ((λ i. syntax.Sigma c.args.t.now.at ((c.in_ok-sorts-in-Sigma.ensures ∙ c.as_slice-in-Sigma.ensures) i) (body i))
    ∙ sym (ap (ty_put σ τ) (is_sigma c.args.t.now c.in-Sigma.bound c.in-Sigma.bound _ _ refl c.get-in-Sigma.ensures c.in-Sigma.is)))
    c.sigma.ensures

pub put_tree-returns-in_ok-elem-in-Arr : goal.put_tree-returns-in_ok-elem-in-Arr
put_tree-returns-in_ok-elem-in-Arr t c =
    let σ = indices_at c.args.under.indices c.args.indices.now in
    let τ = types_at c.args.under.types c.args.under.indices c.args.types.now in
    subst (λ w. IfOk c.array.result (λ r. ty_of r ≡ w))
    ((λ i. syntax.Arr c.args.t.now.at (c.in_ok-elem-in-Arr.ensures i) (c.in_ok-shape-in-Arr.ensures i))
    ∙ sym (ap (ty_put σ τ) (is_arr c.args.t.now _ _ c.in-Arr.shape c.get-in-Arr.ensures c.in-Arr.is)))
    c.array.ensures

pub put_trees-put_tree-requires : goal.put_trees-put_tree-requires
put_trees-put_tree-requires t c =
    let e : ty_size (ty_of c.tree-item.result) ≤ tys_size (tys_of c.args.trees.now) = size_among c.args.trees.now _ c.tree-item.result c.loop-tree-test.true c.tree-item.is in
    (search (rules, the_lemmas), (omega (arith, e, c.requires.few), (c.requires.types, c.requires.indices)))

pub put_trees-loop-tree-preserved : goal.put_trees-loop-tree-preserved
put_trees-loop-tree-preserved t c =
    let σ = indices_at c.args.under.indices c.args.indices.now in
    let τ = types_at c.args.under.types c.args.under.indices c.args.types.now in
    let e : c.push.new.self.items ≡ c.loop-tree.put.items ++ c.in_ok-one.one ∷ [] = search rules in
    tys_made (ty_put σ τ) (tys_put σ τ) refl (λ u us. refl) c.args.trees.now _ _ _ c.tree-item.result c.in_ok-one.one c.loop-tree-test.true c.tree-item.is e
    c.in_ok-one.ensures c.loop-tree.invariant
