use Rattle.std.proofs.Common.{◌≡◌, ◌∙◌, refl, sym, ap, subst, ℕ, ◌+◌, ◌++◌, ◌∷◌, [], length, IfOk, rules}
use Rattle.core_syntax.specs.Syntax as syntax
use Rattle.core_syntax.specs.Refine.{ty_of}
use Rattle.core_syntax.specs.Subst.{past_n, ty_renamed, tys_renamed}
use Rattle.core_syntax.proofs.TyRows.{is_fun, is_forall, is_pi, is_sigma, is_arr}
use Rattle.type_substitution.specs.Putting.{up, moved_from}
use Rattle.type_substitution.proofs.Made.{tys_made}
use Rattle.type_substitution.proofs.Fates.{past_more}
use Rattle.type_substitution.proofs.moving.+types.Goals as goal

pub moved_type-returns-in_ok-output-in-Fun : goal.moved_type-returns-in_ok-output-in-Fun
moved_type-returns-in_ok-output-in-Fun t c =
    subst (λ u. IfOk c.function.result (λ r. ty_of r ≡ u))
    ((λ i. syntax.Fun c.args.t.now.at (c.in_ok-inputs-in-Fun.ensures i) (c.in_ok-output-in-Fun.ensures i))
    ∙ sym (ap (ty_renamed (moved_from c.args.indices.by c.args.indices.from) (moved_from c.args.types.by c.args.types.from)) (is_fun c.args.t.now _ _ _ _ c.as_slice.ensures c.get.ensures c.in-Fun.is)))
    c.function.ensures

pub moved_type-returns-in_ok-body-in-Forall : goal.moved_type-returns-in_ok-body-in-Forall
moved_type-returns-in_ok-body-in-Forall t c =
    let ρ = moved_from c.args.indices.by c.args.indices.from in
    let u = ty_of c.get-in-Forall.result.now in
    subst (λ u. IfOk c.forall.result (λ r. ty_of r ≡ u))
    (ap (syntax.Forall c.args.t.now.at c.in-Forall.n)
    (c.in_ok-body-in-Forall.ensures ∙ ap (λ (n : ℕ). ty_renamed ρ (moved_from c.args.types.by n) u) c.in_ok-more-in-Forall.ensures
    ∙ ap (λ υ. ty_renamed ρ υ u) (sym (past_more (up c.args.types.by) c.in-Forall.n c.args.types.from)))
    ∙ sym (ap (ty_renamed ρ (moved_from c.args.types.by c.args.types.from)) (is_forall c.args.t.now _ _ _ c.get-in-Forall.ensures c.in-Forall.is)))
    c.forall.ensures

pub moved_type-returns-in_ok-body-in-Pi : goal.moved_type-returns-in_ok-body-in-Pi
moved_type-returns-in_ok-body-in-Pi t c =
    let τ = moved_from c.args.types.by c.args.types.from in
    let u = ty_of c.get-in-Pi.result.now in
    let body : ty_of c.in_ok-body-in-Pi.body ≡ ty_renamed (past_n (length c.in-Pi.bound) (moved_from c.args.indices.by c.args.indices.from)) τ u =
    c.in_ok-body-in-Pi.ensures ∙ ap (λ (n : ℕ). ty_renamed (moved_from c.args.indices.by n) τ u) (c.in_ok-binders-in-Pi.ensures ∙ ap (λ (n : ℕ). c.args.indices.from + n) c.len.ensures)
    ∙ ap (λ ρ. ty_renamed ρ τ u) (sym (past_more (up c.args.indices.by) (length c.in-Pi.bound) c.args.indices.from)) in
    subst (λ w. IfOk c.pi.result (λ r. ty_of r ≡ w))
    ((λ i. syntax.Pi c.args.t.now.at ((c.in_ok-sorts-in-Pi.ensures ∙ c.as_slice-in-Pi.ensures) i) (body i))
    ∙ sym (ap (ty_renamed (moved_from c.args.indices.by c.args.indices.from) τ) (is_pi c.args.t.now c.in-Pi.bound c.in-Pi.bound _ _ refl c.get-in-Pi.ensures c.in-Pi.is)))
    c.pi.ensures

pub moved_type-returns-in_ok-body-in-Sigma : goal.moved_type-returns-in_ok-body-in-Sigma
moved_type-returns-in_ok-body-in-Sigma t c =
    let τ = moved_from c.args.types.by c.args.types.from in
    let u = ty_of c.get-in-Sigma.result.now in
    let body : ty_of c.in_ok-body-in-Sigma.body ≡ ty_renamed (past_n (length c.in-Sigma.bound) (moved_from c.args.indices.by c.args.indices.from)) τ u =
    c.in_ok-body-in-Sigma.ensures ∙ ap (λ (n : ℕ). ty_renamed (moved_from c.args.indices.by n) τ u) (c.in_ok-binders-in-Sigma.ensures ∙ ap (λ (n : ℕ). c.args.indices.from + n) c.len-in-Sigma.ensures)
    ∙ ap (λ ρ. ty_renamed ρ τ u) (sym (past_more (up c.args.indices.by) (length c.in-Sigma.bound) c.args.indices.from)) in
    subst (λ w. IfOk c.sigma.result (λ r. ty_of r ≡ w))
    ((λ i. syntax.Sigma c.args.t.now.at ((c.in_ok-sorts-in-Sigma.ensures ∙ c.as_slice-in-Sigma.ensures) i) (body i))
    ∙ sym (ap (ty_renamed (moved_from c.args.indices.by c.args.indices.from) τ) (is_sigma c.args.t.now c.in-Sigma.bound c.in-Sigma.bound _ _ refl c.get-in-Sigma.ensures c.in-Sigma.is)))
    c.sigma.ensures

pub moved_type-returns-in_ok-elem-in-Arr : goal.moved_type-returns-in_ok-elem-in-Arr
moved_type-returns-in_ok-elem-in-Arr t c =
    subst (λ u. IfOk c.array.result (λ r. ty_of r ≡ u))
    ((λ i. syntax.Arr c.args.t.now.at (c.in_ok-elem-in-Arr.ensures i) (c.in_ok-shape-in-Arr.ensures i))
    ∙ sym (ap (ty_renamed (moved_from c.args.indices.by c.args.indices.from) (moved_from c.args.types.by c.args.types.from)) (is_arr c.args.t.now _ _ c.in-Arr.shape c.get-in-Arr.ensures c.in-Arr.is)))
    c.array.ensures

pub moved_types-loop-ty-preserved : goal.moved_types-loop-ty-preserved
moved_types-loop-ty-preserved t c =
    let e : c.push.new.self.items ≡ c.loop-ty.moved.items ++ c.in_ok-one.one ∷ [] = search rules in
    let ρ = moved_from c.args.indices.by c.args.indices.from in
    let τ = moved_from c.args.types.by c.args.types.from in
    tys_made (ty_renamed ρ τ) (tys_renamed ρ τ) refl (λ u us. refl) c.args.list.now _ _ _ c.ty-item.result c.in_ok-one.one c.loop-ty-test.true c.ty-item.is e
    c.in_ok-one.ensures c.loop-ty.invariant
