use Rattle.std.proofs.Common.{◌≡◌, ◌∙◌, refl, sym, ap, ℕ, ◌+◌, ◌≤◌, length, arith, rules}
use Rattle.core_syntax.specs.declared.ty.TyForm.{the_lemmas}
use Rattle.core_syntax.specs.Word.{word_size}
use Rattle.core_syntax.specs.Norm.{norm_word}
use Rattle.core_syntax.specs.NormTypes.{ty_size, tys_size}
use Rattle.core_syntax.specs.Refine.{index_of, ty_of, tys_of}
use Rattle.core_syntax.specs.Subst.{put_all}
use Rattle.core_syntax.proofs.TyRows.{is_fun, is_forall, is_pi, is_sigma, is_arr}
use Rattle.type_equal.specs.Counted.{as_it_is, counts_of, put_under, put_large, put_large_ty, put_large_tys}
use Rattle.type_equal.proofs.FateLemmas.{under_more}
use Rattle.type_equal.proofs.MeasureLemmas.{or_true, or_false, size_among}
use Rattle.type_equal.proofs.counting.+large_types.Goals as goal

pub has_large_in-have_large_in-requires : goal.has_large_in-have_large_in-requires
has_large_in-have_large_in-requires t c =
    let e : ty_size (ty_of c.args.t.now) ≡ 1 + (tys_size (tys_of c.as_slice.result.now) + ty_size (ty_of c.in-Fun.output)) = ap ty_size (is_fun c.args.t.now _ _ c.in-Fun.output c.in-Fun.output c.as_slice.ensures refl c.in-Fun.is) in
    (search (rules, the_lemmas), omega (arith, e, c.requires))

pub has_large_in-has_large_in-requires : goal.has_large_in-has_large_in-requires
has_large_in-has_large_in-requires t c =
    let e : ty_size (ty_of c.args.t.now) ≡ 1 + (tys_size (tys_of c.as_slice.result.now) + ty_size (ty_of c.get.result.now)) = ap ty_size (is_fun c.args.t.now _ _ _ _ c.as_slice.ensures c.get.ensures c.in-Fun.is) in
    (search (rules, the_lemmas), omega (arith, e, c.requires))

pub has_large_in-has_large_in-requires-in-Forall : goal.has_large_in-has_large_in-requires-in-Forall
has_large_in-has_large_in-requires-in-Forall t c =
    let e : ty_size (ty_of c.args.t.now) ≡ 1 + (c.in-Forall.field-0 + ty_size (ty_of c.get-in-Forall.result.now)) = ap ty_size (is_forall c.args.t.now _ _ _ c.get-in-Forall.ensures c.in-Forall.is) in
    (search (rules, the_lemmas), omega (arith, e, c.requires))

pub has_large_in-has_large_in-requires-in-Pi : goal.has_large_in-has_large_in-requires-in-Pi
has_large_in-has_large_in-requires-in-Pi t c =
    let e : ty_size (ty_of c.args.t.now) ≡ 1 + (length c.in-Pi.bound + ty_size (ty_of c.get-in-Pi.result.now)) = ap ty_size (is_pi c.args.t.now c.in-Pi.bound c.in-Pi.bound _ _ refl c.get-in-Pi.ensures c.in-Pi.is) in
    (search (rules, the_lemmas), omega (arith, e, c.requires))

pub has_large_in-has_large_in-requires-in-Sigma : goal.has_large_in-has_large_in-requires-in-Sigma
has_large_in-has_large_in-requires-in-Sigma t c =
    let e : ty_size (ty_of c.args.t.now) ≡ 1 + (length c.in-Sigma.bound + ty_size (ty_of c.get-in-Sigma.result.now)) = ap ty_size (is_sigma c.args.t.now c.in-Sigma.bound c.in-Sigma.bound _ _ refl c.get-in-Sigma.ensures c.in-Sigma.is) in
    (search (rules, the_lemmas), omega (arith, e, c.requires))

pub has_large_in-has_large_in-requires-in-Arr : goal.has_large_in-has_large_in-requires-in-Arr
has_large_in-has_large_in-requires-in-Arr t c =
    let e : ty_size (ty_of c.args.t.now) ≡ 1 + (ty_size (ty_of c.get-in-Arr.result.now) + word_size (norm_word (index_of c.in-Arr.shape))) = ap ty_size (is_arr c.args.t.now _ _ c.in-Arr.shape c.get-in-Arr.ensures c.in-Arr.is) in
    (search (rules, the_lemmas), omega (arith, e, c.requires))

pub have_large_in-has_large_in-requires : goal.have_large_in-has_large_in-requires
have_large_in-has_large_in-requires t c =
    let e : ty_size (ty_of c.ty-item.result) ≤ tys_size (tys_of c.args.types.now) = size_among c.args.types.now _ c.ty-item.result c.loop-ty-test.true c.ty-item.is in
    (search (rules, the_lemmas), omega (arith, e, c.requires))

pub has_large_in-returns-then-have_large_in : goal.has_large_in-returns-then-have_large_in
has_large_in-returns-then-have_large_in t c =
    let σ = put_under c.args.under c.args.counts.now in
    c.if-have_large_in.true ∙ or_true (put_large_tys σ (tys_of c.as_slice.result.now)) (put_large_ty σ (ty_of c.in-Fun.output)) (sym c.have_large_in.ensures ∙ c.if-have_large_in.true)
    ∙ sym (ap (put_large_ty σ) (is_fun c.args.t.now _ _ c.in-Fun.output c.in-Fun.output c.as_slice.ensures refl c.in-Fun.is))

pub has_large_in-returns-else-have_large_in : goal.has_large_in-returns-else-have_large_in
has_large_in-returns-else-have_large_in t c =
    let σ = put_under c.args.under c.args.counts.now in
    c.has_large_in.ensures ∙ or_false (put_large_tys σ (tys_of c.as_slice.result.now)) (put_large_ty σ (ty_of c.get.result.now)) (sym c.have_large_in.ensures ∙ c.if-have_large_in.false)
    ∙ sym (ap (put_large_ty σ) (is_fun c.args.t.now _ _ _ _ c.as_slice.ensures c.get.ensures c.in-Fun.is))

pub has_large_in-returns-in-Forall : goal.has_large_in-returns-in-Forall
has_large_in-returns-in-Forall t c = c.has_large_in-in-Forall.ensures ∙ sym (ap (put_large_ty (put_under c.args.under c.args.counts.now)) (is_forall c.args.t.now _ _ _ c.get-in-Forall.ensures c.in-Forall.is))

pub has_large_in-returns-in-Pi : goal.has_large_in-returns-in-Pi
has_large_in-returns-in-Pi t c =
    let σ = put_under c.args.under c.args.counts.now in
    let u = ty_of c.get-in-Pi.result.now in
    c.has_large_in-in-Pi.ensures ∙ ap (λ (k : ℕ). put_large_ty (put_under (c.args.under + k) c.args.counts.now) u) c.len.ensures
    ∙ ap (λ υ. put_large_ty υ u) (sym (under_more as_it_is (length c.in-Pi.bound) c.args.under (put_all c.args.counts.now)))
    ∙ sym (ap (put_large_ty σ) (is_pi c.args.t.now c.in-Pi.bound c.in-Pi.bound _ _ refl c.get-in-Pi.ensures c.in-Pi.is))

pub has_large_in-returns-in-Sigma : goal.has_large_in-returns-in-Sigma
has_large_in-returns-in-Sigma t c =
    let σ = put_under c.args.under c.args.counts.now in
    let u = ty_of c.get-in-Sigma.result.now in
    c.has_large_in-in-Sigma.ensures ∙ ap (λ (k : ℕ). put_large_ty (put_under (c.args.under + k) c.args.counts.now) u) c.len-in-Sigma.ensures
    ∙ ap (λ υ. put_large_ty υ u) (sym (under_more as_it_is (length c.in-Sigma.bound) c.args.under (put_all c.args.counts.now)))
    ∙ sym (ap (put_large_ty σ) (is_sigma c.args.t.now c.in-Sigma.bound c.in-Sigma.bound _ _ refl c.get-in-Sigma.ensures c.in-Sigma.is))

pub has_large_in-returns-then-has_large_in : goal.has_large_in-returns-then-has_large_in
has_large_in-returns-then-has_large_in t c =
    let σ = put_under c.args.under c.args.counts.now in
    c.if-has_large_in.true ∙ or_true (put_large_ty σ (ty_of c.get-in-Arr.result.now)) (put_large (counts_of σ) (index_of c.in-Arr.shape)) (sym c.has_large_in-in-Arr.ensures ∙ c.if-has_large_in.true)
    ∙ sym (ap (put_large_ty σ) (is_arr c.args.t.now _ _ c.in-Arr.shape c.get-in-Arr.ensures c.in-Arr.is))

pub has_large_in-returns-else-has_large_in : goal.has_large_in-returns-else-has_large_in
has_large_in-returns-else-has_large_in t c =
    let σ = put_under c.args.under c.args.counts.now in
    c.is_large_in.ensures ∙ or_false (put_large_ty σ (ty_of c.get-in-Arr.result.now)) (put_large (counts_of σ) (index_of c.in-Arr.shape)) (sym c.has_large_in-in-Arr.ensures ∙ c.if-has_large_in.false)
    ∙ sym (ap (put_large_ty σ) (is_arr c.args.t.now _ _ c.in-Arr.shape c.get-in-Arr.ensures c.in-Arr.is))
