use Rattle.std.proofs.Common.{◌≡◌, ◌∙◌, refl, sym, ap, ℕ, ◌+◌, ◌≤◌, length, arith, rules}
use Rattle.core_syntax.specs.declared.ty.TyForm.{the_lemmas}
use Rattle.core_syntax.specs.Word.{word_size}
use Rattle.core_syntax.specs.Norm.{norm_word}
use Rattle.core_syntax.specs.NormTypes.{ty_size, tys_size}
use Rattle.core_syntax.specs.Refine.{index_of, ty_of, tys_of}
use Rattle.core_syntax.specs.Subst.{put_all}
use Rattle.core_syntax.proofs.TyRows.{is_fun, is_forall, is_pi, is_sigma, is_arr}
use Rattle.type_equal.specs.Counted.{as_it_is, counts_of, put_under, put_letters, put_size, put_sizes}
use Rattle.type_equal.proofs.FateLemmas.{under_more}
use Rattle.type_equal.proofs.MeasureLemmas.{size_among}
use Rattle.type_equal.proofs.counting.+sizes.Goals as goal

pub size_in-sizes_in-requires : goal.size_in-sizes_in-requires
size_in-sizes_in-requires t c =
    let e : ty_size (ty_of c.args.t.now) ≡ 1 + (tys_size (tys_of c.as_slice.result.now) + ty_size (ty_of c.in-Fun.output)) = ap ty_size (is_fun c.args.t.now _ _ c.in-Fun.output c.in-Fun.output c.as_slice.ensures refl c.in-Fun.is) in
    (search (rules, the_lemmas), omega (arith, e, c.requires))

pub size_in-size_in-requires : goal.size_in-size_in-requires
size_in-size_in-requires t c =
    let e : ty_size (ty_of c.args.t.now) ≡ 1 + (tys_size (tys_of c.as_slice.result.now) + ty_size (ty_of c.get.result.now)) = ap ty_size (is_fun c.args.t.now _ _ _ _ c.as_slice.ensures c.get.ensures c.in-Fun.is) in
    (search (rules, the_lemmas), omega (arith, e, c.requires))

pub size_in-size_in-requires-in-Forall : goal.size_in-size_in-requires-in-Forall
size_in-size_in-requires-in-Forall t c =
    let e : ty_size (ty_of c.args.t.now) ≡ 1 + (c.in-Forall.n + ty_size (ty_of c.get-in-Forall.result.now)) = ap ty_size (is_forall c.args.t.now _ _ _ c.get-in-Forall.ensures c.in-Forall.is) in
    (search (rules, the_lemmas), omega (arith, e, c.requires))

pub size_in-size_in-requires-in-Pi : goal.size_in-size_in-requires-in-Pi
size_in-size_in-requires-in-Pi t c =
    let e : ty_size (ty_of c.args.t.now) ≡ 1 + (length c.in-Pi.bound + ty_size (ty_of c.get-in-Pi.result.now)) = ap ty_size (is_pi c.args.t.now c.in-Pi.bound c.in-Pi.bound _ _ refl c.get-in-Pi.ensures c.in-Pi.is) in
    (search (rules, the_lemmas), omega (arith, e, c.requires))

pub size_in-size_in-requires-in-Sigma : goal.size_in-size_in-requires-in-Sigma
size_in-size_in-requires-in-Sigma t c =
    let e : ty_size (ty_of c.args.t.now) ≡ 1 + (length c.in-Sigma.bound + ty_size (ty_of c.get-in-Sigma.result.now)) = ap ty_size (is_sigma c.args.t.now c.in-Sigma.bound c.in-Sigma.bound _ _ refl c.get-in-Sigma.ensures c.in-Sigma.is) in
    (search (rules, the_lemmas), omega (arith, e, c.requires))

pub size_in-size_in-requires-in-Arr : goal.size_in-size_in-requires-in-Arr
size_in-size_in-requires-in-Arr t c =
    let e : ty_size (ty_of c.args.t.now) ≡ 1 + (ty_size (ty_of c.get-in-Arr.result.now) + word_size (norm_word (index_of c.in-Arr.shape))) = ap ty_size (is_arr c.args.t.now _ _ c.in-Arr.shape c.get-in-Arr.ensures c.in-Arr.is) in
    (search (rules, the_lemmas), omega (arith, e, c.requires))

pub sizes_in-size_in-requires : goal.sizes_in-size_in-requires
sizes_in-size_in-requires t c =
    let e : ty_size (ty_of c.ty-item.result) ≤ tys_size (tys_of c.args.types.now) = size_among c.args.types.now _ c.ty-item.result c.loop-ty-test.true c.ty-item.is in
    (search (rules, the_lemmas), omega (arith, e, c.requires))

pub size_in-returns-in-Fun : goal.size_in-returns-in-Fun
size_in-returns-in-Fun t c =
    let τ = put_under c.args.under.types c.args.sizes.now in
    let σ = put_under c.args.under.indices c.args.counts.now in
    let e : put_size τ σ (ty_of c.args.t.now) ≡ 1 + (put_sizes τ σ (tys_of c.as_slice.result.now) + put_size τ σ (ty_of c.get.result.now)) = ap (put_size τ σ) (is_fun c.args.t.now _ _ _ _ c.as_slice.ensures c.get.ensures c.in-Fun.is) in
    omega (arith, e)

pub size_in-returns-in-Forall : goal.size_in-returns-in-Forall
size_in-returns-in-Forall t c =
    let τ = put_under c.args.under.types c.args.sizes.now in
    let σ = put_under c.args.under.indices c.args.counts.now in
    let u = ty_of c.get-in-Forall.result.now in
    let e : put_size τ σ (ty_of c.args.t.now) ≡ 1 + (c.in-Forall.n + put_size (put_under (c.args.under.types + c.in-Forall.n) c.args.sizes.now) σ u) =
    ap (put_size τ σ) (is_forall c.args.t.now _ _ _ c.get-in-Forall.ensures c.in-Forall.is)
    ∙ ap (λ υ. 1 + (c.in-Forall.n + put_size υ σ u)) (under_more as_it_is c.in-Forall.n c.args.under.types (put_all c.args.sizes.now)) in
    omega (arith, e)

pub size_in-returns-in-Pi : goal.size_in-returns-in-Pi
size_in-returns-in-Pi t c =
    let τ = put_under c.args.under.types c.args.sizes.now in
    let σ = put_under c.args.under.indices c.args.counts.now in
    let u = ty_of c.get-in-Pi.result.now in
    let n = length c.in-Pi.bound in
    let e : put_size τ σ (ty_of c.args.t.now) ≡ 1 + (n + put_size τ (put_under (c.args.under.indices + c.len.result) c.args.counts.now) u) =
    ap (put_size τ σ) (is_pi c.args.t.now c.in-Pi.bound c.in-Pi.bound _ _ refl c.get-in-Pi.ensures c.in-Pi.is)
    ∙ ap (λ υ. 1 + (n + put_size τ υ u)) (under_more as_it_is n c.args.under.indices (put_all c.args.counts.now))
    ∙ ap (λ (k : ℕ). 1 + (n + put_size τ (put_under (c.args.under.indices + k) c.args.counts.now) u)) (sym c.len.ensures) in
    omega (arith, e)

pub size_in-returns-in-Sigma : goal.size_in-returns-in-Sigma
size_in-returns-in-Sigma t c =
    let τ = put_under c.args.under.types c.args.sizes.now in
    let σ = put_under c.args.under.indices c.args.counts.now in
    let u = ty_of c.get-in-Sigma.result.now in
    let n = length c.in-Sigma.bound in
    let e : put_size τ σ (ty_of c.args.t.now) ≡ 1 + (n + put_size τ (put_under (c.args.under.indices + c.len-in-Sigma.result) c.args.counts.now) u) =
    ap (put_size τ σ) (is_sigma c.args.t.now c.in-Sigma.bound c.in-Sigma.bound _ _ refl c.get-in-Sigma.ensures c.in-Sigma.is)
    ∙ ap (λ υ. 1 + (n + put_size τ υ u)) (under_more as_it_is n c.args.under.indices (put_all c.args.counts.now))
    ∙ ap (λ (k : ℕ). 1 + (n + put_size τ (put_under (c.args.under.indices + k) c.args.counts.now) u)) (sym c.len-in-Sigma.ensures) in
    omega (arith, e)

pub size_in-returns-in-Arr : goal.size_in-returns-in-Arr
size_in-returns-in-Arr t c =
    let τ = put_under c.args.under.types c.args.sizes.now in
    let σ = put_under c.args.under.indices c.args.counts.now in
    let e : put_size τ σ (ty_of c.args.t.now) ≡ 1 + (put_size τ σ (ty_of c.get-in-Arr.result.now) + (1 + put_letters (counts_of σ) (index_of c.in-Arr.shape))) = ap (put_size τ σ) (is_arr c.args.t.now _ _ c.in-Arr.shape c.get-in-Arr.ensures c.in-Arr.is) in
    omega (arith, e)
