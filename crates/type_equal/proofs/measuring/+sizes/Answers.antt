use Rattle.std.proofs.Common.{◌≡◌, refl, ap, ◌+◌, length, drop, arith}
use Rattle.core_syntax.specs.Refine.{index_of, ty_of, tys_of}
use Rattle.core_syntax.proofs.TyRows.{is_fun, is_forall, is_pi, is_sigma, is_arr}
use Rattle.std.proofs.lemmas.List.{drop_all}
use Rattle.core_syntax.specs.Word.{letters_size}
use Rattle.core_syntax.specs.Norm.{norm_word}
use Rattle.core_syntax.specs.NormTypes.{ty_size, tys_size}
use Rattle.type_equal.proofs.measuring.+sizes.Goals as goal

pub size-returns-in-Fun : goal.size-returns-in-Fun
size-returns-in-Fun t c =
    let e : ty_size (ty_of c.args.t.now) ≡ 1 + (tys_size (tys_of c.as_slice.result.now) + ty_size (ty_of c.get.result.now)) = ap ty_size (is_fun c.args.t.now _ _ _ _ c.as_slice.ensures c.get.ensures c.in-Fun.is) in
    omega (arith, e)

pub size-returns-in-Forall : goal.size-returns-in-Forall
size-returns-in-Forall t c =
    let e : ty_size (ty_of c.args.t.now) ≡ 1 + (c.in-Forall.n + ty_size (ty_of c.get-in-Forall.result.now)) = ap ty_size (is_forall c.args.t.now _ _ _ c.get-in-Forall.ensures c.in-Forall.is) in
    omega (arith, e)

pub size-returns-in-Pi : goal.size-returns-in-Pi
size-returns-in-Pi t c =
    let e : ty_size (ty_of c.args.t.now) ≡ 1 + (length c.in-Pi.sorts + ty_size (ty_of c.get-in-Pi.result.now)) = ap ty_size (is_pi c.args.t.now c.in-Pi.sorts c.in-Pi.sorts _ _ refl c.get-in-Pi.ensures c.in-Pi.is) in
    omega (arith, e)

pub size-returns-in-Sigma : goal.size-returns-in-Sigma
size-returns-in-Sigma t c =
    let e : ty_size (ty_of c.args.t.now) ≡ 1 + (length c.in-Sigma.sorts + ty_size (ty_of c.get-in-Sigma.result.now)) = ap ty_size (is_sigma c.args.t.now c.in-Sigma.sorts c.in-Sigma.sorts _ _ refl c.get-in-Sigma.ensures c.in-Sigma.is) in
    omega (arith, e)

pub size-returns-in-Arr : goal.size-returns-in-Arr
size-returns-in-Arr t c =
    let e : ty_size (ty_of c.args.t.now) ≡ 1 + (ty_size (ty_of c.get-in-Arr.result.now) + (1 + letters_size (norm_word (index_of c.in-Arr.shape)))) = ap ty_size (is_arr c.args.t.now _ _ c.in-Arr.shape c.get-in-Arr.ensures c.in-Arr.is) in
    omega (arith, e)

pub total_size-returns : goal.total_size-returns
total_size-returns t c =
    let e : tys_size (tys_of (drop c.loop-ty.ty-index c.args.types.now)) ≡ 0 = ap (λ l. tys_size (tys_of l)) (drop_all c.loop-ty.ty-index c.args.types.now c.loop-ty-test.false) in
    omega (arith, e)
