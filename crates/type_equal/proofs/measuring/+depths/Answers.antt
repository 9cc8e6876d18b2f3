use Rattle.std.proofs.Common.{◌≡◌, refl, ap, ◌+◌, max, drop, arith}
use Rattle.core_syntax.specs.Refine.{ty_of, tys_of}
use Rattle.core_syntax.proofs.TyRows.{is_fun, is_forall, is_pi, is_sigma, is_arr}
use Rattle.std.proofs.lemmas.List.{drop_all}
use Rattle.core_syntax.specs.NormTypes.{ty_depth, tys_depth}
use Rattle.type_equal.proofs.measuring.+depths.Goals as goal

pub depth-returns-in-Fun : goal.depth-returns-in-Fun
depth-returns-in-Fun t c =
    let e : ty_depth (ty_of c.args.t.now) ≡ 1 + max (tys_depth (tys_of c.as_slice.result.now)) (ty_depth (ty_of c.get.result.now)) = ap ty_depth (is_fun c.args.t.now _ _ _ _ c.as_slice.ensures c.get.ensures c.in-Fun.is) in
    omega (arith, e)

pub depth-returns-in-Forall : goal.depth-returns-in-Forall
depth-returns-in-Forall t c =
    let e : ty_depth (ty_of c.args.t.now) ≡ 1 + ty_depth (ty_of c.get-in-Forall.result.now) = ap ty_depth (is_forall c.args.t.now _ _ _ c.get-in-Forall.ensures c.in-Forall.is) in
    omega (arith, e)

pub depth-returns-in-Pi : goal.depth-returns-in-Pi
depth-returns-in-Pi t c =
    let e : ty_depth (ty_of c.args.t.now) ≡ 1 + ty_depth (ty_of c.get-in-Pi.result.now) = ap ty_depth (is_pi c.args.t.now c.in-Pi.field-0 c.in-Pi.field-0 _ _ refl c.get-in-Pi.ensures c.in-Pi.is) in
    omega (arith, e)

pub depth-returns-in-Sigma : goal.depth-returns-in-Sigma
depth-returns-in-Sigma t c =
    let e : ty_depth (ty_of c.args.t.now) ≡ 1 + ty_depth (ty_of c.get-in-Sigma.result.now) = ap ty_depth (is_sigma c.args.t.now c.in-Sigma.field-0 c.in-Sigma.field-0 _ _ refl c.get-in-Sigma.ensures c.in-Sigma.is) in
    omega (arith, e)

pub depth-returns-in-Arr : goal.depth-returns-in-Arr
depth-returns-in-Arr t c =
    let e : ty_depth (ty_of c.args.t.now) ≡ 1 + ty_depth (ty_of c.get-in-Arr.result.now) = ap ty_depth (is_arr c.args.t.now _ _ c.in-Arr.field-1 c.get-in-Arr.ensures c.in-Arr.is) in
    omega (arith, e)

pub greatest_depth-returns : goal.greatest_depth-returns
greatest_depth-returns t c =
    let e : tys_depth (tys_of (drop c.loop-ty.ty-index c.args.types.now)) ≡ 0 = ap (λ l. tys_depth (tys_of l)) (drop_all c.loop-ty.ty-index c.args.types.now c.loop-ty-test.false) in
    omega (arith, e)
