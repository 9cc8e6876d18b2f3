use Rattle.std.proofs.Common.{◌≡◌, [], subst, IfOk, ◌≤◌, ◌<◌, length, arith}
use Rattle.typed_prims.proofs.ArrayRows.{no_dim, some_dim}
use Rattle.typed_prims.proofs.arrays.dim_at.Goals as goal

pub returns-then-place-indices : goal.returns-then-place-indices
returns-then-place-indices c =
    let ys = c.as_slice-indices.result.now in
    let lt : c.args.place < length ys = omega (arith, c.if-place-indices.true) in
    subst (λ m. IfOk c.dim.result (λ n. n ≡ m)) (some_dim c.args.indices.now c.in-Some.indices ys c.args.place c.index-indices-place.result c.in-Some.is c.as_slice-indices.ensures lt c.index-indices-place.is) (c.dim.ensures [])

pub returns-else-place-indices : goal.returns-else-place-indices
returns-else-place-indices c =
    let ys = c.as_slice-indices.result.now in
    let le : length ys ≤ c.args.place = omega (arith, c.if-place-indices.false) in
    no_dim c.args.indices.now c.in-Some.indices ys c.args.place c.in-Some.is c.as_slice-indices.ensures le
