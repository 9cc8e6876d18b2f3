use Rattle.std.proofs.Common.{◌∙◌, ◌≤◌, ◌*◌, ap, min, arith}
use Rattle.core_syntax.specs.Lists.{product}
use Rattle.prim_kernels.proofs.ArrayCuts.{extent_is}
use Rattle.typed_prims.proofs.answer.extent.Goals as goal

pub returns : goal.returns
returns c =
    let p = product c.args.cell.now in
    let most : c.args.most ≤ 18446744073709551615 = omega (arith, c.ranges.most.fits) in
    c.min.ensures ∙ ap (λ k. min k c.args.most) c.saturating_mul.ensures ∙ ap (λ s. min (min (c.args.cells * s) 18446744073709551615) c.args.most) c.size.ensures
    ∙ extent_is c.args.cells p 18446744073709551615 c.args.most most
