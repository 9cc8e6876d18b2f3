use Rattle.std.proofs.Common.{ap, ◌∙◌, min, ◌*◌, ◌^◌, ◌-◌}
use Rattle.name_resolve.proofs.DimLemmas.{product_step, product_end}
use Rattle.name_resolve.proofs.dims.saturated_product.Goals as goal

pub loop-number-preserved : goal.loop-number-preserved
loop-number-preserved c = product_step c.args.numbers.now c.loop-number.number-index 0 c.loop-number.product _ c.loop-number-test.true c.loop-number.invariant
    (c.saturating_mul-product.ensures ∙ ap (λ n. min (c.loop-number.product * n) (2 ^ 64 - 1)) c.from.ensures)

pub returns : goal.returns
returns c = product_end c.args.numbers.now c.loop-number.number-index c.loop-number.product c.loop-number-test.false c.loop-number.invariant
