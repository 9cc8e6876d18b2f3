use Rattle.std.proofs.Common.{◌<◌, ◌^◌, arith}
use Rattle.term_values.proofs.Products.{meets}
use Rattle.std.proofs.lemmas.List.Elements.{All-from_get_or}
use Rattle.term_values.proofs.values.forms.Goals as goal

pub returns-then-dims-le-MOST_DIMS : goal.returns-then-dims-le-MOST_DIMS
returns-then-dims-le-MOST_DIMS c =
    meets c.args.dims.now c.count.result (All-from_get_or (λ d. d < 2 ^ 32) c.args.dims.now 0 (λ i h. omega (arith, c.type_inv.dims i))) c.if-dims-le-MOST_DIMS.true c.count.ensures
