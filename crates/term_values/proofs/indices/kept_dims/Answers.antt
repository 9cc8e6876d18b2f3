use Rattle.std.proofs.Common.{◌<◌, ◌^◌, arith}
use Rattle.std.proofs.lemmas.List.Elements.{All-from_get_or}
use Rattle.core_syntax.specs.Refine.{index_of}
use Rattle.term_values.proofs.Kepts.{kept_shape}
use Rattle.term_values.proofs.indices.kept_dims.Goals as goal

pub returns : goal.returns
returns c =
    kept_shape c.args.dims.now (index_of c.in_ok-index.index) (All-from_get_or (λ d. d < 2 ^ 32) c.args.dims.now 0 (λ i h. omega (arith, c.type_inv.dims i))) c.if-dims-gt-MOST_DIMS.false c.in_ok-index.ensures
