use Rattle.std.proofs.Common.{◌∙◌, sym, ap, [], ◌∷◌, arith}
use Rattle.core_syntax.specs.Delta.{number_at}
use Rattle.array_values.specs.Envs.{index_data}
use Rattle.prim_kernels.proofs.IndexPlaces.{number_past, number_found}
use Rattle.prim_kernels.proofs.kernels.dim_at.Goals as goal

pub returns-then-place-indices : goal.returns-then-place-indices
returns-then-place-indices c = number_past c.args.indices.now c.args.place (omega (arith, c.if-place-indices.true))

pub returns-in-Dim : goal.returns-in-Dim
returns-in-Dim c =
    ap (λ x. number_at (index_data x ∷ []) 0) (sym c.in-Dim.is ∙ c.get.ensures)
    ∙ number_found c.args.indices.now c.args.place c.index-indices-place.result (omega (arith, c.if-place-indices.false)) c.index-indices-place.is

pub returns-in-Shape : goal.returns-in-Shape
returns-in-Shape c =
    ap (λ x. number_at (index_data x ∷ []) 0) (sym c.in-Shape.is ∙ c.get.ensures)
    ∙ number_found c.args.indices.now c.args.place c.index-indices-place.result (omega (arith, c.if-place-indices.false)) c.index-indices-place.is
