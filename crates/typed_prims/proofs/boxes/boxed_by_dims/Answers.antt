use Rattle.std.proofs.Common.{◌∙◌, ap, [], ◌∷◌}
use Rattle.core_syntax.specs.Terms.{ShapeValue}
use Rattle.core_syntax.specs.Typed.{value_index}
use Rattle.typed_prims.proofs.boxes.boxed_by_dims.Goals as goal

pub returns-in-Ok : goal.returns-in-Ok
returns-in-Ok c = c.boxed.ensures (ShapeValue c.args.dims) (c.in-Ok.ensures ∙ ap (λ ds. value_index (ShapeValue ds) ∷ []) c.as_slice.ensures)
