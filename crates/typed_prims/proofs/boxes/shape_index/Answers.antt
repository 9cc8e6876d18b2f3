use Rattle.std.proofs.Common.{◌∙◌, ap, [], ◌∷◌}
use Rattle.std.proofs.lemmas.Result.{IfOk-weaker}
use Rattle.core_syntax.specs.Lists.{each}
use Rattle.core_syntax.specs.Refine.{index_of}
use Rattle.typed_prims.proofs.boxes.shape_index.Goals as goal

pub returns-in-Ok : goal.returns-in-Ok
returns-in-Ok c = IfOk-weaker c.one_index.result _ _ (λ is e. ap (each index_of) e ∙ ap (λ i. i ∷ []) c.in-Ok.ensures) c.one_index.ensures
