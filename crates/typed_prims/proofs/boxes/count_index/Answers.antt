use Rattle.std.proofs.Common.{◌∙◌, ap, [], ◌∷◌}
use Rattle.std.proofs.lemmas.Result.{IfOk-weaker}
use Rattle.core_syntax.specs.Lists.{each}
use Rattle.core_syntax.specs.Refine.{index_of}
use Rattle.core_syntax.specs.Syntax.{Num, no_span}
use Rattle.typed_prims.proofs.boxes.count_index.Goals as goal

pub returns : goal.returns
returns c = IfOk-weaker c.one_index.result _ _ (λ is e. ap (each index_of) e ∙ ap (λ n. Num no_span n ∷ []) c.from.ensures) c.one_index.ensures
