use Rattle.array_values.specs.Data.{index_data}
use Rattle.core_syntax.specs.Refine.{index_of}
use Rattle.core_syntax.specs.Typed.{value_index}
use Rattle.typed_start.proofs.ValueArrays.{Matched}
use Rattle.typed_start.proofs.inputs.indices.Given as goal

abbrev pub invariant-loop-value : goal.invariant-loop-value
invariant-loop-value l = Matched index_of (λ v. value_index (index_data v)) l.indices.items l.values l.value-index
