use Rattle.array_values.specs.Data.{index_data}
use Rattle.core_syntax.specs.Refine.{index_of}
use Rattle.core_syntax.specs.Typed.{closed_value}
use Rattle.typed_start.proofs.ValueArrays.{Matched}
use Rattle.typed_step.proofs.valued.indices_of.Given as goal

abbrev pub invariant-loop-index : goal.invariant-loop-index
invariant-loop-index l = Matched index_data (λ i. closed_value (index_of i)) l.values.items l.indices l.index-index
