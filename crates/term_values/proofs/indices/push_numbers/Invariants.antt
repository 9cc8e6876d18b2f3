use Rattle.core_syntax.specs.Typed.{closed}
use Rattle.core_syntax.specs.Value.{dim_vals}
use Rattle.term_values.proofs.Pushes.{Pushing}
use Rattle.term_values.proofs.indices.push_numbers.Given as goal

abbrev pub invariant-loop-part : goal.invariant-loop-part
invariant-loop-part l = Pushing (dim_vals closed) l.fn.dims.items l.dims.items l.parts l.part-index
