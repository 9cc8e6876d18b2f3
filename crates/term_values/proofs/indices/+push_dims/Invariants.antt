use Rattle.core_syntax.specs.Typed.{closed}
use Rattle.core_syntax.specs.Value.{shape_join}
use Rattle.term_values.proofs.Pushes.{Pushing}
use Rattle.term_values.proofs.indices.+push_dims.Given as goal

abbrev pub invariant-push_all-loop-part : goal.invariant-push_all-loop-part
invariant-push_all-loop-part l = Pushing (shape_join closed) l.fn.dims.items l.dims.items l.parts l.part-index
