use Rattle.std.proofs.Common.{◌≡◌, take}
use Rattle.core_syntax.specs.Refine.{indices_of}
use Rattle.core_syntax.specs.Subst.{indices_put}
use Rattle.type_substitution.specs.Putting.{indices_at}
use Rattle.type_substitution.proofs.types_put.+indices.Given as goal

abbrev pub invariant-put_indices-loop-index : goal.invariant-put_indices-loop-index
invariant-put_indices-loop-index l = indices_of l.put.items ≡ indices_put (indices_at l.under l.with) (indices_of (take l.index-index l.indices))
