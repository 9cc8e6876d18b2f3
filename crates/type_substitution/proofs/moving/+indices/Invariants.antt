use Rattle.std.proofs.Common.{◌≡◌, take}
use Rattle.core_syntax.specs.Refine.{indices_of}
use Rattle.core_syntax.specs.Subst.{indices_renamed}
use Rattle.type_substitution.specs.Putting.{moved_from}
use Rattle.type_substitution.proofs.moving.+indices.Given as goal

abbrev pub invariant-moved_indices-loop-index : goal.invariant-moved_indices-loop-index
invariant-moved_indices-loop-index l = indices_of l.moved.items ≡ indices_renamed (moved_from l.shift.by l.shift.from) (indices_of (take l.index-index l.indices))
