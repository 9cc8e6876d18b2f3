use Rattle.std.proofs.Common.{◌≡◌, take}
use Rattle.core_syntax.specs.Refine.{tys_of}
use Rattle.core_syntax.specs.Subst.{tys_renamed}
use Rattle.type_equal.specs.Moved.{moved_from}
use Rattle.type_equal.proofs.moving.+types.Given as goal

abbrev pub invariant-moved_trees-loop-tree : goal.invariant-moved_trees-loop-tree
invariant-moved_trees-loop-tree l =
    tys_of l.moved.items ≡ tys_renamed (moved_from l.indices.by l.indices.from) (moved_from l.types.by l.types.from) (tys_of (take l.tree-index l.trees))
