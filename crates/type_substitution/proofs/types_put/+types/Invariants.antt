use Rattle.std.proofs.Common.{◌≡◌, take}
use Rattle.core_syntax.specs.Refine.{tys_of}
use Rattle.core_syntax.specs.Subst.{tys_put}
use Rattle.type_substitution.specs.Putting.{indices_at, types_at}
use Rattle.type_substitution.proofs.types_put.+types.Given as goal

abbrev pub invariant-put_trees-loop-tree : goal.invariant-put_trees-loop-tree
invariant-put_trees-loop-tree l =
    tys_of l.put.items ≡ tys_put (indices_at l.under.indices l.indices) (types_at l.under.types l.under.indices l.types) (tys_of (take l.tree-index l.trees))
