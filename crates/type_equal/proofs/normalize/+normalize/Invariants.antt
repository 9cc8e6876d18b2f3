use Rattle.std.proofs.Common.{◌≡◌, take}
use Rattle.core_syntax.specs.Refine.{tys_of}
use Rattle.core_syntax.specs.NormTypes.{norm_tys}
use Rattle.type_equal.proofs.normalize.+normalize.Given as goal

abbrev pub invariant-normal_trees-loop-ty : goal.invariant-normal_trees-loop-ty
invariant-normal_trees-loop-ty l = tys_of l.trees.items ≡ norm_tys (tys_of (take l.ty-index l.types))
