use Rattle.std.proofs.Common.{◌≡◌, drop}
use Rattle.core_syntax.specs.Lists.{onto}
use Rattle.core_syntax.specs.Refine.{tys_of}
use Rattle.core_syntax.specs.Kinds.{kinds_blame}
use Rattle.kind_check.proofs.kinds.+kinds.Given as goal

abbrev pub invariant-blame_all-loop-ty : goal.invariant-blame_all-loop-ty
invariant-blame_all-loop-ty l =
    (l.scope.items ≡ l.fn.scope.items)
    × (kinds_blame (onto l.fn.scope.items l.around) (tys_of l.fn.types) ≡ kinds_blame (onto l.fn.scope.items l.around) (tys_of (drop l.ty-index l.fn.types)))
