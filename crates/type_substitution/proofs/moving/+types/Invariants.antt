use Rattle.std.proofs.Common.{◌≡◌, take}
use Rattle.core_syntax.specs.Refine.{tys_of}
use Rattle.core_syntax.specs.Subst.{tys_renamed}
use Rattle.type_substitution.specs.Putting.{moved_from}
use Rattle.type_substitution.proofs.moving.+types.Given as goal

abbrev pub invariant-moved_types-loop-ty : goal.invariant-moved_types-loop-ty
invariant-moved_types-loop-ty l =
    tys_of l.moved.items ≡ tys_renamed (moved_from l.indices.by l.indices.from) (moved_from l.types.by l.types.from) (tys_of (take l.ty-index l.list))
