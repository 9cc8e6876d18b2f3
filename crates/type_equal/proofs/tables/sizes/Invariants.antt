use Rattle.std.proofs.Common.{◌≡◌, take}
use Rattle.core_syntax.specs.Lists.{each, Each}
use Rattle.core_syntax.specs.NormTypes.{ty_size}
use Rattle.core_syntax.specs.Refine.{ty_of}
use Rattle.type_equal.specs.Counted.{IsNoneLarge}
use Rattle.type_equal.proofs.tables.sizes.Given as goal

abbrev pub invariant-loop-ty : goal.invariant-loop-ty
invariant-loop-ty l =
    record {
      sizes : l.sizes.items ≡ each (λ t. ty_size (ty_of t)) (take l.ty-index l.types);
      none : Each IsNoneLarge (take l.ty-index l.types);
    }
