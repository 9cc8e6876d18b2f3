use Rattle.std.proofs.Common.{◌≡◌, drop}
use Rattle.core_syntax.specs.Refine.{tys_of}
use Rattle.core_syntax.specs.NormTypes.{tys_have_large}
use Rattle.type_equal.proofs.measuring.+large.Given as goal

abbrev pub invariant-any_large-loop-ty : goal.invariant-any_large-loop-ty
invariant-any_large-loop-ty l = tys_have_large (tys_of l.fn.types) ≡ tys_have_large (tys_of (drop l.ty-index l.fn.types))
