use Rattle.std.proofs.Common.{◌≡◌, drop}
use Rattle.core_syntax.specs.Refine.{tys_of}
use Rattle.type_equal.specs.Counted.{put_under, put_large_tys}
use Rattle.type_equal.proofs.counting.+large_types.Given as goal

abbrev pub invariant-have_large_in-loop-ty : goal.invariant-have_large_in-loop-ty
invariant-have_large_in-loop-ty l =
    put_large_tys (put_under l.under l.counts) (tys_of l.fn.types) ≡ put_large_tys (put_under l.under l.counts) (tys_of (drop l.ty-index l.fn.types))
