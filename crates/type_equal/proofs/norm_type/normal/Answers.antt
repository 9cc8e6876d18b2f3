use Rattle.std.proofs.Common.{sym, ap, ◌∙◌}
use Rattle.core_syntax.specs.Refine.{ty_of}
use Rattle.core_syntax.specs.NormTypes.{norm_ty, measure_ty}
use Rattle.core_syntax.proofs.NormTyLemmas.{norm_again, measure_again}
use Rattle.type_equal.proofs.norm_type.normal.Goals as goal

pub invariant_of-result : goal.invariant_of-result
invariant_of-result c = (
  ap norm_ty c.in-Ok.ensures ∙ norm_again (ty_of c.args.t.now) ∙ sym c.in-Ok.ensures,
  ap measure_ty c.in-Ok.ensures ∙ measure_again (ty_of c.args.t.now) ∙ sym c.in-None.ensures,
)
