use Rattle.std.proofs.Common.{◌∙◌, sym, ap, subst, ◌-◌, arith}
use Rattle.core_syntax.specs.Refine.{ty_of}
use Rattle.core_syntax.specs.NormTypes.{norm_ty, measure_ty, ty_has_large, ty_size, ty_depth}
use Rattle.type_equal.specs.Moved.{up, IsFreeBelow}
use Rattle.type_equal.proofs.MeasureLemmas.{none_wide}
use Rattle.type_equal.proofs.MoveLemmas.{moves_within}
use Rattle.type_equal.proofs.NormMoved.{still_norm}
use Rattle.type_equal.proofs.TyCountLemmas.{measure_renamed}
use Rattle.type_equal.proofs.norm_type.moved.Goals as goal

pub moved_tree-requires : goal.moved_tree-requires
moved_tree-requires c =
    let t = ty_of c.t.inside.ty in
    moves_within c.args.types c.args.indices t (subst (λ u. IsFreeBelow (3221225472 - c.args.types) (3221225472 - c.args.indices) (ty_of u)) (sym c.t.view_is) c.requires)
    (none_wide (ty_has_large t) (ty_size t) (ty_depth t) c.t.invariant.1)

pub invariant_of-result : goal.invariant_of-result
invariant_of-result c =
    let t = ty_of c.t.inside.ty in (
      ap norm_ty c.in-Ok.ensures ∙ still_norm (up c.args.indices) (up c.args.types) (λ j k lt. omega arith) t c.t.invariant.0 ∙ sym c.in-Ok.ensures,
      ap measure_ty c.in-Ok.ensures ∙ measure_renamed (up c.args.indices) (up c.args.types) t ∙ c.t.invariant.1,
    )
