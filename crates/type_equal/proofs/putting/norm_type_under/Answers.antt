use Rattle.std.proofs.Common.{sym, subst}
use Rattle.core_syntax.specs.Refine.{ty_of}
use Rattle.core_syntax.specs.NormTypes.{ty_has_large, ty_size, ty_depth}
use Rattle.type_equal.specs.Put.{IsTreeSmall}
use Rattle.type_equal.proofs.MeasureLemmas.{none_wide}
use Rattle.type_equal.proofs.MoveLemmas.{moves_inside}
use Rattle.type_equal.proofs.putting.norm_type_under.Goals as goal

pub moved_tree-requires : goal.moved_tree-requires
moved_tree-requires c =
    let t = ty_of c.ty.result.now in
    moves_inside c.args.under.types c.args.under.indices c.requires.types c.requires.indices t (subst IsTreeSmall (sym c.ty.ensures.tree) c.requires.small)
    (none_wide (ty_has_large t) (ty_size t) (ty_depth t) c.ty.ensures.measured)
