use Rattle.std.proofs.Common.{◌≡◌, subst, Some}
use Rattle.std.specs.Prelude.{◌⊎◌}
use Rattle.core_syntax.specs.Lists.{each}
use Rattle.core_syntax.specs.NormTypes.{norm_ty, measure_ty}
use Rattle.core_syntax.specs.Refine.{ty_of}
use Rattle.core_syntax.specs.Subst.{with_indices}
use Rattle.type_equal.specs.declared.measuring.NormRefusal.TheVariants as norm
use Rattle.type_equal.specs.Put.{index_tree}
use Rattle.type_equal.specs.Refusal.{number_of}
use Rattle.type_check.proofs.boxes.content_type.Goals as goal

pub returns-in-Ok : goal.returns-in-Ok
returns-in-Ok c =
    c.measured.ensures (measure_ty (with_indices (each index_tree c.args.given.now) (norm_ty (ty_of c.args.body.now))))
    (subst (λ b. (c.in-Err-instantiate_indices.refusal ≡ norm.Memory) ⊎ (number_of (Some c.in-Err-instantiate_indices.refusal) ≡ measure_ty (with_indices (each index_tree c.args.given.now) b)))
    c.in-Ok.ensures.same c.in-Err-instantiate_indices.ensures.refused)
