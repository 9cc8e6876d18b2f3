use Rattle.std.proofs.Common.{◌≡◌, ◌∙◌, ap, subst, ◌⊎◌, IfErr, Some}
use Rattle.core_syntax.specs.Refine.{ty_of}
use Rattle.core_syntax.specs.NormTypes.{measure_ty}
use Rattle.type_equal.specs.declared.measuring.NormRefusal.TheVariants.{Memory}
use Rattle.type_equal.specs.Refusal.{number_of}
use Rattle.type_equal.specs.Put.{put_in}
use Rattle.type_equal.proofs.instantiate.built.Goals as goal

pub returns-in-Ok-clause-refused : goal.returns-in-Ok-clause-refused
returns-in-Ok-clause-refused c =
    subst (λ u. IfErr c.normal.result (λ e. (e ≡ Memory) ⊎ (number_of (Some e) ≡ measure_ty u)))
    (c.in-Ok.ensures ∙ ap (λ t. put_in c.args.types.now c.args.indices.now (ty_of t)) c.ty.ensures.tree)
    c.normal.ensures.refused
