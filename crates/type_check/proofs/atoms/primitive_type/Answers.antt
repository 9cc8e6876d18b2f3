use Rattle.std.proofs.Common.{◌≡◌, ◌∙◌, sym, subst, ap, None, IfOk}
use Rattle.core_syntax.specs.NormTypes.{norm_ty, measure_ty}
use Rattle.core_syntax.specs.Refine.{ty_of}
use Rattle.prim_table.proofs.TypeLaws.{prim_measured}
use Rattle.type_check.proofs.atoms.primitive_type.Goals as goal

pub normal_form-requires : goal.normal_form-requires
normal_form-requires c = subst (λ t. measure_ty t ≡ None) (sym c.in-Ok.ensures) (prim_measured c.args.p)

pub returns-in-Ok-clause-ty : goal.returns-in-Ok-clause-ty
returns-in-Ok-clause-ty c = subst (λ u. IfOk c.normal_form.result (λ t. ty_of t ≡ norm_ty u)) c.in-Ok.ensures c.normal_form.ensures.ty
