use Rattle.std.proofs.Common.{◌≡◌, subst, IfOk}
use Rattle.core_syntax.specs.Refine.{ty_of}
use Rattle.type_substitution.proofs.Contents.{sigma_content}
use Rattle.type_substitution.proofs.types_put.content_ty.Goals as goal

pub returns-in-Sigma : goal.returns-in-Sigma
returns-in-Sigma c =
    subst (λ w. IfOk c.put_type.result (λ t. ty_of t ≡ w)) (sigma_content c.args.ty.now c.in-Sigma.body c.get.result.now c.in-Sigma.field-0 c.args.indices.now c.get.ensures c.in-Sigma.is) c.put_type.ensures
