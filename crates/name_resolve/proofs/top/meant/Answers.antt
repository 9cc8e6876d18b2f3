use Rattle.std.proofs.Common.{◌≡◌, subst, ◌∙◌, Ok}
use Rattle.core_syntax.specs.Refine.{ty_of, expr_of}
use Rattle.sexp_reader.specs.Forms.{form_of}
use Rattle.name_resolve.specs.TermForms.{expr}
use Rattle.name_resolve.specs.Tops.{held_definition}
use Rattle.name_resolve.specs.TypeForms.{array_ty}
use Rattle.name_resolve.proofs.TopLemmas.{meant_is}
use Rattle.name_resolve.proofs.top.meant.Goals as goal

pub returns-clause-read : goal.returns-clause-read
returns-clause-read c =
    meant_is c.args.scopes.now.defs c.args.form.now (held_definition c.args.parts.now) (ty_of c.in_ok-ty.ty) (expr_of c.in_ok-value.value)
    (subst (λ Γ. array_ty Γ (form_of c.args.parts.now.ty.now) ≡ Ok (ty_of c.in_ok-ty.ty)) c.requires.behind c.in_ok-ty.ensures.read)
    (subst (λ Γ. expr Γ (form_of c.args.parts.now.value.now) ≡ Ok (expr_of c.in_ok-value.value)) (c.in_ok-ty.ensures.same ∙ c.requires.behind) c.in_ok-value.ensures.read)
