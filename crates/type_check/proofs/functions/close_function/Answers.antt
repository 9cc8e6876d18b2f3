use Rattle.std.proofs.Common.{◌≡◌, ◌∙◌, ap, true}
use Rattle.core_syntax.specs.Refine.{ty_of, tys_of}
use Rattle.core_syntax.specs.Syntax.{Fun, no_span}
use Rattle.type_check.proofs.normal_forms.FormLemmas.{normal_read}
use Rattle.type_check.proofs.exits.FnRule.{closed, misfits}
use Rattle.type_check.proofs.functions.close_function.Goals as goal

pub returns-in-Ok-clause-concludes : goal.returns-in-Ok-clause-concludes
returns-in-Ok-clause-concludes c Γ at ts r e ns types arrays array holds place found =
    closed Γ at ts r e c.args.types types (ty_of c.args.body.now) ns found (c.same.ensures.forms.0 c.if-same.true) arrays array holds (ty_of c.in-Ok.tree)
    (c.in-Ok.ensures.ty ∙ ap (λ is. Fun no_span (tys_of is) (ty_of c.args.types.output)) c.as_slice.ensures.value)

pub returns-clause-concludes : goal.returns-clause-concludes
returns-clause-concludes c Γ at ts r e ns types arrays array holds place found =
    misfits Γ at ts r e c.args.types types (ty_of c.args.body.now) ns found c.args.output_at place
    (normal_read c.args.body.now c.ty-normal.result.now c.ty-normal.ensures.tree c.ty-normal.ensures.normal)
    (λ h. let yes : c.same.result ≡ true = c.same.ensures.forms.1 h in let not = c.if-same.false in cc)
