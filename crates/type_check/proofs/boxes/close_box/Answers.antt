use Rattle.std.proofs.Common.{◌≡◌, true}
use Rattle.core_syntax.specs.Refine.{ty_of}
use Rattle.type_check.proofs.normal_forms.FormLemmas.{normal_read}
use Rattle.type_check.proofs.exits.BoxRule.{closed, misfits}
use Rattle.type_check.proofs.boxes.close_box.Goals as goal

pub returns-then-same : goal.returns-then-same
returns-then-same c Γ at is t e ns opened holds place found =
    closed Γ at is t c.args.opened opened e (ty_of c.args.found.now) ns found (c.same.ensures.forms.0 c.if-same.true) holds

pub returns-else-same : goal.returns-else-same
returns-else-same c Γ at is t e ns opened holds place found =
    misfits Γ at is t c.args.opened opened e (ty_of c.args.found.now) ns c.args.content_at found place
    (normal_read c.args.found.now c.ty-normal.result.now c.ty-normal.ensures.tree c.ty-normal.ensures.normal)
    (λ h. let yes : c.same.result ≡ true = c.same.ensures.forms.1 h in let not = c.if-same.false in cc)
