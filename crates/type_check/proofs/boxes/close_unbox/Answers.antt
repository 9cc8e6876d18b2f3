use Rattle.std.proofs.Common.{◌≡◌, ◌∙◌, sym, ap, subst, true}
use Rattle.core_syntax.specs.NormTypes.{norm_ty}
use Rattle.core_syntax.specs.Refine.{ty_of, index_of}
use Rattle.type_check.proofs.normal_forms.FormLemmas.{normal_read, array_read}
use Rattle.type_check.proofs.exits.UnboxRule.{closed, misfits, one_frame, framed_again}
use Rattle.type_check.proofs.boxes.close_unbox.Goals as goal

pub returns-then-same : goal.returns-then-same
returns-then-same c Γ n e u b ns ms o sorts cell expected opened array holds place found found_body =
    closed Γ c.args.at n e u b ns (ty_of c.args.boxes.now) o opened found (ty_of c.args.body.now) ms found_body (c.same.ensures.forms.0 c.if-same.true ∙ ap ty_of (sym expected)) array holds c.framed.result
    (framed_again c.args.at (index_of c.in-Arr.frame) opened.frame c.args.sorts o.sorts c.args.cell o.cell c.framed.result
    (one_frame (ty_of c.args.boxes.now) _ _ _ _ (index_of c.in-Arr.frame) opened.frame (array_read c.args.boxes.now c.ty.result.now c.in-Arr.elem c.get-elem.result.now c.in-Arr.frame c.ty.ensures.tree c.in-Arr.is c.get-elem.ensures) opened.callee_is)
    sorts cell c.framed.ensures)

pub returns-else-same : goal.returns-else-same
returns-else-same c Γ n e u b ns ms o sorts cell expected opened array holds place found found_body =
    misfits Γ c.args.at n e u b ns (ty_of c.args.boxes.now) o opened found (ty_of c.args.body.now) ms found_body c.args.cell_at place
    (normal_read c.args.body.now c.ty-normal.result.now c.ty-normal.ensures.tree c.ty-normal.ensures.normal)
    (subst (λ t. norm_ty (ty_of t) ≡ ty_of t) (sym expected) (normal_read c.args.expected.now c.ty-expected.result.now c.ty-expected.ensures.tree c.ty-expected.ensures.normal))
    (λ h. let yes : c.same.result ≡ true = c.same.ensures.forms.1 (h ∙ ap ty_of expected) in let not = c.if-same.false in cc)
