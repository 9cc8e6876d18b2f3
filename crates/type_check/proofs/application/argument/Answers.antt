use Rattle.std.proofs.Common.{◌≡◌, ◌∙◌, refl, sym, ap, subst, true≢false}
use Rattle.core_syntax.specs.Refine.{ty_of}
use Rattle.core_syntax.specs.NormTypes.{norm_ty}
use Rattle.type_check.proofs.one_by_one.ArgLemmas.{argument_tested, argument_differs, part_normal}
use Rattle.type_check.proofs.application.argument.Goals as goal

pub returns-then-same_part : goal.returns-then-same_part
returns-then-same_part c = λ Γ e ns is formed found.
    argument_tested Γ e (ty_of c.args.input.now) (ty_of c.args.found.now) _ _ c.args.at _ _ _ _ ns c.array_parts.ensures
    (sym (ap ty_of c.ty-tree.ensures.tree) ∙ c.array_parts-2.ensures) is formed found
    ((c.if-same_part.ensures (part_normal _ _ _ _ c.array_parts-2.ensures c.ty-tree.ensures.normal) (part_normal _ _ _ _ c.array_parts.ensures c.requires.normal)).0 refl)
    c.frame_of.result c.frame_of.ensures

pub returns-else-same_part : goal.returns-else-same_part
returns-else-same_part c = λ Γ e ns is formed found.
    argument_differs Γ e (ty_of c.args.input.now) (ty_of c.args.found.now) _ _ c.args.at _ _ _ _ ns c.array_parts.ensures
    (sym (ap ty_of c.ty-tree.ensures.tree) ∙ c.array_parts-2.ensures) is formed found c.requires.normal
    (subst (λ t. norm_ty (ty_of t) ≡ ty_of t) c.ty-tree.ensures.tree c.ty-tree.ensures.normal)
    (λ e. true≢false (sym ((c.if-same_part.ensures (part_normal _ _ _ _ c.array_parts-2.ensures c.ty-tree.ensures.normal) (part_normal _ _ _ _ c.array_parts.ensures c.requires.normal)).1 e)))
