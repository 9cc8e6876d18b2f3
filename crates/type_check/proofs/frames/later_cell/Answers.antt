use Rattle.std.proofs.Common.{◌≡◌, ◌∙◌, refl, sym, ap, true≢false}
use Rattle.core_syntax.specs.Refine.{ty_of}
use Rattle.type_check.proofs.one_by_one.PartsTested.{one_cell, cell_differs}
use Rattle.type_check.proofs.frames.later_cell.Goals as goal

pub returns-then-same_part : goal.returns-then-same_part
returns-then-same_part c = λ Γ x ns at f.
    one_cell Γ (ty_of c.args.first.now) x (ty_of c.args.found.now) ns f
    (sym (ap ty_of c.ty-other.ensures.tree) ∙ (c.if-same_part.ensures c.ty-other.ensures.normal c.ty-own.ensures.normal).0 refl ∙ ap ty_of c.ty-own.ensures.tree)

pub returns-else-same_part : goal.returns-else-same_part
returns-else-same_part c = λ Γ x ns at f.
    cell_differs Γ (ty_of c.args.first.now) x (ty_of c.args.found.now) ns f c.args.at at _ _ (ap ty_of c.ty-other.ensures.tree) (ap ty_of c.ty-own.ensures.tree)
    c.ty-other.ensures.normal c.ty-own.ensures.normal (λ e. true≢false (sym ((c.if-same_part.ensures c.ty-other.ensures.normal c.ty-own.ensures.normal).1 e)))
