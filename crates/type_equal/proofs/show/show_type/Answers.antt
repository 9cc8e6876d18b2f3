use Rattle.std.proofs.Common.{◌∙◌, ap, ◌++◌}
use Rattle.core_syntax.specs.Refine.{ty_of}
use Rattle.core_syntax.specs.NormTypes.{ty_text}
use Rattle.type_equal.specs.Shown.{text_under}
use Rattle.type_equal.proofs.ShowLemmas.{shown}
use Rattle.type_equal.proofs.show.show_type.Goals as goal

pub returns : goal.returns
returns c =
    c.in_ok-put_type.ensures ∙ ap (λ o. o ++ text_under 0 (ty_of c.ty.result.now)) c.new-out.ensures.items ∙ shown 0 (ty_of c.ty.result.now) c.ty.ensures.normal
    ∙ ap (λ x. ty_text (ty_of x)) c.ty.ensures.tree
