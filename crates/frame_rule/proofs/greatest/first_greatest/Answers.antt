use Rattle.std.proofs.Common.{◌∙◌, [], refl, sym, subst, true≢false}
use Rattle.std.proofs.lemmas.List.{get_or_default}
use Rattle.core_syntax.specs.Word.{Begins}
use Rattle.frame_rule.specs.Principal.{HasAll}
use Rattle.frame_rule.proofs.LongestLemmas.{is_principal, no_principal}
use Rattle.frame_rule.proofs.greatest.first_greatest.Goals as goal

pub returns-then-has_all : goal.returns-then-has_all
returns-then-has_all c =
    let best = c.index-frames-place.is ∙ get_or_default _ _ _ [] c.in_ok-place.ensures.0 in
    is_principal c.args.frames.now _ c.in_ok-place.ensures (subst (HasAll Begins c.args.frames.now) best (c.if-has_all.ensures.0 refl))

pub returns-else-has_all : goal.returns-else-has_all
returns-else-has_all c =
    let best = c.index-frames-place.is ∙ get_or_default _ _ _ [] c.in_ok-place.ensures.0 in
    no_principal c.args.frames.now _ c.in_ok-place.ensures
    (λ all. true≢false (sym (c.if-has_all.ensures.1 (subst (HasAll Begins c.args.frames.now) (sym best) all))))
