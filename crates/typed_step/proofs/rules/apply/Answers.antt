use Rattle.std.proofs.Common.{◌≡◌, ◌∙◌, ap, subst, ◌∷◌, IfOk, Some, None}
use Rattle.core_syntax.specs.Arrays.{greatest}
use Rattle.core_syntax.specs.Lists.{each}
use Rattle.core_syntax.specs.Refine.{index_of, ty_of}
use Rattle.core_syntax.specs.RefineTerms.{term_of}
use Rattle.core_syntax.specs.Rules.{dims_of, apply_at}
use Rattle.core_syntax.specs.Typed.{typed_rules}
use Rattle.typed_step.specs.Frames.{fronts}
use Rattle.typed_prims.specs.Outcomes.{move_of}
use Rattle.typed_step.proofs.ApplyRules.{frames_are, frame_is}
use Rattle.typed_step.proofs.rules.apply.Goals as goal

pub returns-in-None : goal.returns-in-None
returns-in-None c =
    let a = c.args.application in
    frames_are (term_of a.function.now) (each term_of a.args.now) a.cells.now (ty_of a.answer.now) None (rw c.in-None.is at c.in_ok-ranks.ensures.frames)

pub returns-in-None-greatest : goal.returns-in-None-greatest
returns-in-None-greatest c =
    let a = c.args.application in
    let frames = fronts c.in-Some.ranks.items (each (λ t. dims_of typed_rules (term_of t)) a.args.now) in
    let e = rw c.in-Some.is at c.in_ok-ranks.ensures.frames in
    frame_is (term_of a.function.now) (each term_of a.args.now) a.cells.now (ty_of a.answer.now) frames None e (c.in-None-greatest.ensures ∙ ap (λ ks. greatest (dims_of typed_rules (term_of a.function.now) ∷ fronts ks (each (λ t. dims_of typed_rules (term_of t)) a.args.now))) c.deref.ensures.value)

pub returns : goal.returns
returns c =
    let a = c.args.application in
    let f = term_of a.function.now in
    let ts = each term_of a.args.now in
    let ds = each (λ t. dims_of typed_rules (term_of t)) a.args.now in
    let F = c.in-Some-greatest.frame.now in
    let e = rw c.in-Some.is at c.in_ok-ranks.ensures.frames in
    let g = c.in-Some-greatest.ensures ∙ ap (λ ks. greatest (dims_of typed_rules f ∷ fronts ks ds)) c.deref.ensures.value in
    subst (λ m. IfOk c.apply_at.result (λ o. move_of o ≡ m))
    (ap (λ ks. apply_at typed_rules F (fronts ks ds) f ts (each index_of a.cells.now) (ty_of a.answer.now)) c.deref-in-Some-greatest.ensures.value
    ∙ frame_is f ts a.cells.now (ty_of a.answer.now) (fronts c.in-Some.ranks.items ds) (Some F) e g) c.apply_at.ensures
