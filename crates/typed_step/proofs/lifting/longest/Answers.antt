use Rattle.std.proofs.Common.{sym, ap, ◌∙◌, ◌+◌, ◌∷◌, subst, take, get_or}
use Rattle.core_syntax.specs.RefineTerms.{term_of}
use Rattle.core_syntax.specs.Rules.{dims_of}
use Rattle.core_syntax.specs.Typed.{typed_rules}
use Rattle.typed_step.specs.Frames.{IsLongest}
use Rattle.typed_step.proofs.FrontLists.{fronts_of, fronts_more, fronts_all}
use Rattle.typed_step.proofs.Greatest.{longer_next, stays_next}
use Rattle.typed_step.proofs.lifting.longest.Goals.{then-frame-longest, else-frame-longest}
use Rattle.typed_step.proofs.lifting.longest.Goals as goal

pub loop-place-preserved : goal.loop-place-preserved
loop-place-preserved c =
    let d = dims_of typed_rules (term_of c.args.function.now) in
    let r = get_or c.args.ranks.now c.loop-place.place 0 in
    let h = take r (dims_of typed_rules (term_of c.index-args-place.result)) in
    let gs = take c.loop-place.place (fronts_of c.args.ranks.now c.args.args.now) in
    let next = fronts_more c.args.ranks.now c.args.args.now c.loop-place.place c.index-args-place.result c.requires c.loop-place-test.true c.index-args-place.is in
    let front = c.front-frame.ensures ∙ ap (take r) c.dims.ensures in
    elim c.if-frame-longest.branch [
      | then-frame-longest w ↦ subst (λ b. IsLongest b.now (d ∷ take (c.loop-place.place + 1) (fronts_of c.args.ranks.now c.args.args.now))) (sym w.longest-is) (longer_next c.loop-place.longest.now c.front-frame.result.now h d gs _ front next w.if-frame-longest.true c.loop-place.invariant)
      | else-frame-longest w ↦ subst (λ b. IsLongest b.now (d ∷ take (c.loop-place.place + 1) (fronts_of c.args.ranks.now c.args.args.now))) (sym w.longest-is) (stays_next c.loop-place.longest.now c.front-frame.result.now h d gs _ front next w.if-frame-longest.false c.loop-place.invariant)
    ]

pub returns : goal.returns
returns c =
    subst (λ l. IsLongest c.loop-place.longest.now (dims_of typed_rules (term_of c.args.function.now) ∷ l)) (fronts_all c.args.ranks.now c.args.args.now c.loop-place.place c.requires c.loop-place-test.false) c.loop-place.invariant
