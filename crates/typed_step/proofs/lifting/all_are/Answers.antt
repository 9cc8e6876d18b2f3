use Rattle.std.proofs.Common.{sym, ap, ◌∙◌, ◌+◌, ◌&&◌, not, Bool, take, drop, get_or}
use Rattle.core_syntax.specs.Arrays.{all_frames_are}
use Rattle.core_syntax.specs.RefineTerms.{term_of}
use Rattle.core_syntax.specs.Rules.{dims_of}
use Rattle.core_syntax.specs.Typed.{typed_rules}
use Rattle.typed_step.proofs.FrontLists.{fronts_of, fronts_behind, fronts_over}
use Rattle.typed_step.proofs.LiftTrees.{is_same}
use Rattle.typed_step.proofs.lifting.all_are.Goals as goal

pub returns-then-ne : goal.returns-then-ne
returns-then-ne c =
    let fs = fronts_of c.args.ranks.now c.args.args.now in
    let f = c.args.frame.now in
    let d = dims_of typed_rules (term_of c.args.function.now) in
    sym (ap (λ (b : Bool). b && all_frames_are f fs) (is_same c.ne.result f c.dims.result.now d c.ne.ensures c.dims.ensures ∙ ap not c.if-ne.true))

pub loop-place-init : goal.loop-place-init
loop-place-init c =
    let fs = fronts_of c.args.ranks.now c.args.args.now in
    let f = c.args.frame.now in
    let d = dims_of typed_rules (term_of c.args.function.now) in
    ap (λ (b : Bool). b && all_frames_are f fs) (is_same c.ne.result f c.dims.result.now d c.ne.ensures c.dims.ensures ∙ ap not c.if-ne.false)

pub loop-place-preserved : goal.loop-place-preserved
loop-place-preserved c =
    let fs = fronts_of c.args.ranks.now c.args.args.now in
    let f = c.args.frame.now in
    let k = c.loop-place.place in
    let r = get_or c.args.ranks.now k 0 in
    let h = take r (dims_of typed_rules (term_of c.index-args-place.result)) in
    c.loop-place.invariant
    ∙ ap (all_frames_are f) (fronts_behind c.args.ranks.now c.args.args.now k c.index-args-place.result c.requires c.loop-place-test.true c.index-args-place.is)
    ∙ ap (λ (b : Bool). b && all_frames_are f (drop (k + 1) fs))
    (is_same c.ne-in-loop-place.result f c.front.result.now h c.ne-in-loop-place.ensures (c.front.ensures ∙ ap (take r) c.dims-in-loop-place.ensures) ∙ ap not c.if-ne-2.false)

pub returns-then-ne-2 : goal.returns-then-ne-2
returns-then-ne-2 c =
    let fs = fronts_of c.args.ranks.now c.args.args.now in
    let f = c.args.frame.now in
    let k = c.loop-place.place in
    let r = get_or c.args.ranks.now k 0 in
    let h = take r (dims_of typed_rules (term_of c.index-args-place.result)) in
    sym
    (c.loop-place.invariant
    ∙ ap (all_frames_are f) (fronts_behind c.args.ranks.now c.args.args.now k c.index-args-place.result c.requires c.loop-place-test.true c.index-args-place.is)
    ∙ ap (λ (b : Bool). b && all_frames_are f (drop (k + 1) fs))
    (is_same c.ne-in-loop-place.result f c.front.result.now h c.ne-in-loop-place.ensures (c.front.ensures ∙ ap (take r) c.dims-in-loop-place.ensures) ∙ ap not c.if-ne-2.true))

pub returns : goal.returns
returns c =
    let f = c.args.frame.now in
    sym (c.loop-place.invariant ∙ ap (all_frames_are f) (fronts_over c.args.ranks.now c.args.args.now c.loop-place.place c.requires c.loop-place-test.false))
