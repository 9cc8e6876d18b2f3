use Rattle.std.proofs.Common.{sym, ap, ◌∙◌, ◌+◌, ◌∷◌, ◌&&◌, Bool, List, ℕ, take, drop, get_or}
use Rattle.core_syntax.specs.Arrays.{all_prefixes}
use Rattle.core_syntax.specs.RefineTerms.{term_of}
use Rattle.core_syntax.specs.Rules.{dims_of}
use Rattle.core_syntax.specs.Typed.{typed_rules}
use Rattle.typed_step.proofs.FrontLists.{fronts_of, fronts_behind, fronts_over}
use Rattle.typed_step.proofs.Greatest.{greatest_found, greatest_none, is_front}
use Rattle.typed_step.proofs.lifting.greatest.Goals as goal

pub returns-then-not-starts_with : goal.returns-then-not-starts_with
returns-then-not-starts_with c =
    let fs = fronts_of c.args.ranks.now c.args.args.now in
    let f = c.longest-frame.result.now in
    let d = dims_of typed_rules (term_of c.args.function.now) in
    sym (greatest_none (d ∷ fs) f c.longest-frame.ensures (ap (λ (b : Bool). b && all_prefixes fs f) (is_front c.starts_with.result c.dims.result.now d f c.starts_with.ensures.value c.dims.ensures ∙ c.if-not-starts_with.true)))

pub loop-place-init : goal.loop-place-init
loop-place-init c =
    let fs = fronts_of c.args.ranks.now c.args.args.now in
    let f = c.longest-frame.result.now in
    let d = dims_of typed_rules (term_of c.args.function.now) in
    ap (λ (b : Bool). b && all_prefixes fs f) (is_front c.starts_with.result c.dims.result.now d f c.starts_with.ensures.value c.dims.ensures ∙ c.if-not-starts_with.false)

pub loop-place-preserved : goal.loop-place-preserved
loop-place-preserved c =
    let fs = fronts_of c.args.ranks.now c.args.args.now in
    let f = c.longest-frame.result.now in
    let k = c.loop-place.place in
    let r = get_or c.args.ranks.now k 0 in
    let h = take r (dims_of typed_rules (term_of c.index-args-place.result)) in
    c.loop-place.invariant
    ∙ ap (λ (l : List (List ℕ)). all_prefixes l f) (fronts_behind c.args.ranks.now c.args.args.now k c.index-args-place.result c.requires c.loop-place-test.true c.index-args-place.is)
    ∙ ap (λ (b : Bool). b && all_prefixes (drop (k + 1) fs) f)
    (is_front c.starts_with-in-loop-place.result c.front.result.now h f c.starts_with-in-loop-place.ensures.value (c.front.ensures ∙ ap (take r) c.dims-in-loop-place.ensures) ∙ c.if-not-starts_with-2.false)

pub returns-then-not-starts_with-2 : goal.returns-then-not-starts_with-2
returns-then-not-starts_with-2 c =
    let fs = fronts_of c.args.ranks.now c.args.args.now in
    let f = c.longest-frame.result.now in
    let d = dims_of typed_rules (term_of c.args.function.now) in
    let k = c.loop-place.place in
    let r = get_or c.args.ranks.now k 0 in
    let h = take r (dims_of typed_rules (term_of c.index-args-place.result)) in
    sym
    (greatest_none (d ∷ fs) f c.longest-frame.ensures
    (c.loop-place.invariant
    ∙ ap (λ (l : List (List ℕ)). all_prefixes l f) (fronts_behind c.args.ranks.now c.args.args.now k c.index-args-place.result c.requires c.loop-place-test.true c.index-args-place.is)
    ∙ ap (λ (b : Bool). b && all_prefixes (drop (k + 1) fs) f)
    (is_front c.starts_with-in-loop-place.result c.front.result.now h f c.starts_with-in-loop-place.ensures.value (c.front.ensures ∙ ap (take r) c.dims-in-loop-place.ensures) ∙ c.if-not-starts_with-2.true)))

pub returns : goal.returns
returns c =
    let fs = fronts_of c.args.ranks.now c.args.args.now in
    let f = c.longest-frame.result.now in
    let d = dims_of typed_rules (term_of c.args.function.now) in
    sym
    (greatest_found (d ∷ fs) f c.longest-frame.ensures
    (c.loop-place.invariant ∙ ap (λ (l : List (List ℕ)). all_prefixes l f) (fronts_over c.args.ranks.now c.args.args.now c.loop-place.place c.requires c.loop-place-test.false)))
