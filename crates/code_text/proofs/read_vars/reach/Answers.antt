use Rattle.std.proofs.Common.{◌≡◌, ◌∙◌, ◌+◌, ◌-◌, ℕ, List, max, drop, ap, sym, arith}
use Rattle.std.specs.Fmt.{decimal}
use Rattle.code_text.specs.Reading.{common}
use Rattle.code_text.specs.IndexReading.{candidates, furthest}
use Rattle.code_text.proofs.types.Stack.{further, other_sort, too_large}
use Rattle.code_text.proofs.read_vars.reach.Goals as goal
use Rattle.code_text.proofs.read_vars.reach.Goals.{then-same+then-place-top+in_ok-text, then-count-best, else-count-best, else-same, else-same-via-then-same+else-place-top, else-same-via-else-same}

same_best : (best best' all rest whole : ℕ) → best' ≡ best → all ≡ rest → max best all ≡ whole → max best' rest ≡ whole
same_best best best' all rest whole more is so_far = omega (arith, more, is, so_far)

pub loop-place-preserved : goal.loop-place-preserved
loop-place-preserved c =
    let s = c.args.sort in
    let top = c.args.top in
    let bs = c.args.binders.now in
    let bytes = c.args.bytes.now in
    let total = c.len-total.result in
    let place = c.loop-place.place in
    let best = c.loop-place.best in
    let here = furthest total (candidates s top place (drop place bs)) bytes in
    let rest = furthest total (candidates s top (place + 1) (drop (place + 1) bs)) bytes in
    let all = furthest total (candidates s top 0 bs) bytes in
    elim c.if-same.branch [
      | then-same+then-place-top+in_ok-text w ↦
          let count = w.common_front-count.result in
          let is : count ≡ common (decimal (total - 1 - place)) bytes = w.common_front-count.ensures.value ∙ ap (λ (t : List ℕ). common t bytes) (w.as_bytes.ensures.value ∙ w.in_ok-text.ensures.ok) in
          let more : c.if-same.best ≡ max best count = elim w.if-count-best.branch [ then-count-best w' ↦ omega arith | else-count-best w' ↦ omega arith ] in
          record {
            within = omega (arith, more, w.common_front-count.ensures.within, c.loop-place.invariant.within);
            same = further s top bs place c.sort.result total bytes best c.if-same.best count all c.sort.ensures (sym c.same.ensures ∙ w.if-same.true) (omega arith) is more c.loop-place.invariant.same;
          }
      | else-same w ↦
          let e : here ≡ rest = elim w.else-same.branch [
            | else-same-via-then-same+else-place-top w' ↦ ap (λ (ks : List ℕ). furthest total ks bytes) (too_large s top bs place c.sort.result c.sort.ensures (sym c.same.ensures ∙ w'.if-same.true) (omega arith))
            | else-same-via-else-same w' ↦ ap (λ (ks : List ℕ). furthest total ks bytes) (other_sort s top bs place c.sort.result c.sort.ensures (sym c.same.ensures ∙ w'.if-same.false))
          ] in
          record {
            within = omega (arith, c.loop-place.invariant.within);
            same = same_best best c.if-same.best here rest all (omega arith) e c.loop-place.invariant.same;
          }
    ]
