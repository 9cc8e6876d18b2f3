use Rattle.std.proofs.Common.{◌≡◌, ◌∙◌, ◌+◌, ℕ, List, length, drop, ap, sym, arith}
use Rattle.std.specs.String.{string_bytes}
use Rattle.code_text.specs.Reading.{common}
use Rattle.code_text.specs.IndexReading.{candidates, spelled_by}
use Rattle.code_text.proofs.types.Stack.{named_here, other_length, other_name, other_sort, too_large}
use Rattle.code_text.proofs.read_vars.named.Goals as goal
use Rattle.code_text.proofs.read_vars.named.Goals.{then-same+then-place-top+in_ok-text+else-as_bytes-size, else-as_bytes-size-via-then-as_bytes-size+else-count-size, else-as_bytes-size-via-else-as_bytes-size, else-same, else-same-via-then-same+else-place-top, else-same-via-else-same}

pub returns-then-count-size-clause-value : goal.returns-then-count-size-clause-value
returns-then-count-size-clause-value c =
    let s = c.args.sort in
    let top = c.args.top in
    let bs = c.args.binders.now in
    let bytes = c.args.bytes.now in
    let total = c.len-total.result in
    let place = c.loop-place.place in
    let text = string_bytes c.in_ok-text.text in
    let long : length text ≡ c.args.size = ap (λ (t : List ℕ). length t) (sym c.as_bytes-then-place-top.ensures.value) ∙ c.if-as_bytes-size.true in
    let all : common text bytes ≡ c.args.size = ap (λ (t : List ℕ). common t bytes) (sym c.as_bytes.ensures.value) ∙ sym c.common_front-count.ensures.value ∙ c.if-count-size.true in
    sym (named_here s top bs place c.sort.result total bytes c.args.size text c.sort.ensures (sym c.same.ensures ∙ c.if-same.true) (omega arith) c.in_ok-text.ensures.ok long all)
    ∙ c.loop-place.invariant
    ∙ ap (λ (n : ℕ). spelled_by c.args.size n (candidates s top 0 bs) bytes) c.len-total.ensures.value

pub loop-place-preserved : goal.loop-place-preserved
loop-place-preserved c =
    let s = c.args.sort in
    let top = c.args.top in
    let bs = c.args.binders.now in
    let bytes = c.args.bytes.now in
    let total = c.len-total.result in
    let place = c.loop-place.place in
    let size = c.args.size in
    let here = spelled_by size total (candidates s top place (drop place bs)) bytes in
    let rest = spelled_by size total (candidates s top (place + 1) (drop (place + 1) bs)) bytes in
    let step : here ≡ rest = elim c.if-same.branch [
      | then-same+then-place-top+in_ok-text+else-as_bytes-size w ↦
          let text = string_bytes w.in_ok-text.text in
          let long = ap (λ (t : List ℕ). length t) (sym w.as_bytes-then-place-top.ensures.value) in
          let same = sym c.same.ensures ∙ w.if-same.true in
          elim w.else-as_bytes-size.branch [
            | else-as_bytes-size-via-then-as_bytes-size+else-count-size w' ↦
                other_name s top bs place c.sort.result total bytes size text c.sort.ensures same (omega arith) w.in_ok-text.ensures.ok (long ∙ w'.if-as_bytes-size.true)
                (λ e. w'.if-count-size.false (w.common_front-count.ensures.value ∙ ap (λ (t : List ℕ). common t bytes) w.as_bytes.ensures.value ∙ e))
            | else-as_bytes-size-via-else-as_bytes-size w' ↦
                other_length s top bs place c.sort.result total bytes size text c.sort.ensures same (omega arith) w.in_ok-text.ensures.ok (λ e. w'.if-as_bytes-size.false (sym long ∙ e))
          ]
      | else-same w ↦
          elim w.else-same.branch [
            | else-same-via-then-same+else-place-top w' ↦ ap (λ (ks : List ℕ). spelled_by size total ks bytes) (too_large s top bs place c.sort.result c.sort.ensures (sym c.same.ensures ∙ w'.if-same.true) (omega arith))
            | else-same-via-else-same w' ↦ ap (λ (ks : List ℕ). spelled_by size total ks bytes) (other_sort s top bs place c.sort.result c.sort.ensures (sym c.same.ensures ∙ w'.if-same.false))
          ]
    ] in
    sym step ∙ c.loop-place.invariant
