use Rattle.std.proofs.Common.{◌^◌, ◌-◌, ◌+◌, min, sym, ap, ◌∙◌}
use Rattle.core_syntax.specs.Typed.{closed}
use Rattle.core_syntax.specs.Value.{dim_val}
use Rattle.core_syntax.proofs.PartLemmas.{is_sum}
use Rattle.term_values.proofs.Sums.{summed_more, summed_all}
use Rattle.term_values.proofs.indices.+number.Goals as goal

pub number-returns-in-Sum : goal.number-returns-in-Sum
number-returns-in-Sum t c =
    c.sum.ensures ∙ sym (ap (λ i. min (dim_val closed i) (2 ^ 64 - 1)) (is_sum c.args.index.now _ _ c.as_slice.ensures c.in-Sum.is))

pub sum-loop-part-preserved : goal.sum-loop-part-preserved
sum-loop-part-preserved t c =
    c.saturating_add-sum.ensures ∙ ap (λ n. min (c.loop-part.sum + n) (2 ^ 64 - 1)) c.number.ensures
    ∙ summed_more c.args.parts.now c.loop-part.part-index (2 ^ 64 - 1) c.loop-part.sum c.part-item.result c.loop-part-test.true c.part-item.is c.loop-part.invariant

pub sum-returns : goal.sum-returns
sum-returns t c = summed_all c.args.parts.now c.loop-part.part-index (2 ^ 64 - 1) c.loop-part.sum c.loop-part-test.false c.loop-part.invariant
