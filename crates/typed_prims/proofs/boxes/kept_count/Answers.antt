use Rattle.std.proofs.Common.{arith, ◌∙◌, ap, ◌+◌, ◌≤◌}
use Rattle.core_syntax.specs.Lists.{each}
use Rattle.core_syntax.specs.RefineTerms.{cell_of}
use Rattle.typed_prims.proofs.Marks.{count_more, count_end, one_at_most}
use Rattle.typed_prims.proofs.boxes.kept_count.Goals as goal

pub loop-place-preserved : goal.loop-place-preserved
loop-place-preserved c =
    let kept = c.loop-place.kept in
    let more : c.one_if-kept.result ≤ 1 = one_at_most c.is_marked.result c.one_if-kept.result c.one_if-kept.ensures in
    let few = c.loop-place.invariant.1 in
    (count_more (each cell_of c.args.marks.now) c.loop-place.place c.is_marked.result kept (kept + c.one_if-kept.result) c.is_marked.ensures c.loop-place.invariant.0 (ap (λ n. kept + n) c.one_if-kept.ensures), omega (arith, more, few))

pub returns : goal.returns
returns c =
    c.loop-place.invariant.0
    ∙ count_end cell_of c.args.marks.now c.args.count c.loop-place.place c.min-place-end.result c.min-place-end.ensures c.loop-place.auto.place-end (omega (arith, c.loop-place-test.false))
