use Rattle.std.proofs.Common.{arith, ◌≡◌, ◌∙◌, sym, ap, ◌<◌, ◌++◌, min, []}
use Rattle.std.specs.Prelude.{if◌then◌else◌}
use Rattle.core_syntax.specs.Lists.{each, joined, product}
use Rattle.core_syntax.specs.RefineTerms.{cell_of}
use Rattle.naturality.proofs.Eaches.{each_length}
use Rattle.typed_prims.proofs.Marks.{kept_more, kept_end}
use Rattle.typed_prims.proofs.boxes.kept_atoms.Goals as goal

pub loop-place-preserved : goal.loop-place-preserved
loop-place-preserved c = λ r.
    let k = c.loop-place.place in
    let inside : k < c.args.count = omega (arith, c.loop-place-test.true, c.min-place-end.ensures) in
    c.in_ok-push_if.ensures ∙ ap (λ ys. c.loop-place.all.items ++ (if c.is_marked.result then ys else [])) c.at.ensures
    ∙ kept_more r (each cell_of c.args.marks.now) c.args.count (product c.args.cell.now) c.args.atoms.now c.loop-place.all.items k c.is_marked.result inside c.is_marked.ensures (c.loop-place.invariant r)

pub returns : goal.returns
returns c = λ r.
    let k = c.loop-place.place in
    c.loop-place.invariant r
    ∙ ap joined
    (kept_end r (each cell_of c.args.marks.now) c.args.count (product c.args.cell.now) c.args.atoms.now k c.min-place-end.result
    (c.min-place-end.ensures ∙ ap (λ n. min n c.args.count) (sym (each_length cell_of c.args.marks.now))) c.loop-place.auto.place-end (omega (arith, c.loop-place-test.false)))
