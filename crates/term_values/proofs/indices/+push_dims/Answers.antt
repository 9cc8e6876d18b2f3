use Rattle.std.proofs.Common.{refl, sym, subst, IfOk}
use Rattle.core_syntax.specs.Refine.{index_of}
use Rattle.core_syntax.specs.Typed.{closed}
use Rattle.core_syntax.specs.Value.{shape_val, shape_join}
use Rattle.core_syntax.proofs.PartLemmas.{is_dims, is_join}
use Rattle.term_values.specs.Indices.{Pushed}
use Rattle.term_values.proofs.Pushes.{pushing_more, pushing_stops, pushing_ends}
use Rattle.term_values.proofs.indices.+push_dims.Goals as goal

pub push_dims-returns-in-Dims : goal.push_dims-returns-in-Dims
push_dims-returns-in-Dims t c =
    subst (λ i. IfOk c.push_numbers.result (λ all. Pushed all c.args.dims.now.items c.push_numbers.new.dims.items (shape_val closed i))) (sym (is_dims c.args.index.now _ _ c.as_slice.ensures c.in-Dims.is)) c.push_numbers.ensures

pub push_dims-returns-in-Join : goal.push_dims-returns-in-Join
push_dims-returns-in-Join t c =
    subst (λ i. IfOk c.push_all.result (λ all. Pushed all c.args.dims.now.items c.push_all.new.dims.items (shape_val closed i))) (sym (is_join c.args.index.now _ _ c.as_slice-in-Join.ensures c.in-Join.is)) c.push_all.ensures

pub push_all-loop-part-preserved : goal.push_all-loop-part-preserved
push_all-loop-part-preserved t c =
    let all = subst (λ b. Pushed b c.loop-part.dims.items c.push_dims.new.dims.items (shape_val closed (index_of c.part-item.result))) c.if-not-branch.false c.in_ok-push_dims.ensures in
    pushing_more (shape_val closed) (shape_join closed) refl (λ i is. refl) c.args.parts.now c.loop-part.part-index c.part-item.result c.args.dims.now.items c.loop-part.dims.items c.push_dims.new.dims.items
    c.loop-part-test.true c.part-item.is all.0 all.1 c.loop-part.invariant

pub push_all-returns : goal.push_all-returns
push_all-returns t c = pushing_ends (shape_val closed) (shape_join closed) refl (λ i is. refl) c.args.parts.now c.loop-part.part-index c.args.dims.now.items c.loop-part.dims.items c.loop-part-test.false c.loop-part.invariant

pub push_all-returns-then-not-branch : goal.push_all-returns-then-not-branch
push_all-returns-then-not-branch t c =
    let large = subst (λ b. Pushed b c.loop-part.dims.items c.push_dims.new.dims.items (shape_val closed (index_of c.part-item.result))) c.if-not-branch.true c.in_ok-push_dims.ensures in
    pushing_stops (shape_val closed) (shape_join closed) refl (λ i is. refl) c.args.parts.now c.loop-part.part-index c.part-item.result c.args.dims.now.items c.loop-part.dims.items
    c.loop-part-test.true c.part-item.is large c.loop-part.invariant
