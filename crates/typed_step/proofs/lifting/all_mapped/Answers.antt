use Rattle.std.proofs.Common.{◌≡◌, sym, subst, ◌++◌, ◌∷◌, [], length, rules, arith}
use Rattle.std.proofs.lemmas.Iterator.{YieldsList-from_zip, YieldsList-from_range, YieldsList-from_slice}
use Rattle.std.proofs.lemmas.Iterator.Consumers.{YieldsList-turn, YieldsList-end}
use Rattle.std.proofs.lemmas.List.{length_push}
use Rattle.std.specs.Iterator.Adapters.{zip_first, zip_second}
use Rattle.std.specs.Slice.Iter.{iter_rest}
use Rattle.core_syntax.specs.RefineTerms.{term_of}
use Rattle.core_syntax.specs.Rules.{atoms_of}
use Rattle.core_syntax.specs.Typed.{typed_rules}
use Rattle.typed_step.proofs.CellTrees.{Mapped, mapped_more, mapped_end, place_turn, place_end}
use Rattle.typed_step.proofs.lifting.all_mapped.Goals as goal

pub loop-place-preserved : goal.loop-place-preserved
loop-place-preserved c =
    let n = c.args.count in
    let fs = c.atoms-functions.result.now in
    let gs = atoms_of typed_rules (term_of c.args.application.function.now) in
    let ks = c.args.ranks.now in
    let a = c.args.application in
    let all = c.into_iter-place-iterator.result in
    let e : c.push.new.self.items ≡ c.loop-place.cells.items ++ c.in_ok-cell.cell ∷ [] = search rules in
    let places : zip_first all ≡ record { start = 0; end = n } = search rules in
    let functions : iter_rest (zip_second all) ≡ fs = search rules in
    let yields = YieldsList-from_zip {s = all} (YieldsList-from_range 0 n n places (omega arith)) (YieldsList-from_slice fs functions) in
    let k = length c.loop-place.yielded in
    let f = c.in-Some.function.now in
    let turn = place_turn n fs k c.in-Some.place f (YieldsList-turn yields c.loop-place.yielded _ c.loop-place.yielded_by _ c.next.new.self (c.in-Some.place, c.in-Some.function) c.in-Some.is c.next.ensures.steps) in
    let next = c.push.new.self.items in
    subst (λ k. Mapped next k n gs ks a.args.now a.cells.now a.answer.now) (sym (length_push c.loop-place.yielded (c.in-Some.place, c.in-Some.function)))
    (mapped_more n fs gs ks a.args.now a.cells.now a.answer.now c.atoms-functions.ensures c.loop-place.cells.items next k c.in-Some.place f c.in_ok-cell.cell turn.0 turn.1 turn.2 turn.3 e c.in_ok-cell.ensures c.loop-place.invariant)

pub returns : goal.returns
returns c =
    let n = c.args.count in
    let fs = c.atoms-functions.result.now in
    let a = c.args.application in
    let all = c.into_iter-place-iterator.result in
    let places : zip_first all ≡ record { start = 0; end = n } = search rules in
    let functions : iter_rest (zip_second all) ≡ fs = search rules in
    let yields = YieldsList-from_zip {s = all} (YieldsList-from_range 0 n n places (omega arith)) (YieldsList-from_slice fs functions) in
    let end = YieldsList-end yields c.loop-place.yielded _ c.loop-place.yielded_by _ c.next.new.self c.in-None.is c.next.ensures.steps in
    mapped_end n fs (atoms_of typed_rules (term_of a.function.now)) c.args.ranks.now a.args.now a.cells.now a.answer.now c.atoms-functions.ensures
    c.loop-place.cells.items (length c.loop-place.yielded) (place_end n fs (length c.loop-place.yielded) end.1) c.loop-place.invariant
