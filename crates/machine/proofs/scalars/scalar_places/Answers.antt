use Rattle.std.proofs.Common.{arith, refl, sym, ◌-◌, Some}
use Rattle.std.proofs.lemmas.Bool.{lt-ltb}
use Rattle.machine.specs.Works.{work_places}
use Rattle.machine.proofs.Ahead.{scalar_count, scalar_full, as_scalars, no_dims, led}
use Rattle.machine.proofs.scalars.scalar_places.Goals as goal

pub push_places-requires-clause-given : goal.push_places-requires-clause-given
push_places-requires-clause-given c =
    let map = c.args.map in
    scalar_count (λ v. v.items) map.given map.cell map.results.items (c.are_scalars.ensures c.if-not-are_scalars.false) map.works.begun map.works.full

pub returns-clause-leads : goal.returns-clause-leads
returns-clause-leads c = λ blocks s.
    let map = c.args.map in
    let place = c.in_ok-place.place in
    led blocks s map.frame.items c.deref.result.now map.work (place - map.given) _ _ _ map.results.items c.push_places.new.results.items c.deref.ensures.value (c.in_ok-place.ensures.leads blocks s)
    (as_scalars (λ v. v.items) map.frame.items (work_places map.frame.items map.work) map.given map.cell map.results.items (c.are_scalars.ensures c.if-not-are_scalars.false) map.works.begun map.works.full)
    (as_scalars (λ v. v.items) map.frame.items (work_places map.frame.items map.work) place (Some c.new.result) c.push_places.new.results.items (no_dims (λ v. v.items) c.new.result c.new.ensures.items)
    (sym (lt-ltb 0 place (omega (arith, c.if-place-given.false, c.in_ok-place.ensures.least)))) (scalar_full (λ v. v.items) place c.new.result c.push_places.new.results.items c.in_ok-place.ensures.place c.new.ensures.items))
    refl
