use Rattle.std.proofs.Common.{ap, sym, subst, ◌/◌, get_or}
use Rattle.machine.specs.Applied.{HasPlaces, placed}
use Rattle.machine.proofs.Placing.{same_item, change_more, change_done}
use Rattle.machine.proofs.applied.place_all.Goals as goal

pub places-requires : goal.places-requires
places-requires c =
    subst HasPlaces
    (sym (same_item (placed c.args.count) c.loop-argument.arguments c.args.arguments.now c.loop-argument.argument-index c.loop-argument.auto.arguments c.argument-item.result c.loop-argument-test.true c.loop-argument.invariant.1))
    (c.requires c.loop-argument.argument-index c.argument-item.result c.loop-argument-test.true)

pub loop-argument-preserved : goal.loop-argument-preserved
loop-argument-preserved c =
    change_more (placed c.args.count) c.loop-argument.arguments c.args.arguments.now c.loop-argument.argument-index c.loop-argument.auto.arguments c.argument-item.result _ c.loop-argument-test.true c.loop-argument.invariant
    (let item = get_or c.loop-argument.arguments c.loop-argument.argument-index c.argument-item.result in ap (λ n. record { array = item.array; rank = item.rank; repeat = c.args.count / n }) c.places.ensures.places)

pub returns : goal.returns
returns c = change_done (placed c.args.count) c.loop-argument.arguments c.args.arguments.now c.loop-argument.argument-index c.loop-argument.auto.arguments c.loop-argument-test.false c.loop-argument.invariant.0
