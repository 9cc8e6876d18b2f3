use Rattle.std.proofs.Common.{◌∷◌}
use Rattle.machine.specs.Refines.{below_of, map_from}
use Rattle.machine.proofs.Runs.{behind_none}
use Rattle.machine.proofs.step.map_steps.Goals as goal

pub returns-then-done-eq0-clause-next : goal.returns-then-done-eq0-clause-next
returns-then-done-eq0-clause-next c =
    behind_none c.args.blocks.now c.one.result c.in_ok-map.done _ (map_from c.in_ok-map.map.given c.in_ok-map.map ∷ below_of c.args.blocks.now c.args.below.items)
    (c.in_ok-map.ensures.leads c.args.blocks.now (below_of c.args.blocks.now c.args.below.items)) c.if-done-eq0.true
    (c.one.ensures.next c.args.blocks.now _ c.step_map.ensures)

pub returns-clause-next : goal.returns-clause-next
returns-clause-next c = c.in_ok-map.ensures.leads c.args.blocks.now (below_of c.args.blocks.now c.args.below.items)
