use Rattle.array_values.specs.Lent.{value_of}
use Rattle.machine.specs.Scalars.{given_atom}
use Rattle.machine.proofs.Ahead.{item_within, item_is, turn_given}
use Rattle.machine.proofs.folding.turn.Goals as goal

pub atom_at-item-requires : goal.atom_at-item-requires
atom_at-item-requires c = item_within c.args.items.now c.requires.rank c.args.place c.dims-dims.ensures.array c.requires.place

pub returns : goal.returns
returns c =
    turn_given c.scalar_given.result c.on_given.result c.args.function.now (given_atom c.args.accumulator) (value_of c.atom_at-item.result) _ c.scalar_given.ensures c.on_given.ensures
    (item_is c.args.items.now c.requires.rank c.args.place (value_of c.atom_at-item.result) c.requires.place c.atom_at-item.ensures.atom)
