use Rattle.std.proofs.Common.{◌<◌, ap, sym, subst, ◌∙◌, length, slice_get}
use Rattle.array_values.specs.Lent.{value_of}
use Rattle.machine.proofs.Ahead.{place_given}
use Rattle.machine.proofs.Placed.{all_reach, function_within, applied_place}
use Rattle.machine.proofs.scalars.scalar_at.Goals as goal

pub atom_at-atom-requires : goal.atom_at-atom-requires
atom_at-atom-requires c =
    subst (λ n. n < length c.args.function.now.array.atoms) (sym c.part.ensures)
    (function_within c.args.frame.now c.args.count c.args.function.now c.requires.function c.requires.whole c.requires.count_is c.args.place c.requires.place)

pub on_atom-requires-clause-cells : goal.on_atom-requires-clause-cells
on_atom-requires-clause-cells c = all_reach c.args.frame.now c.args.count c.args.place c.args.arguments.now c.requires.arguments c.requires.place

pub returns : goal.returns
returns c =
    place_given c.scalar_given.result c.on_atom.result c.scalar_given.ensures (value_of c.atom_at-atom.result) _ c.on_atom.ensures _
    (applied_place c.args.frame.now c.args.count c.args.function.now c.requires.function c.requires.whole c.requires.count_is c.args.place c.requires.place c.args.arguments.now (value_of c.atom_at-atom.result) c.requires.arguments
    (ap (slice_get c.args.function.now.array.atoms) (sym c.part.ensures) ∙ c.atom_at-atom.ensures.atom))
