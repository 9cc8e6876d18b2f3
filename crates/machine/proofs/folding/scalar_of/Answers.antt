use Rattle.array_values.specs.Lent.{value_of}
use Rattle.machine.proofs.Ahead.{array_given, empty_dims, has_atom}
use Rattle.machine.proofs.folding.scalar_of.Goals as goal

pub atom_at-requires : goal.atom_at-requires
atom_at-requires c = has_atom c.args.array.now c.dims-dims.ensures.array (empty_dims c.dims-dims.result.now c.args.array.now.dims c.dims-dims.ensures.dims c.if-not-is_empty.ensures)

pub returns : goal.returns
returns c =
    array_given c.args.array.now c.dims-dims.ensures.array (empty_dims c.dims-dims.result.now c.args.array.now.dims c.dims-dims.ensures.dims c.if-not-is_empty.ensures) c.lent_scalar.result (value_of c.atom_at.result) c.lent_scalar.ensures
    c.atom_at.ensures.atom
