use Rattle.std.proofs.Common.{◌≡◌, drop}
use Rattle.core_syntax.specs.Refine.{atoms_of}
use Rattle.core_syntax.specs.Typing.{are_value_atoms}
use Rattle.type_check.proofs.values.are_values.Given as goal

abbrev pub invariant-loop-a : goal.invariant-loop-a
invariant-loop-a l = are_value_atoms (atoms_of l.fn.atoms) ≡ are_value_atoms (atoms_of (drop l.a-index l.fn.atoms))
