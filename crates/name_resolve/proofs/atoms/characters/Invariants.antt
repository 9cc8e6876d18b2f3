use Rattle.std.proofs.Common.{◌≡◌, drop}
use Rattle.core_syntax.specs.Refine.{atom_of}
use Rattle.core_syntax.specs.Syntax.{more_atoms}
use Rattle.name_resolve.specs.TermForms.{chars}
use Rattle.name_resolve.proofs.Loops.{before}
use Rattle.name_resolve.proofs.atoms.characters.Given as goal

abbrev pub invariant-loop-byte : goal.invariant-loop-byte
invariant-loop-byte l = chars l.at l.bytes ≡ before atom_of more_atoms l.atoms.items (chars l.at (drop l.byte-index l.bytes))
