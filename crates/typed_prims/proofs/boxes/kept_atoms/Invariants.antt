use Rattle.std.proofs.Common.{◌≡◌, take}
use Rattle.core_syntax.specs.Arrays.{runs}
use Rattle.core_syntax.specs.Delta.{masked}
use Rattle.core_syntax.specs.Lists.{each, joined, product}
use Rattle.core_syntax.specs.RefineTerms.{cell_of}
use Rattle.core_syntax.specs.Rules.{atom_rules}
use Rattle.core_syntax.specs.Syntax.{Ty}
use Rattle.core_syntax.specs.Typed.{typed_rules}
use Rattle.typed_prims.proofs.boxes.kept_atoms.Given as goal

abbrev pub invariant-loop-place : goal.invariant-loop-place
invariant-loop-place l = (r : Ty) → l.all.items ≡ joined (masked (atom_rules typed_rules r) (take l.place (each cell_of l.marks)) (runs l.place (product l.cell) l.atoms))
