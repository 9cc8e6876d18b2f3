use Rattle.std.proofs.Common.{◌≡◌, take}
use Rattle.core_syntax.specs.Lists.{each, joined}
use Rattle.core_syntax.specs.RefineTerms.{cell_of}
use Rattle.typed_step.proofs.CollapseRules.{atoms_in}
use Rattle.typed_step.proofs.rules.joined_atoms.Given as goal

abbrev pub invariant-loop-cell : goal.invariant-loop-cell
invariant-loop-cell l = each cell_of l.atoms.items ≡ joined (each atoms_in (take l.cell-index l.cells))
