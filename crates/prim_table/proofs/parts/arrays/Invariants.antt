use Rattle.std.proofs.Common.{◌≡◌, take}
use Rattle.core_syntax.specs.Lists.{each}
use Rattle.core_syntax.specs.Refine.{tys_of}
use Rattle.core_syntax.specs.Syntax.{ty_list}
use Rattle.prim_table.specs.Parts.{part_of}
use Rattle.prim_table.proofs.parts.arrays.Given as goal

abbrev pub invariant-loop-part : goal.invariant-loop-part
invariant-loop-part l = tys_of l.types.items ≡ ty_list (each part_of (take l.part-index l.parts))
