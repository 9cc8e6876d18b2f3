use Rattle.std.proofs.Common.{◌≡◌, take}
use Rattle.core_syntax.specs.Lists.{each}
use Rattle.core_syntax.specs.Refine.{tys_of}
use Rattle.core_syntax.specs.Syntax.{ty_items}
use Rattle.core_syntax.specs.Notes.{shape_word}
use Rattle.type_check.proofs.notes.shape_words.Given as goal

abbrev pub invariant-loop-ty : goal.invariant-loop-ty
invariant-loop-ty l = l.words.items ≡ each shape_word (ty_items (tys_of (take l.ty-index l.types)))
