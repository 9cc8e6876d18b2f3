-- What a name that was read byte by byte is the name of.
use Rattle.std.proofs.Common.{◌≡◌, ℕ, List, length, Option, sym, ap, ◌∙◌}
use Rattle.std.proofs.lemmas.Slice.Eq.{text_from_reads, HasBytesAt}
use Rattle.core_syntax.specs.declared.primitive.Primitive.{Primitive}
use Rattle.prim_table.specs.Names.{named}

pub is_named : (s p : List ℕ) (r : Option Primitive) → r ≡ named p → length s ≡ length p → HasBytesAt s 0 p → r ≡ named s
is_named s p r e l h = e ∙ ap named (sym (text_from_reads s p l h))
