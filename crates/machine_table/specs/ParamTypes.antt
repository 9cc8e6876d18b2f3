-- The types that the types of inputs stand for.
use Rattle.std.specs.Prelude.{List, [], ◌∷◌}
use Rattle.core_syntax.specs.Norm.{word_tree}
use Rattle.core_syntax.specs.Syntax.{Ty, BaseTy, Sigma, Arr, no_span}
use Rattle.core_syntax.specs.Word.{Word}
use Rattle.machine_table.specs.Codes.{Boxes, Param}

-- arrays of these atoms and this shape
abbrev pub arrays_of : Ty → Word → Ty
arrays_of t w = Arr no_span t (word_tree w)

-- arrays of a base type, in boxes in boxes, the outermost first
abbrev pub type_in : List Boxes → Ty → Word → Ty
type_in [] t w = arrays_of t w
type_in (x ∷ xs) t w = arrays_of (Sigma no_span x.sorts (type_in xs t w)) x.shape

-- the printable type, in normal form, that the type of an input stands for
abbrev pub type_of : Param → Ty
type_of p = type_in p.boxes (BaseTy no_span p.base) p.shape
