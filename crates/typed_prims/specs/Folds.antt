-- The items of folds.
use Rattle.std.specs.Prelude.{ℕ, List}
use Rattle.core_syntax.specs.Arrays.{Arrayed, array, runs}
use Rattle.core_syntax.specs.Lists.{each, product}
use Rattle.core_syntax.specs.RefineTerms.{TypedCell}
use Rattle.core_syntax.specs.Rules.{array_term}
use Rattle.core_syntax.specs.Syntax.{Ty}
use Rattle.core_syntax.specs.Typed.{typed_rules, TypedTerm}

-- so many cells of these dims
abbrev pub cells_of : ℕ → List ℕ → List TypedCell → List (Arrayed TypedCell)
cells_of count dims xs = each (array dims) (runs count (product dims) xs)

-- the same as terms, with this atom type where they are empty
abbrev pub item_terms : Ty → ℕ → List ℕ → List TypedCell → List TypedTerm
item_terms n count dims xs = each (array_term typed_rules n) (cells_of count dims xs)
