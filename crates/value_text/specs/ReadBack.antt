-- The texts of values, read back as data.
use Rattle.std.specs.Prelude.{ℕ, ◌≤◌, List, [], ◌∷◌, ◌++◌, length}
use Rattle.std.specs.List.{All}
use Rattle.core_syntax.specs.Data.{FitsValues}
use Rattle.core_syntax.specs.Lists.{each}
use Rattle.sexp_reader.specs.Forms.{forms_nesting}
use Rattle.array_values.specs.Data.{array_data}
use Rattle.array_values.specs.Values.{Array}
use Rattle.machine_table.specs.CodeBounds.{IsParam}
use Rattle.machine_table.specs.Codes.{Param}
use Rattle.machine_table.specs.ParamTypes.{type_of}
use Rattle.value_text.specs.DataFits.{Fits}
use Rattle.value_text.specs.DataTexts.{longest_data}
use Rattle.value_text.specs.Shown.{shown_values}
use Rattle.value_text.specs.ValueText.{spaced, array_text}

-- the texts of arrays, with single spaces between them
abbrev pub array_texts : List Array → List ℕ
array_texts [] = []
array_texts (a ∷ as') = array_text a ++ spaced array_text as'

-- the texts of arrays that fit the types of inputs, where they are short enough and nest at most 256 deep, are data of these
-- types: the same arrays
abbrev pub TextsFit : Type 0
TextsFit = (ps : List Param) (as' : List Array) → All IsParam ps → FitsValues (each type_of ps) (each array_data as') → length (array_texts as') ≤ longest_data → forms_nesting (shown_values (each array_data as')) ≤ 256
    → Fits (array_texts as') (each type_of ps) (each array_data as')
