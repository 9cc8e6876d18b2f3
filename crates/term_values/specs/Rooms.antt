-- Room for the cells of a frame.
use Rattle.std.specs.Prelude.{ℕ, Bool, ◌≡◌, List, ◌++◌, ⊤}
use Rattle.core_syntax.specs.Fits.{forms}
use Rattle.core_syntax.specs.Rules.{dims_of}
use Rattle.core_syntax.specs.Terms.{Terms, no_terms, more_terms}
use Rattle.core_syntax.specs.Typed.{typed, typed_rules}

-- whether an array may have the dims of a frame followed by those of the first of its cells
abbrev pub FirstHasRoom : List ℕ → Terms typed → Bool → Type 0
FirstHasRoom frame no_terms b = ⊤
FirstHasRoom frame (more_terms t ts) b = b ≡ forms (frame ++ dims_of typed_rules t)
