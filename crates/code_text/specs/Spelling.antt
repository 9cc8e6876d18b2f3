-- How the grammar writes lists.
use Rattle.std.specs.Prelude.{ℕ, List, [], ◌∷◌, ◌++◌, flat_map, codes}

module _ {A : Type 0} (text : A → List ℕ) where
  -- items, each behind a space
  abbrev pub spaced : List A → List ℕ
  spaced xs = flat_map (λ x. codes " " ++ text x) xs

  -- items with a space between them
  abbrev pub separated : List A → List ℕ
  separated [] = []
  separated (x ∷ xs) = text x ++ spaced xs

  -- the same in parentheses
  abbrev pub bracketed : List A → List ℕ
  bracketed xs = codes "(" ++ separated xs ++ codes ")"

  -- a word and items in parentheses
  abbrev pub headed : List ℕ → List A → List ℕ
  headed word xs = codes "(" ++ word ++ spaced xs ++ codes ")"

  -- items, each on a line
  abbrev pub lines : List A → List ℕ
  lines xs = flat_map (λ x. text x ++ codes "\n") xs
