-- The longest of frames.
use Rattle.std.specs.Prelude.{ℕ, true, false, nat_lt, List, [], ◌∷◌, length}

-- the longer of two frames, the first where they are alike
abbrev pub longer : List ℕ → List ℕ → List ℕ
longer f g = elim (nat_lt (length f) (length g)) [ true ↦ g | false ↦ f ]

-- the first of the longest of a frame and others
abbrev pub longest : List ℕ → List (List ℕ) → List ℕ
longest f [] = f
longest f (g ∷ gs) = longest (longer f g) gs
