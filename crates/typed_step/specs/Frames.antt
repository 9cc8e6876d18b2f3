-- Frames by their ranks.
use Rattle.std.specs.Prelude.{ℕ, Bool, ◌≡◌, List, [], ◌∷◌, ◌++◌, ◌*◌, zero, suc, ◌≤◌, ◌⊎◌, length, take, drop, ⊤}
use Rattle.core_syntax.specs.Fits.{forms}
use Rattle.core_syntax.specs.Arrays.{array}
use Rattle.core_syntax.specs.Lists.{product}
use Rattle.core_syntax.specs.Rules.{dims_of, atoms_of, part_of}
use Rattle.core_syntax.specs.Terms.{Terms, no_terms, more_terms}
use Rattle.core_syntax.specs.Typed.{typed, typed_rules, TypedTerm}

-- the first so many dims of each
abbrev pub fronts : List ℕ → List (List ℕ) → List (List ℕ)
fronts (k ∷ ks) (d ∷ ds) = take k d ∷ fronts ks ds
fronts _ _ = []

-- and the dims behind them
abbrev pub backs : List ℕ → List (List ℕ) → List (List ℕ)
backs (k ∷ ks) (d ∷ ds) = drop k d ∷ backs ks ds
backs _ _ = []

-- a list is one of these
abbrev pub IsOneOf : List ℕ → List (List ℕ) → Type 0
IsOneOf f [] = ⊥
IsOneOf f (g ∷ gs) = (f ≡ g) ⊎ IsOneOf f gs

-- it is one of these, and none of them is longer
abbrev pub IsLongest : List ℕ → List (List ℕ) → Type 0
IsLongest f gs = IsOneOf f gs × ((g : List ℕ) → IsOneOf g gs → length g ≤ length f)

-- the cell of a value at a place, where its frame has this rank
abbrev pub one_at : ℕ → ℕ → TypedTerm → TypedTerm
one_at place k t =
    let cell = drop k (dims_of typed_rules t) in
    part_of typed_rules t (array cell (take (product cell) (drop (place * product cell) (atoms_of typed_rules t))))

-- the cells of values at a place
abbrev pub cells_at : ℕ → List ℕ → List TypedTerm → List TypedTerm
cells_at place (k ∷ ks) (t ∷ ts) = one_at place k t ∷ cells_at place ks ts
cells_at place _ _ = []

-- the cells of values at each of so many places from a first one
abbrev pub columns_at : ℕ → ℕ → List ℕ → List TypedTerm → List (List TypedTerm)
columns_at from zero ks ts = []
columns_at from (suc n) ks ts = cells_at from ks ts ∷ columns_at (suc from) n ks ts
