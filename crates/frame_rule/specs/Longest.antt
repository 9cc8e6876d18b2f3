-- The first of the longest words.
use Rattle.std.specs.Prelude.{ℕ, ◌≡◌, ◌<◌, ◌≤◌, List, [], All, length, take, slice_index_or, Option, MatchOption}
use Rattle.core_syntax.specs.Word.{Word}

-- no word is longer, and those before it are shorter
abbrev pub IsFirstLongest : List Word → ℕ → Type 0
IsFirstLongest ws k =
    (k < length ws) × All (λ w. length w ≤ length (slice_index_or ws k [])) ws × All (λ w. length w < length (slice_index_or ws k [])) (take k ws)

-- the place of the first of the longest, or None where there is no word
abbrev pub IsLongest : List Word → Option ℕ → Type 0
IsLongest ws r = MatchOption r (length ws ≡ 0) (IsFirstLongest ws)
