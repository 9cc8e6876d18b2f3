-- The first item that has all others as prefixes.
use Rattle.std.specs.Prelude.{ℕ, ◌<◌, List, All, length, take, slice_index_or, Option, MatchOption}

-- x has each of the items as a prefix, where R y x says that y is a prefix of x
abbrev pub HasAll : {X : Type 0} → (X → X → Type 0) → List X → X → Type 0
HasAll R xs x = All (λ y. R y x) xs

-- the item at the place k has all as prefixes and none before it does, or no item does
abbrev pub IsPrincipal : {X : Type 0} → (X → X → Type 0) → List X → Option ℕ → Type 0
IsPrincipal {X} R xs r =
    MatchOption r (All (λ x. ¬ HasAll R xs x) xs)
    (λ k. (k < length xs) × ((d : X) → HasAll R xs (slice_index_or xs k d)) × All (λ x. ¬ HasAll R xs x) (take k xs))
