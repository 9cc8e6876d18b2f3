-- The dims of arrays and the values of indices that a run can hold.
use Rattle.std.specs.Prelude.{ℕ, ◌^◌, Bool, true, ◌&&◌, nat_lt, nat_le, List, [], ◌∷◌, length}
use Rattle.core_syntax.specs.Lists.{product}
use Rattle.core_syntax.specs.Terms.{IndexValue, DimValue, ShapeValue}

-- each number is below this one
abbrev pub all_below : ℕ → List ℕ → Bool
all_below n [] = true
all_below n (d ∷ ds) = nat_lt d n && all_below n ds

-- an array may have these dims: each at most 2^32 - 1, at most 64 of them, and a product of at most 2^24
abbrev pub forms : List ℕ → Bool
forms dims = all_below (2 ^ 32) dims && nat_le (length dims) 64 && nat_le (product dims) (2 ^ 24)

-- the value of an index of sort Dim that a run can keep
abbrev pub number_fits : ℕ → Bool
number_fits n = nat_lt n (2 ^ 32)

-- the value of an index of sort Shape that a run can keep
abbrev pub shape_fits : List ℕ → Bool
shape_fits dims = all_below (2 ^ 32) dims && nat_le (length dims) 64

-- an index value that a run can keep
abbrev pub value_fits : IndexValue → Bool
value_fits (DimValue n) = number_fits n
value_fits (ShapeValue s) = shape_fits s

-- a run can keep each of these
abbrev pub all_fit : List IndexValue → Bool
all_fit [] = true
all_fit (v ∷ vs) = value_fits v && all_fit vs
