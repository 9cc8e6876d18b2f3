-- The value of an index, and when two indices are equal.
use Rattle.std.specs.Prelude.{ℕ, ◌+◌, List, [], ◌∷◌, ◌++◌, ◌≡◌}
use Rattle.core_syntax.specs.declared.index.Sort.{Sort}
use Rattle.core_syntax.specs.declared.index.Sort.TheVariants as sort
use Rattle.core_syntax.specs.Syntax.{Index, Num, Var, Sum, Dims, Join, Indices, end, more, no_span}
use Rattle.core_syntax.specs.Sorts.{IsSorted}

-- what each variable stands for: one of sort Dim for a number, one of sort Shape for a list
pub record Valuation : Type 0 where
  pub dim : ℕ → ℕ
  pub shape : ℕ → List ℕ

-- the value of an index of sort Dim
abbrev mutual
  pub dim_val : Valuation → Index → ℕ
  dim_val v (Num at n) = n
  dim_val v (Var at k) = v.dim k
  dim_val v (Sum at is) = dim_sum v is
  dim_val v (Dims at is) = 0
  dim_val v (Join at is) = 0

  -- the sum of a list of them
  pub dim_sum : Valuation → Indices → ℕ
  dim_sum v end = 0
  dim_sum v (more i is) = dim_val v i + dim_sum v is

-- the values of a list of indices of sort Dim
abbrev pub dim_vals : Valuation → Indices → List ℕ
dim_vals v end = []
dim_vals v (more i is) = dim_val v i ∷ dim_vals v is

-- the value of an index of sort Shape
abbrev mutual
  pub shape_val : Valuation → Index → List ℕ
  shape_val v (Num at n) = []
  shape_val v (Var at k) = v.shape k
  shape_val v (Sum at is) = []
  shape_val v (Dims at is) = dim_vals v is
  shape_val v (Join at is) = shape_join v is

  -- the lists of a list of them, joined
  pub shape_join : Valuation → Indices → List ℕ
  shape_join v end = []
  shape_join v (more i is) = shape_val v i ++ shape_join v is

-- two dims agree under every valuation
abbrev pub SameDim : Index → Index → Type 0
SameDim i j = (v : Valuation) → dim_val v i ≡ dim_val v j

-- two shapes agree under every valuation
abbrev pub SameShape : Index → Index → Type 0
SameShape i j = (v : Valuation) → shape_val v i ≡ shape_val v j

-- two indices agree at a sort
abbrev pub SameAt : Sort → Index → Index → Type 0
SameAt sort.Dim i j = SameDim i j
SameAt sort.Shape i j = SameShape i j

-- two indices of one sort of a context are equal
abbrev pub IndexEqual : List Sort → Sort → Index → Index → Type 0
IndexEqual sorts s i j = IsSorted sorts s i × IsSorted sorts s j × SameAt s i j

-- the shape p followed by the shape q
abbrev pub then_shape : Index → Index → Index
then_shape p q = Join no_span (more p (more q end))

-- the first shape of a context is a prefix of the second
abbrev pub IsPrefix : List Sort → Index → Index → Type 0
IsPrefix sorts p q = (r : Index) × IndexEqual sorts sort.Shape (then_shape p r) q
