-- Sorts of indices, and the first place that is ill-sorted.
use Rattle.std.specs.Prelude.{ℕ, ◌≡◌, Bool, true, false, List, Option, Some, None, slice_get, ⊤}
use Rattle.core_syntax.specs.declared.span.Span.{Span}
use Rattle.core_syntax.specs.declared.index.Sort.{Sort}
use Rattle.core_syntax.specs.declared.index.Sort.TheVariants as sort
use Rattle.core_syntax.specs.Syntax.{Index, Num, Var, Sum, Dims, Join, Indices, end, more, index_at}

-- a refusal: its number and its place
abbrev pub Refusal : Type 0
Refusal = ℕ × Span

-- an index has a sort in a context of sorts, the innermost first
abbrev mutual
  pub IsSorted : List Sort → Sort → Index → Type 0
  IsSorted sorts s (Num at n) = s ≡ sort.Dim
  IsSorted sorts s (Var at k) = slice_get sorts k ≡ Some s
  IsSorted sorts s (Sum at is) = (s ≡ sort.Dim) × AreSorted sorts sort.Dim is
  IsSorted sorts s (Dims at is) = (s ≡ sort.Shape) × AreSorted sorts sort.Dim is
  IsSorted sorts s (Join at is) = (s ≡ sort.Shape) × AreSorted sorts sort.Shape is

  -- each of a list of indices has the sort
  pub AreSorted : List Sort → Sort → Indices → Type 0
  AreSorted sorts s end = ⊤
  AreSorted sorts s (more i is) = IsSorted sorts s i × AreSorted sorts s is

-- the sort that an index has by its own form
abbrev pub own_sort : List Sort → Index → Option Sort
own_sort sorts (Num at n) = Some sort.Dim
own_sort sorts (Var at k) = slice_get sorts k
own_sort sorts (Sum at is) = Some sort.Dim
own_sort sorts (Dims at is) = Some sort.Shape
own_sort sorts (Join at is) = Some sort.Shape

-- whether an own sort is the one that is asked for
abbrev pub is_sort : Sort → Option Sort → Bool
is_sort s None = false
is_sort sort.Dim (Some sort.Dim) = true
is_sort sort.Dim (Some sort.Shape) = false
is_sort sort.Shape (Some sort.Dim) = false
is_sort sort.Shape (Some sort.Shape) = true

-- the first of two refusals
abbrev pub first_of_two : Option Refusal → Option Refusal → Option Refusal
first_of_two (Some r) later = Some r
first_of_two None later = later

-- a refusal where a test fails
abbrev pub refuse_unless : Bool → ℕ → Span → Option Refusal
refuse_unless true n at = None
refuse_unless false n at = Some (n, at)

-- the first of these indices that is of another sort by its own form
abbrev pub own_blame : List Sort → Sort → Indices → Option Refusal
own_blame sorts s end = None
own_blame sorts s (more i is) = first_of_two (refuse_unless (is_sort s (own_sort sorts i)) 14 (index_at i)) (own_blame sorts s is)

-- the first ill-sorted place inside an index: the sorts of all parts are tests of the node around them, and what is inside the parts comes after them
abbrev mutual
  pub inner_blame : List Sort → Index → Option Refusal
  inner_blame sorts (Num at n) = None
  inner_blame sorts (Var at k) = None
  inner_blame sorts (Sum at is) = first_of_two (own_blame sorts sort.Dim is) (inners_blame sorts is)
  inner_blame sorts (Dims at is) = first_of_two (own_blame sorts sort.Dim is) (inners_blame sorts is)
  inner_blame sorts (Join at is) = first_of_two (own_blame sorts sort.Shape is) (inners_blame sorts is)

  -- the first ill-sorted place inside these indices
  pub inners_blame : List Sort → Indices → Option Refusal
  inners_blame sorts end = None
  inners_blame sorts (more i is) = first_of_two (inner_blame sorts i) (inners_blame sorts is)

-- the first ill-sorted place of the parts of a node that are to have a sort
abbrev pub parts_blame : List Sort → Sort → Indices → Option Refusal
parts_blame sorts s is = first_of_two (own_blame sorts s is) (inners_blame sorts is)

-- the first ill-sorted place of an index argument that is to have a sort: it is well sorted first, and then of the sort
abbrev pub index_blame : List Sort → Sort → Index → Option Refusal
index_blame sorts s i = first_of_two (inner_blame sorts i) (refuse_unless (is_sort s (own_sort sorts i)) 14 (index_at i))

-- the refusal of an ill-sorted place
abbrev pub refused_at : Option Span → Option Refusal
refused_at None = None
refused_at (Some at) = Some (14, at)
