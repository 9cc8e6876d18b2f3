-- An index is well sorted exactly where nothing in it is blamed.
use Rattle.std.proofs.Common.{◌≡◌, refl, sym, ap, ◌∙◌, ℕ, arith, inl, inr, length, List, Bool, true, false, Option, Some, None}
use Rattle.std.proofs.lemmas.Option.{slice_get_cases}
use Rattle.core_syntax.specs.declared.span.Span.{Span}
use Rattle.core_syntax.specs.declared.index.Sort.{Sort}
use Rattle.core_syntax.specs.declared.index.Sort.TheVariants as sort
use Rattle.core_syntax.specs.Syntax.{Index, Num, Var, Sum, Dims, Join, Indices, end, more, index_at}
use Rattle.core_syntax.specs.Sorts.{Refusal, IsSorted, AreSorted, own_sort, is_sort, first_of_two, refuse_unless, own_blame, inner_blame, inners_blame}
use Rattle.core_syntax.specs.Made.{IndexMade}

pub is_some : (s : Sort) (o : Option Sort) → is_sort s o ≡ true → o ≡ Some s
is_some s None e = cc
is_some sort.Dim (Some sort.Dim) e = refl
is_some sort.Dim (Some sort.Shape) e = cc
is_some sort.Shape (Some sort.Dim) e = cc
is_some sort.Shape (Some sort.Shape) e = refl

is_own : (s : Sort) → is_sort s (Some s) ≡ true
is_own sort.Dim = refl
is_own sort.Shape = refl

pub first_none : (a b : Option Refusal) → first_of_two a b ≡ None → (a ≡ None) × (b ≡ None)
first_none (Some r) b e = cc
first_none None b e = (refl, e)

pub first_both : (a b : Option Refusal) → a ≡ None → b ≡ None → first_of_two a b ≡ None
first_both None b p q = q
first_both (Some r) b p q = cc

pub unless_none : (b : Bool) (n : ℕ) (at : Span) → refuse_unless b n at ≡ None → b ≡ true
unless_none true n at e = refl
unless_none false n at e = cc

pub unless_true : (b : Bool) (n : ℕ) (at : Span) → b ≡ true → refuse_unless b n at ≡ None
unless_true true n at e = refl
unless_true false n at e = cc

pub own_is : (s : Sort) (o : Option Sort) → o ≡ Some s → is_sort s o ≡ true
own_is s o e = ap (is_sort s) e ∙ is_own s

mutual
  pub sorted_from : (sorts : List Sort) (s : Sort) (i : Index) → own_sort sorts i ≡ Some s → inner_blame sorts i ≡ None → IsSorted sorts s i
  sorted_from sorts s (Num at n) e none = cc
  sorted_from sorts s (Var at k) e none = e
  sorted_from sorts s (Sum at is) e none = (cc, parts_from sorts sort.Dim is (first_none _ _ none).0 (first_none _ _ none).1)
  sorted_from sorts s (Dims at is) e none = (cc, parts_from sorts sort.Dim is (first_none _ _ none).0 (first_none _ _ none).1)
  sorted_from sorts s (Join at is) e none = (cc, parts_from sorts sort.Shape is (first_none _ _ none).0 (first_none _ _ none).1)

  parts_from : (sorts : List Sort) (s : Sort) (is : Indices) → own_blame sorts s is ≡ None → inners_blame sorts is ≡ None → AreSorted sorts s is
  parts_from sorts s end p q = tt
  parts_from sorts s (more i is) p q =
      let own = first_none (refuse_unless (is_sort s (own_sort sorts i)) 14 (index_at i)) (own_blame sorts s is) p in
      let inner = first_none (inner_blame sorts i) (inners_blame sorts is) q in
      (sorted_from sorts s i (is_some s (own_sort sorts i) (unless_none _ _ _ own.0)) inner.0, parts_from sorts s is own.1 inner.1)

mutual
  pub sorted_to : (sorts : List Sort) (s : Sort) (i : Index) → IsSorted sorts s i → (own_sort sorts i ≡ Some s) × (inner_blame sorts i ≡ None)
  sorted_to sorts s (Num at n) h = (ap (λ a. Some a) (sym h), refl)
  sorted_to sorts s (Var at k) h = (h, refl)
  sorted_to sorts s (Sum at is) h = (ap (λ a. Some a) (sym h.0), parts_to sorts sort.Dim is h.1)
  sorted_to sorts s (Dims at is) h = (ap (λ a. Some a) (sym h.0), parts_to sorts sort.Dim is h.1)
  sorted_to sorts s (Join at is) h = (ap (λ a. Some a) (sym h.0), parts_to sorts sort.Shape is h.1)

  parts_to : (sorts : List Sort) (s : Sort) (is : Indices) → AreSorted sorts s is → first_of_two (own_blame sorts s is) (inners_blame sorts is) ≡ None
  parts_to sorts s end h = refl
  parts_to sorts s (more i is) h =
      let first = sorted_to sorts s i h.0 in
      let others = first_none (own_blame sorts s is) (inners_blame sorts is) (parts_to sorts s is h.1) in
      first_both (first_of_two (refuse_unless (is_sort s (own_sort sorts i)) 14 (index_at i)) (own_blame sorts s is)) (first_of_two (inner_blame sorts i) (inners_blame sorts is))
      (first_both (refuse_unless (is_sort s (own_sort sorts i)) 14 (index_at i)) (own_blame sorts s is) (unless_true (is_sort s (own_sort sorts i)) 14 (index_at i) (own_is s (own_sort sorts i) first.0)) others.0)
      (first_both (inner_blame sorts i) (inners_blame sorts is) first.1 others.1)

-- in range, each index has an own sort
pub own_made : (sorts : List Sort) (i : Index) → IndexMade (length sorts) i → own_sort sorts i ≡ None → ⊥
own_made sorts (Num at n) h e = cc
own_made sorts (Var at k) h e = elim ((slice_get_cases sorts k).1) [
  | inl found ↦ let some = found.2 in cc
  | inr past ↦ let p = past.0 in omega arith
]
own_made sorts (Sum at is) h e = cc
own_made sorts (Dims at is) h e = cc
own_made sorts (Join at is) h e = cc
