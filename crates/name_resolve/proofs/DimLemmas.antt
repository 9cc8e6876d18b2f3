-- The numbers of arrays and frames.
use Rattle.std.proofs.Common.{◌≡◌, refl, sym, ap, ◌∙◌, ℕ, zero, suc, ◌+◌, ◌-◌, ◌*◌, ◌^◌, ◌<◌, ◌≤◌, min, max, arith, Bool, true, false, nat_lt, ◌==◌, List, [], ◌∷◌, ◌++◌, length, take, slice_index_or, Some, None, Ok, Err, if◌then◌else◌}
use Rattle.std.proofs.lemmas.Bool.Decides.{nat_tests}
use Rattle.std.proofs.Math.Nat.{mul-suc}
use Rattle.core_syntax.specs.declared.span.Span.{Span}
use Rattle.core_syntax.specs.Lists.{product}
use Rattle.sexp_reader.specs.declared.sexp.Sexp.{Sexp}
use Rattle.sexp_reader.specs.Forms.{Form, form_of, forms_of}
use Rattle.name_resolve.specs.Lists.{form_place, listed, nth}
use Rattle.name_resolve.specs.Reading.{Read, with, asked}
use Rattle.name_resolve.specs.TermForms.{numbers, of_rank, of_count, dims}
use Rattle.name_resolve.proofs.BinderLemmas.{take_item, take_all}
use Rattle.name_resolve.proofs.ListLemmas.{place_of}

-- the greatest number of 64 bits
abbrev pub greatest : ℕ
greatest = 2 ^ 64 - 1

product_one : (xs : List ℕ) (n : ℕ) → product (xs ++ n ∷ []) ≡ product xs * n
product_one [] n = omega arith
product_one (x ∷ xs) n = ap (λ m. x * m) (product_one xs n) ∙ grind arith

lt_true : (a b : ℕ) → true ≡ nat_lt a b → a < b
lt_true a b h = grind (arith, nat_tests)

lt_false : (a b : ℕ) → false ≡ nat_lt a b → b ≤ a
lt_false a b h = grind (arith, nat_tests)

min_times : (p n : ℕ) → min (min p greatest * n) greatest ≡ min (p * n) greatest
min_times p zero = omega arith
min_times p (suc n) = go (nat_lt greatest p) refl
  where
    go : (b : Bool) → b ≡ nat_lt greatest p → min (min p greatest * suc n) greatest ≡ min (p * suc n) greatest
    go true e = let h = lt_true greatest p e in omega (arith, h, mul-suc (min p greatest) n, mul-suc p n)
    go false e = let h : min p greatest ≡ p = omega (arith, lt_false greatest p e) in ap (λ m. min (m * suc n) greatest) h

-- one factor more
pub product_step : (xs : List ℕ) (k d p q : ℕ) → k < length xs → p ≡ min (product (take k xs)) greatest → q ≡ min (p * slice_index_or xs k d) greatest → q ≡ min (product (take (k + 1) xs)) greatest
product_step xs k d p q h e f =
    f ∙ ap (λ m. min (m * slice_index_or xs k d) greatest) e ∙ min_times (product (take k xs)) (slice_index_or xs k d)
    ∙ ap (λ m. min m greatest) (sym (product_one (take k xs) (slice_index_or xs k d)) ∙ ap product (sym (take_item k xs d h)))

pub product_end : (xs : List ℕ) (k p : ℕ) → length xs ≤ k → p ≡ min (product (take k xs)) greatest → p ≡ min (product xs) greatest
product_end xs k p h e = e ∙ ap (λ ys. min (product ys) greatest) (take_all k xs h)

eq_true : (a b : ℕ) → a ≡ b → (a == b) ≡ true
eq_true a b h = grind (arith, nat_tests)

eq_false : (a b : ℕ) → ¬ (a ≡ b) → (a == b) ≡ false
eq_false a b h = grind (arith, nat_tests)

-- the form behind so many
nth_at : (k : ℕ) (xs : List Sexp) (x d : Sexp) → k < length xs → x ≡ slice_index_or xs k d → nth k (forms_of xs) ≡ Some (form_of x)
nth_at k [] x d h e = absurd (omega arith)
nth_at zero (y ∷ ys) x d h e = ap (λ z. Some (form_of z)) (sym e)
nth_at (suc k) (y ∷ ys) x d h e = nth_at k ys x d (omega arith) e

nth_end : (k : ℕ) (xs : List Sexp) → length xs ≤ k → nth k (forms_of xs) ≡ None
nth_end zero [] h = refl
nth_end (suc k) [] h = refl
nth_end zero (y ∷ ys) h = absurd (omega arith)
nth_end (suc k) (y ∷ ys) h = nth_end k ys (omega arith)

module _ (at : Span) (p : Form) (items : ℕ) (forms : List Sexp) (ns : List ℕ) (e : listed p ≡ Some (forms_of forms)) (n : numbers (forms_of forms) ≡ Ok ns) where
  start : dims at p items ≡ with (of_rank (forms_of forms) ns) (of_count at items)
  start =
      ap (λ o. asked at o (λ fs. with (numbers fs) (λ ns. with (of_rank fs ns) (of_count at items)))) e ∙ ap (λ r. with r (λ ns. with (of_rank (forms_of forms) ns) (of_count at items))) n

  -- a number too many
  pub one_too_many : (x d : Sexp) → true ≡ nat_lt 64 (length forms) → x ≡ slice_index_or forms 64 d → dims at p items ≡ Err (12, x.at)
  one_too_many x d h i =
      start ∙ ap (λ o. with (elim o as (λ _. Read (List ℕ)) [ Some f ↦ Err (12, form_place f) | None ↦ Ok ns ]) (of_count at items)) (nth_at 64 forms x d (lt_true 64 (length forms) h) i)
      ∙ ap (λ q. Err (12, q)) (place_of x)

  ranked : false ≡ nat_lt 64 (length forms) → dims at p items ≡ of_count at items ns
  ranked h = start ∙ ap (λ o. with (elim o as (λ _. Read (List ℕ)) [ Some f ↦ Err (12, form_place f) | None ↦ Ok ns ]) (of_count at items)) (nth_end 64 forms (lt_false 64 (length forms) h))

  pub counted : false ≡ nat_lt 64 (length forms) → items ≡ max (min (product ns) greatest) 1 → items < 2 ^ 63 → dims at p items ≡ Ok ns
  counted h c few = ranked h ∙ ap (λ (b : Bool). if b then Ok ns else Err (10, at)) (eq_true items (max 1 (product ns)) (omega arith))

  pub miscounted : false ≡ nat_lt 64 (length forms) → ¬ (items ≡ max (min (product ns) greatest) 1) → items < 2 ^ 63 → dims at p items ≡ Err (10, at)
  miscounted h c few = ranked h ∙ ap (λ (b : Bool). if b then Ok ns else Err (10, at)) (eq_false items (max 1 (product ns)) (λ d. c (omega arith)))
