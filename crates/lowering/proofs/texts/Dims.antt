-- Dims that an array may have, by their product.
use Rattle.std.proofs.Common.{◌≡◌, refl, sym, ap, ◌∙◌, ℕ, zero, suc, ◌+◌, ◌*◌, ◌<◌, ◌≤◌, ◌^◌, arith, Bool, true, false, List, [], ◌∷◌}
use Rattle.std.specs.Prelude.{◌&&◌, nat_lt}
use Rattle.std.proofs.lemmas.Bool.Decides.{nat_tests}
use Rattle.core_syntax.specs.Lists.{product, Each}
use Rattle.core_syntax.specs.Fits.{all_below}
use Rattle.core_syntax.specs.Made.{DimsOf, DimsOfNone}
use Rattle.array_values.specs.Forms.{Forms, cells}
use Rattle.machine_table.specs.CodeBounds.{IsFilled}
use Rattle.lowering.proofs.texts.CodeIndices.{all_of}

cells_product : (dims : List ℕ) → cells dims ≡ product dims
cells_product [] = refl
cells_product (d ∷ ds) = ap (λ n. d * n) (cells_product ds)

-- a factor of a product that isn't 0 is at most the product
some_factors : (d n : ℕ) → 0 < d * n → (0 < d) × (0 < n)
some_factors zero n h = absurd (omega (arith, h))
some_factors (suc d) zero h = absurd (let e : suc d * 0 ≡ 0 = omega arith in omega (arith, h, e))
some_factors (suc d) (suc n) h = (omega arith, omega arith)

first_least : (d n : ℕ) → 0 < n → d ≤ d * n
first_least d zero h = absurd (omega (arith, h))
first_least d (suc n) h = let e : d * suc n ≡ d + d * n = omega arith in omega (arith, e)

second_least : (d n : ℕ) → 0 < d → n ≤ d * n
second_least zero n h = absurd (omega (arith, h))
second_least (suc d) n h = let e : suc d * n ≡ n + d * n = omega arith in omega (arith, e)

each_below : (N : ℕ) (dims : List ℕ) → 0 < product dims → product dims < N → Each (λ d. d < N) dims
each_below N [] some less = tt
each_below N (d ∷ ds) some less =
    let f = some_factors d (product ds) some in
    let a = first_least d (product ds) f.1 in
    let b = second_least d (product ds) f.0 in
    (omega (arith, a, less), each_below N ds f.1 (omega (arith, b, less)))

below_each : (N : ℕ) (dims : List ℕ) → all_below N dims ≡ true → Each (λ d. d < N) dims
below_each N [] h = tt
below_each N (d ∷ ds) h = by (nat_lt d N) refl h (below_each N ds)
  where
    by : (b : Bool) → nat_lt d N ≡ b → (b && all_below N ds) ≡ true → (all_below N ds ≡ true → Each (λ d. d < N) ds) → (d < N) × Each (λ d. d < N) ds
    by true e t rest = (grind (arith, nat_tests), rest t)
    by false e t rest = absurd (cc)

-- dims of as many items
pub filled : (dims : List ℕ) (n : ℕ) → DimsOf dims n → IsFilled dims × (n ≡ cells dims)
filled dims n m =
    let count : cells dims ≡ n = cells_product dims ∙ m.3 in
    let some : 0 < product dims = (let e = m.3 in let s = m.1 in omega (arith, e, s)) in
    let less : product dims < 2 ^ 32 = (let e = m.3 in let s = m.2 in omega (arith, e, s)) in
    let few = m.2 in
    let positive = m.1 in (
      record {
        forms = record { rank = m.0; each = all_of (λ d. d < 2 ^ 32) dims (each_below (2 ^ 32) dims some less); few = omega (arith, count, few) };
        some = omega (arith, count, positive);
      },
      sym count,
    )

-- dims of none
pub empty : (dims : List ℕ) → DimsOfNone dims → all_below (2 ^ 32) dims ≡ true → Forms dims × (0 ≡ cells dims)
empty dims m l =
    let count : cells dims ≡ 0 = cells_product dims ∙ m.1 in
    (record { rank = m.0; each = all_of (λ d. d < 2 ^ 32) dims (below_each (2 ^ 32) dims l); few = omega (arith, count) }, sym count)
