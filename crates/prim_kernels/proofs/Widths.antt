-- The number of a cell's atoms, where a number has 64 bits.
use Rattle.std.proofs.Common.{◌≡◌, refl, sym, ◌∙◌, ap, ℕ, zero, suc, ◌-◌, ◌*◌, ◌^◌, ◌<◌, ◌≤◌, min, arith, List, [], ◌∷◌, length, take, drop, inl, inr}
use Rattle.std.specs.Prelude.{◌⊎◌}
use Rattle.std.proofs.lemmas.Bool.{cases_lt}
use Rattle.std.proofs.lemmas.List.{take_all, nil_from_length}

-- a number that is cut at a bound and then at a lower one is cut once
pub cut_once : (n M most : ℕ) → most ≤ M → min (min n M) most ≡ min n most
cut_once n M most h = omega (arith, h)

module _ {A : Type 0} where
  pub take_nothing : (n : ℕ) → take {A = A} n [] ≡ []
  take_nothing zero = refl
  take_nothing (suc n) = refl

  pub drop_nothing : (n : ℕ) → drop {A = A} n [] ≡ []
  drop_nothing zero = refl
  drop_nothing (suc n) = refl

  drop_past : (xs : List A) (n : ℕ) → length xs ≤ n → drop n xs ≡ []
  drop_past [] zero h = refl
  drop_past [] (suc n) h = refl
  drop_past (x ∷ xs) zero h = absurd (let f : ⊥ = omega (arith, h) in f)
  drop_past (x ∷ xs) (suc n) h = drop_past xs n (omega (arith, h))

  -- what is taken or dropped, cut at the end
  pub take_cut : (xs : List A) (n m : ℕ) → m ≡ min n (length xs) → take m xs ≡ take n xs
  take_cut xs n m h = by (cases_lt n (length xs))
    where
      by : (n < length xs) ⊎ (length xs ≤ n) → take m xs ≡ take n xs
      by (inl lt) = ap (λ k. take k xs) (let e : m ≡ n = omega (arith, h, lt) in e)
      by (inr le) = take_all m xs (omega (arith, h, le)) ∙ sym (take_all n xs le)

  pub drop_cut : (xs : List A) (n m : ℕ) → m ≡ min n (length xs) → drop m xs ≡ drop n xs
  drop_cut xs n m h = by (cases_lt n (length xs))
    where
      by : (n < length xs) ⊎ (length xs ≤ n) → drop m xs ≡ drop n xs
      by (inl lt) = ap (λ k. drop k xs) (let e : m ≡ n = omega (arith, h, lt) in e)
      by (inr le) = drop_past xs m (omega (arith, h, le)) ∙ sym (drop_past xs n le)

  -- a list of k cells of this width, of which a width that is cut at 64 bits is told: it is the width, or there is no atom
  width_or_none : (xs : List A) (k width cut : ℕ) → length xs ≡ k * width → length xs ≤ 2 ^ 24 → cut ≡ min width (2 ^ 64 - 1) → (cut ≡ width) ⊎ (xs ≡ [])
  width_or_none xs zero width cut e le c = inr (nil_from_length xs (omega (arith, e)))
  width_or_none xs (suc k) width cut e le c =
      let wide : width ≤ suc k * width = omega arith in
      inl (omega (arith, e, le, c, wide))

  -- what is made of such a list is the same by the cut width, where nothing is made of nothing
  pub by_width : {B : Type 0} (F : ℕ → B) (none : B) (xs : List A) (k width cut : ℕ) → length xs ≡ k * width → length xs ≤ 2 ^ 24 → cut ≡ min width (2 ^ 64 - 1) → (xs ≡ [] → (w : ℕ) → F w ≡ none) → F cut ≡ F width
  by_width F none xs k width cut e le c h = by (width_or_none xs k width cut e le c)
    where
      by : (cut ≡ width) ⊎ (xs ≡ []) → F cut ≡ F width
      by (inl same) = ap F same
      by (inr nothing) = h nothing cut ∙ sym (h nothing width)
