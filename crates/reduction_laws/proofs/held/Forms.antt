-- Dims that an array may have: parts of them, and facts of the items of lists.
use Rattle.std.proofs.Common.{◌≡◌, refl, sym, subst, ℕ, zero, suc, ◌+◌, ◌*◌, ◌^◌, ◌<◌, ◌≤◌, arith, List, [], ◌∷◌, ◌++◌, length, drop, true}
use Rattle.std.specs.Prelude.{◌&&◌, nat_lt, nat_le, slice_index_or}
use Rattle.std.proofs.lemmas.Bool.Decides.{nat_tests}
use Rattle.std.proofs.lemmas.List.{length-append}
use Rattle.core_syntax.specs.Lists.{each, Each, product}
use Rattle.core_syntax.specs.Fits.{all_below}
use Rattle.core_syntax.specs.Arrays.{runs, firsts, rests, columns}
use Rattle.core_syntax.specs.Held.{HasForm}
use Rattle.reduction_laws.proofs.steps.Counts.{product-append, each_take, each_drop}
use Rattle.reduction_laws.proofs.steps.Frames.{both, and_both}

le_test : (m n : ℕ) → nat_le m n ≡ true → m ≤ n
le_test m n e = grind (arith, nat_tests)

test_le : (m n : ℕ) → m ≤ n → nat_le m n ≡ true
test_le m n e = grind (arith, nat_tests)

lt_test : (m n : ℕ) → nat_lt m n ≡ true → m < n
lt_test m n e = grind (arith, nat_tests)

pub test_lt : (m n : ℕ) → m < n → nat_lt m n ≡ true
test_lt m n e = grind (arith, nat_tests)

-- the three facts of dims that an array may have
pub record Form (dims : List ℕ) : Type 0 where
  pub below : all_below (2 ^ 32) dims ≡ true
  pub rank : length dims ≤ 64
  pub count : product dims ≤ 2 ^ 24

pub form_of : (dims : List ℕ) → HasForm dims → Form dims
form_of dims h =
    let b = both (all_below (2 ^ 32) dims && nat_le (length dims) 64) (nat_le (product dims) (2 ^ 24)) h in
    let c = both (all_below (2 ^ 32) dims) (nat_le (length dims) 64) b.0 in
    record { below = c.0; rank = le_test (length dims) 64 c.1; count = le_test (product dims) (2 ^ 24) b.1 }

pub has_form : (dims : List ℕ) → Form dims → HasForm dims
has_form dims f =
    and_both (all_below (2 ^ 32) dims && nat_le (length dims) 64) (nat_le (product dims) (2 ^ 24)) (and_both (all_below (2 ^ 32) dims) (nat_le (length dims) 64) f.below (test_le (length dims) 64 f.rank))
    (test_le (product dims) (2 ^ 24) f.count)

below_behind : (n : ℕ) (F w : List ℕ) → all_below n (F ++ w) ≡ true → all_below n w ≡ true
below_behind n [] w h = h
below_behind n (x ∷ F) w h = below_behind n F w (both (nat_lt x n) (all_below n (F ++ w)) h).1

no_less : (m n k : ℕ) → (m ≡ 0 → ⊥) → m * n ≤ k → n ≤ k
no_less zero n k z h = absurd (z refl)
no_less (suc m) n k z h = omega arith

-- a cell behind a frame that has places
pub form_behind : (F w : List ℕ) → HasForm (F ++ w) → (product F ≡ 0 → ⊥) → HasForm w
form_behind F w h z =
    let f = form_of (F ++ w) h in
    has_form w
    (record {
      below = below_behind (2 ^ 32) F w f.below;
      rank = (let r = f.rank in let l : length (F ++ w) ≡ length F + length w = length-append F w in omega arith);
      count = no_less (product F) (product w) (2 ^ 24) z (subst (λ n. n ≤ 2 ^ 24) (product-append F w) f.count);
    })

times_less : (m k n l : ℕ) → m ≤ k → k * n ≤ l → m * n ≤ l
times_less zero k n l a h = omega arith
times_less (suc m) zero n l a h = absurd (omega arith)
times_less (suc m) (suc k) n l a h = let r = times_less m k n (k * n) (omega arith) (omega arith) in omega arith

-- fewer leading cells
pub form_fewer : (m k : ℕ) (s : List ℕ) → m ≤ k → HasForm (k ∷ s) → HasForm (m ∷ s)
form_fewer m k s le h =
    let f = form_of (k ∷ s) h in
    let b = both (nat_lt k (2 ^ 32)) (all_below (2 ^ 32) s) f.below in
    let lt = lt_test k (2 ^ 32) b.0 in
    has_form (m ∷ s)
    (record { below = and_both (nat_lt m (2 ^ 32)) (all_below (2 ^ 32) s) (test_lt m (2 ^ 32) (omega arith)) b.1; rank = f.rank; count = times_less m k (product s) (2 ^ 24) le f.count })

-- the first two dims exchanged
pub form_turned : (m n : ℕ) (s : List ℕ) → HasForm (m ∷ n ∷ s) → HasForm (n ∷ m ∷ s)
form_turned m n s h =
    let f = form_of (m ∷ n ∷ s) h in
    let b = both (nat_lt m (2 ^ 32)) (all_below (2 ^ 32) (n ∷ s)) f.below in
    let c = both (nat_lt n (2 ^ 32)) (all_below (2 ^ 32) s) b.1 in
    has_form (n ∷ m ∷ s)
    (record {
      below = and_both (nat_lt n (2 ^ 32)) (all_below (2 ^ 32) (m ∷ s)) c.0 (and_both (nat_lt m (2 ^ 32)) (all_below (2 ^ 32) s) b.0 c.1);
      rank = f.rank;
      count = subst (λ k. k ≤ 2 ^ 24) (turned m n (product s)) f.count;
    })
  where
    turned : (m n p : ℕ) → m * (n * p) ≡ n * (m * p)
    turned m n p = omega arith

-- as many atoms as an array has, as a vector
pub form_vector : (n : ℕ) (dims : List ℕ) → n ≡ product dims → HasForm dims → HasForm (n ∷ [])
form_vector n dims e h =
    let le : n ≤ 2 ^ 24 = subst (λ k. k ≤ 2 ^ 24) (sym e) (form_of dims h).count in
    has_form (n ∷ []) (record { below = and_both (nat_lt n (2 ^ 32)) true (test_lt n (2 ^ 32) (omega arith)) refl; rank = omega arith; count = omega arith })

-- ---- facts of each item

module _ {A : Type 0} (P : A → Type 0) where
  pub each_runs : (n size : ℕ) (xs : List A) → Each P xs → Each (Each P) (runs n size xs)
  each_runs zero size xs h = tt
  each_runs (suc n) size xs h = (each_take P size xs h, each_runs n size (drop size xs) (each_drop P size xs h))

  pub each_firsts : (xss : List (List A)) → Each (Each P) xss → Each P (firsts xss)
  each_firsts [] h = tt
  each_firsts ([] ∷ xss) h = each_firsts xss h.1
  each_firsts ((x ∷ xs) ∷ xss) h = (h.0.0, each_firsts xss h.1)

  pub each_rests : (xss : List (List A)) → Each (Each P) xss → Each (Each P) (rests xss)
  each_rests [] h = tt
  each_rests ([] ∷ xss) h = each_rests xss h.1
  each_rests ((x ∷ xs) ∷ xss) h = (h.0.1, each_rests xss h.1)

  pub each_columns : (n : ℕ) (xss : List (List A)) → Each (Each P) xss → Each (Each P) (columns n xss)
  each_columns zero xss h = tt
  each_columns (suc n) xss h = (each_firsts xss h, each_columns n (rests xss) (each_rests xss h))

  pub each_picked : (xs : List A) (k : ℕ) (x : A) → Each P xs → P x → P (slice_index_or xs k x)
  each_picked [] k x h g = g
  each_picked (y ∷ xs) zero x h g = h.0
  each_picked (y ∷ xs) (suc k) x h g = each_picked xs k x h.1 g

pub each_mapped : {A B : Type 0} (P : A → Type 0) (Q : B → Type 0) (f : A → B) → ((a : A) → P a → Q (f a)) → (xs : List A) → Each P xs → Each Q (each f xs)
each_mapped P Q f g [] h = tt
each_mapped P Q f g (x ∷ xs) h = (g x h.0, each_mapped P Q f g xs h.1)

pub each_made : {A B : Type 0} (Q : B → Type 0) (f : A → B) → ((a : A) → Q (f a)) → (xs : List A) → Each Q (each f xs)
each_made Q f g [] = tt
each_made Q f g (x ∷ xs) = (g x, each_made Q f g xs)
