-- Integers, read and spelled.
use Rattle.std.proofs.Common.{◌≡◌, ◌⊎◌, inl, inr, ℕ, suc, ◌+◌, ◌-◌, ◌^◌, ◌≤◌, ◌<◌, true, false, List, [], ◌∷◌, length, Err, ap, refl, arith, lit<, lit≤, ℤ, pos, negsuc}
use Rattle.std.specs.Fmt.{decimal, signed_decimal}
use Rattle.code_text.specs.Reading.{Reader, number_at, integer_at, plainly, made, either_at}
use Rattle.code_text.proofs.codecs.Codec.{Codec, made_codec}
use Rattle.code_text.proofs.codecs.Parts.{number_codec, positive_codec}
use Rattle.code_text.proofs.codecs.Either.{either_codec}
use Rattle.code_text.proofs.codecs.Many.{same_codec}

-- a negative integer of 64 bits behind its sign
minus_text : ℤ → List ℕ
minus_text (negsuc n) = decimal (suc n)
minus_text (pos n) = []

IsNegative : ℤ → Type 0
IsNegative (negsuc n) = n < 2 ^ 63
IsNegative (pos n) = ⊥

IsPositive : ℤ → Type 0
IsPositive (pos n) = n < 2 ^ 63
IsPositive (negsuc n) = ⊥

-- an integer of 64 bits
abbrev pub IsInteger : ℤ → Type 0
IsInteger (pos n) = n < 2 ^ 63
IsInteger (negsuc n) = n < 2 ^ 63

abbrev negative_at : Reader ℤ
negative_at = made (λ n. negsuc (n - 1)) (plainly (number_at false (2 ^ 63)))

abbrev positive_at : Reader ℤ
positive_at = made pos (plainly (number_at true (2 ^ 63 - 1)))

negative_codec : Codec false true negative_at minus_text IsNegative
unfolding minus_text IsNegative
negative_codec = made_codec (λ n. negsuc (n - 1)) (plainly (number_at false (2 ^ 63))) decimal (λ n. (1 ≤ n) × (n ≤ 2 ^ 63)) minus_text IsNegative
    (λ n is. ap decimal (whole n is.0)) (λ n is. omega (arith, is.0, is.1)) from false true (positive_codec (2 ^ 63) (lit≤ tt) (lit< tt))
  where
    whole : (n : ℕ) → 1 ≤ n → suc (n - 1) ≡ n
    whole n some = omega arith

    from : (z : ℤ) → IsNegative z → (n : ℕ) × ((1 ≤ n) × (n ≤ 2 ^ 63)) × (negsuc (n - 1) ≡ z)
    from (negsuc n) is = let same : suc n - 1 ≡ n = omega arith in (suc n, (omega arith, omega (arith, is)), ap negsuc same)
    from (pos n) is = absurd is

plus_codec : Codec false true positive_at signed_decimal IsPositive
unfolding IsPositive
plus_codec = made_codec pos (plainly (number_at true (2 ^ 63 - 1))) decimal (λ n. n ≤ 2 ^ 63 - 1) signed_decimal IsPositive
    (λ n is. refl) (λ n is. omega (arith, is)) from false true (number_codec (2 ^ 63 - 1) (lit< tt))
  where
    from : (z : ℤ) → IsPositive z → (n : ℕ) × (n ≤ 2 ^ 63 - 1) × (pos n ≡ z)
    from (pos n) is = (n, omega (arith, is), refl)
    from (negsuc n) is = absurd is

either_same : (n : ℕ) (s : List ℕ) → plainly integer_at n s ≡ either_at 45 negative_at positive_at n s
unfolding integer_at either_at
either_same n [] = refl
either_same n (c ∷ s) = refl

no_plus : (n : ℕ) → positive_at n [] ≡ Err 0
unfolding number_at
no_plus n = refl

-- no number begins with a sign
no_minus : (n : ℕ) (z : List ℕ) → positive_at n (45 ∷ z) ≡ Err (length z + 1)
unfolding number_at
no_minus n z = refl

-- an integer refuses a byte that begins none
pub integer_refuses : (z : List ℕ) → integer_at (35 ∷ z) ≡ Err (length z + 1)
unfolding integer_at number_at
integer_refuses z = refl

pub integer_none : integer_at [] ≡ Err 0
unfolding integer_at
integer_none = refl

pub integer_codec : Codec false true (plainly integer_at) signed_decimal IsInteger
unfolding minus_text IsNegative IsPositive
integer_codec = same_codec false true (plainly integer_at) (either_at 45 negative_at positive_at) signed_decimal IsInteger either_same
    (either_codec 45 negative_at positive_at no_plus no_minus minus_text signed_decimal IsNegative IsPositive signed_decimal IsInteger true negative_codec plus_codec up also down)
  where
    up : (z : ℤ) → IsNegative z → IsInteger z × (signed_decimal z ≡ 45 ∷ minus_text z)
    up (negsuc n) is = (is, refl)
    up (pos n) is = absurd is

    also : (z : ℤ) → IsPositive z → IsInteger z × (signed_decimal z ≡ signed_decimal z)
    also (pos n) is = (is, refl)
    also (negsuc n) is = absurd is

    down : (z : ℤ) → IsInteger z → IsNegative z ⊎ IsPositive z
    down (pos n) is = inr is
    down (negsuc n) is = inl is
