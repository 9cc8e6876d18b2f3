-- Dims of arrays, read and spelled.
use Rattle.std.proofs.Common.{◌≡◌, ◌⊎◌, inl, inr, ℕ, zero, suc, ◌+◌, ◌*◌, ◌/◌, ◌^◌, ◌≤◌, ◌<◌, min, true, false, List, [], ◌∷◌, length, Ok, Err, ap, sym, subst, ◌∙◌, refl, arith, lit<, lit≤}
use Rattle.std.specs.List.{All}
use Rattle.std.specs.Fmt.{decimal}
use Rattle.std.proofs.lemmas.Bool.{ltb-true, lt-ltb}
use Rattle.std.proofs.lemmas.List.Elements.{All-nil, All-cons, All-tail}
use Rattle.std.proofs.Math.Nat.{mul_assoc, le-div_iff_mul-le, div-mul-le_self, mul-le-mul_left}
use Rattle.array_values.specs.Forms.{Forms, cells}
use Rattle.machine_table.specs.CodeBounds.{IsFilled}
use Rattle.code_text.specs.Reading.{Reader, known, number_at, plainly, some_items}
use Rattle.code_text.specs.DimsReading.{Filled, filled_room, filled_item, filled_next, filled_at, dims_at, too_many, capped}
use Rattle.code_text.proofs.codecs.Codec.{Codec}
use Rattle.code_text.proofs.codecs.Parts.{positive_codec}
use Rattle.code_text.proofs.codecs.Either.{either_codec}
use Rattle.code_text.proofs.codecs.Many.{agree, known_codec, SomeItems, EachItem, some_codec}
use Rattle.code_text.proofs.dims.DimsGoes.{Sound, dims_goes}
use Rattle.code_text.proofs.dims.DimsTakes.{cap, dims_takes}
use Rattle.code_text.proofs.dims.DimsAgain.{dims_again}
use Rattle.code_text.proofs.forms.CodeForms.{dims_form}
use Rattle.code_text.proofs.forms.Lists.{listed}

-- ---- dims with their count

-- numbers that an array may have as dims, and their product
abbrev pub IsCounted : List ℕ × ℕ → Type 0
IsCounted x = Forms x.0 × (x.1 ≡ cells x.0)

record Counts (room start : ℕ) (ds : List ℕ) (n : ℕ) : Type 0 where
  few : length ds ≤ suc room
  each : All (λ d. d < 2 ^ 32) ds
  count : n ≡ min (start * cells ds) too_many
  small : n ≤ 2 ^ 24

counts : (room start : ℕ) (ds : List ℕ) (n : ℕ) → Sound room start ds n → Counts room start ds n
counts room start [] n is = absurd is
counts room start (d ∷ []) n is =
    record { few = omega arith; each = All-cons (λ d. d < 2 ^ 32) d [] is.0 (All-nil (λ d. d < 2 ^ 32)); count = is.1 ∙ omega arith; small = is.2 }
counts zero start (d ∷ (e ∷ ds)) n is = absurd is
counts (suc room) start (d ∷ (e ∷ ds)) n is =
    let c = counts room (capped start d) (e ∷ ds) n is.1 in
    record {
      few = omega (arith, c.few);
      each = All-cons (λ d. d < 2 ^ 32) d (e ∷ ds) is.0 c.each;
      count = c.count ∙ cap (start * d) too_many (cells (e ∷ ds)) ∙ ap (λ (m : ℕ). min m too_many) (mul_assoc start d (cells (e ∷ ds)));
      small = c.small;
    }

sound_counted : (ds : List ℕ) (n : ℕ) → Sound 63 1 ds n → IsCounted (ds, n)
sound_counted ds n is =
    let c = counts 63 1 ds n is in
    let exact : n ≡ cells ds = omega (arith, c.count, c.small) in
    (record { rank = omega (arith, c.few); each = c.each; few = omega (arith, c.small, exact) }, exact)

none_counted : IsCounted ([], 1)
none_counted = (record { rank = omega arith; each = All-nil (λ d. d < 2 ^ 32); few = lit≤ tt }, refl)

pub dims_codec : Codec false false (plainly dims_at) (λ x. dims_form x.0) IsCounted
dims_codec = record {
  takes = λ n s x is. let h = dims_takes s x is in (h.whole, (h.forms, h.count));
  again = λ n x r is after le. dims_again x.0 r is.0 ∙ ap (λ (m : ℕ). Ok ((x.0, m), r)) (sym is.1);
  enough = λ n m s le lf. refl;
  goes = λ n k G N. dims_goes k (G ([], 1) none_counted) (λ ds m is. G (ds, m) (sound_counted ds m is));
  opens = tt;
}

-- ---- dims of an array with atoms

-- a product so far
abbrev IsProduct : Filled → Type 0
IsProduct s = (1 ≤ s.1) × (s.1 ≤ 2 ^ 24)

abbrev IsFactor : Filled → ℕ → Type 0
IsFactor s d = (1 ≤ d) × (d ≤ 2 ^ 24 / s.1)

some_factor : (n : ℕ) → 1 ≤ n → n ≤ 2 ^ 24 → 1 ≤ 2 ^ 24 / n
some_factor zero some le = absurd (omega arith)
some_factor (suc n) some le = (le-div_iff_mul-le {k = suc n} {x = 1} {y = 2 ^ 24} (omega arith)).1 (omega (arith, le))

factor_small : (n : ℕ) → 2 ^ 24 / n ≤ 2 ^ 24
factor_small zero = lit≤ tt
factor_small (suc n) = omega (arith, div-mul-le_self (2 ^ 24) (suc n))

factor_codec : (s : Filled) → IsProduct s → filled_room s ≡ true → Codec false true (filled_item s) decimal (IsFactor s)
factor_codec s v e = positive_codec (2 ^ 24 / s.1) (some_factor s.1 v.0 v.1) (omega (arith, factor_small s.1))

product_le : (n d : ℕ) → d ≤ 2 ^ 24 / n → 1 ≤ n → n * d ≤ 2 ^ 24
product_le zero d le some = absurd (omega arith)
product_le (suc n) d le some =
    let most : suc n * d ≤ suc n * (2 ^ 24 / suc n) = mul-le-mul_left (suc n) le in
    omega (arith, most, div-mul-le_self (2 ^ 24) (suc n))

pub product_some : (n d : ℕ) → 1 ≤ n → 1 ≤ d → 1 ≤ n * d
product_some zero d some one = absurd (omega arith)
product_some (suc n) zero some one = absurd (omega arith)
product_some (suc n) (suc d) some one =
    let least : suc n * 1 ≤ suc n * suc d = mul-le-mul_left (suc n) one in
    omega (arith, least)

factor_later : (s : Filled) (d : ℕ) → IsProduct s → IsFactor s d → IsProduct (filled_next s d)
factor_later s d v is = (product_some s.1 d v.0 is.0, product_le s.1 d is.1 v.0)

abbrev Factors : Filled → List ℕ → Type 0
Factors s ds = SomeItems 41 refl refl filled_room filled_item filled_next decimal IsProduct IsFactor factor_codec factor_later s ds

abbrev EachFactor : Filled → List ℕ → Type 0
EachFactor s ds = EachItem 41 refl refl filled_room filled_item filled_next decimal IsProduct IsFactor factor_codec factor_later s ds

-- what the numbers come to
record Product (room start : ℕ) (ds : List ℕ) : Type 0 where
  few : length ds ≤ room
  each : All (λ d. d < 2 ^ 32) ds
  some : 1 ≤ start * cells ds
  small : start * cells ds ≤ 2 ^ 24

product_of : (s : Filled) (ds : List ℕ) → IsProduct s → EachFactor s ds → Product s.0 s.1 ds
product_of s [] v is = record { few = omega arith; each = All-nil (λ d. d < 2 ^ 32); some = omega (arith, v.0); small = omega (arith, v.1) }
product_of s (d ∷ ds) v is =
    let r = product_of (filled_next s d) ds (factor_later s d v is.1) is.2 in
    let room = ltb-true 0 s.0 is.0 in
    let same = mul_assoc s.1 d (cells ds) in
    record {
      few = omega (arith, r.few, room);
      each = All-cons (λ d. d < 2 ^ 32) d ds (omega (arith, is.1.1, factor_small s.1)) r.each;
      some = omega (arith, r.some, same);
      small = omega (arith, r.small, same);
    }

factors_of : (s : Filled) (ds : List ℕ) → IsProduct s → Product s.0 s.1 ds → EachFactor s ds
factors_of s [] v p = tt
factors_of s (d ∷ ds) v p =
    let same = mul_assoc s.1 d (cells ds) in
    let f : IsFactor s d = (first_some d p.some, factor_le s.1 d v.0 (first_le (s.1 * d) (cells ds) (omega (arith, p.some, same)) (omega (arith, p.small, same)))) in (
      lt-ltb 0 s.0 (omega (arith, p.few)),
      f,
      factors_of (filled_next s d) ds (factor_later s d v f) (record {
        few = omega (arith, p.few);
        each = All-tail (λ d. d < 2 ^ 32) d ds p.each;
        some = omega (arith, p.some, same);
        small = omega (arith, p.small, same);
      }),
    )
  where
    first_some : (d : ℕ) → 1 ≤ s.1 * (d * cells ds) → 1 ≤ d
    first_some zero h = absurd (omega arith)
    first_some (suc d) h = omega arith

    first_le : (m c : ℕ) → 1 ≤ m * c → m * c ≤ 2 ^ 24 → m ≤ 2 ^ 24
    first_le m zero h le = absurd (omega arith)
    first_le m (suc c) h le =
        let one : 1 ≤ suc c = omega arith in
        let least : m * 1 ≤ m * suc c = mul-le-mul_left m one in
        omega (arith, least, le)

    factor_le : (n d : ℕ) → 1 ≤ n → n * d ≤ 2 ^ 24 → d ≤ 2 ^ 24 / n
    factor_le zero d h le = absurd (omega arith)
    factor_le (suc n) d h le = (le-div_iff_mul-le {k = suc n} {x = d} {y = 2 ^ 24} (omega arith)).1 (omega (arith, le))

start_product : IsProduct (64, 1)
start_product = (lit≤ tt, lit≤ tt)

to_filled : (ds : List ℕ) → Factors (64, 1) ds → IsFilled ds
to_filled [] is = absurd is
to_filled (d ∷ ds) is =
    let p = product_of (64, 1) (d ∷ ds) start_product (refl, is.0, is.1) in
    record { forms = record { rank = p.few; each = p.each; few = omega (arith, p.small) }; some = omega (arith, p.some) }

filled_none : IsFilled []
filled_none = record { forms = none_counted.0; some = lit< tt }

IsSomeFilled : List ℕ → Type 0
IsSomeFilled [] = ⊥
IsSomeFilled (d ∷ ds) = IsFilled (d ∷ ds)

from_filled : (ds : List ℕ) → IsSomeFilled ds → Factors (64, 1) ds
unfolding IsSomeFilled
from_filled [] is = absurd is
from_filled (d ∷ ds) is =
    let f = factors_of (64, 1) (d ∷ ds) start_product (record { few = is.forms.rank; each = is.forms.each; some = omega (arith, is.some); small = omega (arith, is.forms.few) }) in
    (f.1, f.2)

some_filled : (ds : List ℕ) → Factors (64, 1) ds → IsSomeFilled ds
unfolding IsSomeFilled
some_filled [] is = absurd is
some_filled (d ∷ ds) is = to_filled (d ∷ ds) is

abbrev some_at : Reader (List ℕ)
some_at = some_items 41 filled_room filled_item filled_next (64, 1)

factors_codec : Codec false false some_at dims_form IsSomeFilled
factors_codec = agree false false some_at (listed 41 decimal) (Factors (64, 1)) IsSomeFilled some_filled from_filled
    (some_codec 41 refl refl filled_room filled_item filled_next decimal IsProduct IsFactor factor_codec factor_later (64, 1) start_product refl)

none_read : (n : ℕ) → some_at n [] ≡ Err 0
unfolding number_at
none_read n = refl

close_refused : (n : ℕ) (z : List ℕ) → some_at n (41 ∷ z) ≡ Err (length z + 1)
unfolding number_at
close_refused n z = refl

pub filled_codec : Codec false false filled_at dims_form IsFilled
unfolding IsSomeFilled
filled_codec = either_codec 41 (known []) some_at none_read close_refused (λ _. []) dims_form (λ ds. ds ≡ []) IsSomeFilled dims_form IsFilled false (known_codec false []) factors_codec up also down
  where
    up : (ds : List ℕ) → ds ≡ [] → IsFilled ds × (dims_form ds ≡ 41 ∷ [])
    up ds e = subst (λ es. IsFilled es × (dims_form es ≡ 41 ∷ [])) (sym e) (filled_none, refl)

    also : (ds : List ℕ) → IsSomeFilled ds → IsFilled ds × (dims_form ds ≡ dims_form ds)
    also [] is = absurd is
    also (d ∷ ds) is = (is, refl)

    down : (ds : List ℕ) → IsFilled ds → (ds ≡ []) ⊎ IsSomeFilled ds
    down [] is = inl refl
    down (d ∷ ds) is = inr is
