-- What the readers of numbers and words read is spelled so, and what is spelled so is read.
use Rattle.std.proofs.Common.{◌≡◌, ℕ, zero, suc, ◌+◌, ◌-◌, ◌*◌, ◌/◌, ◌%◌, ◌^◌, ◌≤◌, ◌<◌, cond, eqb, Bool, true, false, ◌&&◌, List, [], ◌∷◌, ◌++◌, length, Ok, Err, ap, sym, subst, ◌∙◌, refl, arith, ⊎_elim, nat_le, lit<, append_assoc}
use Rattle.std.specs.Fmt.{decimal}
use Rattle.std.proofs.lemmas.Fmt.{decimal_digit, decimal_step, decimal_by_steps}
use Rattle.std.proofs.lemmas.Bool.{false≢true, leb-true, le-leb, ne_eqb, eqb-false}
use Rattle.std.proofs.lemmas.Bool.Decides.{eqb_tells}
use Rattle.code_text.specs.Reading.{Read, ◌>>=◌, byte_at, word_at, is_digit, is_hex, digits_at, number_at}
use Rattle.code_text.proofs.goes.Common.{same_self}
use Rattle.code_text.proofs.goes.Goes.{digit_hex, true_or_false, both_left, both_right, Ok≢Err}

pub bind_ok : {A B : Type 0} (r : Read A) (f : A × List ℕ → Read B) (y : B × List ℕ) → (r >>= f) ≡ Ok y → (x : A × List ℕ) × (r ≡ Ok x) × (f x ≡ Ok y)
bind_ok (Ok x) f y e = (x, refl, e)
bind_ok (Err n) f y e = absurd (Ok≢Err y n (sym e))

-- a second part after a first that is known
pub bind_at : {A B : Type 0} (r : Read A) (f : A × List ℕ → Read B) (x : A × List ℕ) → r ≡ Ok x → (r >>= f) ≡ f x
bind_at r f x e = ap (λ q. q >>= f) e

pub one_ok : {A : Type 0} (r : Read A) (x y : A × List ℕ) → r ≡ Ok x → r ≡ Ok y → x ≡ y
one_ok r x y e f = cc

byte_yes : (b c : ℕ) (s : List ℕ) → eqb c b ≡ true → byte_at b (c ∷ s) ≡ Ok (tt, s)
byte_yes b c s e = ap (λ (x : Bool). cond x (Ok (tt, s)) (Err (length s + 1))) e

byte_no : (b c : ℕ) (s : List ℕ) → eqb c b ≡ false → byte_at b (c ∷ s) ≡ Err (length s + 1)
byte_no b c s e = ap (λ (x : Bool). cond x (Ok (tt, s)) (Err (length s + 1))) e

pub byte_again : (b : ℕ) (s : List ℕ) → byte_at b (b ∷ s) ≡ Ok (tt, s)
byte_again b s = byte_yes b b s (same_self b)

pub byte_takes : (b : ℕ) (s : List ℕ) (x : Unit {0} × List ℕ) → byte_at b s ≡ Ok x → s ≡ b ∷ x.1
byte_takes b [] x e = absurd (Ok≢Err x 0 (sym e))
byte_takes b (c ∷ s) x e =
    ⊎_elim
    (λ p.
    let same : s ≡ x.1 = ap (λ y. y.1) (one_ok (byte_at b (c ∷ s)) (tt, s) x (byte_yes b c s p.0) e) in
    let head = p.1 in
    cc)
    (λ p. absurd (Ok≢Err x (length s + 1) (sym e ∙ byte_no b c s p.0)))
    (eqb_tells c b)

pub word_again : (w s : List ℕ) → word_at w (w ++ s) ≡ Ok (tt, s)
unfolding word_at
word_again [] s = refl
word_again (b ∷ w) s = bind_at (byte_at b (b ∷ (w ++ s))) (λ x. word_at w x.1) (tt, w ++ s) (byte_again b (w ++ s)) ∙ word_again w s

pub word_takes : (w s : List ℕ) (x : Unit {0} × List ℕ) → word_at w s ≡ Ok x → s ≡ w ++ x.1
unfolding word_at
word_takes [] s x e = ap (λ y. y.1) (one_ok (word_at [] s) (tt, s) x refl e)
word_takes (b ∷ w) s x e =
    let h = bind_ok (byte_at b s) (λ y. word_at w y.1) x e in
    byte_takes b s h.0 h.1 ∙ ap (λ t. b ∷ t) (word_takes w h.0.1 x h.2)

-- numbers

decimal_more : (n d : ℕ) → 1 ≤ n → d < 10 → 10 * n + d < 2 ^ 64 → decimal (10 * n + d) ≡ decimal n ++ (48 + d) ∷ []
decimal_more n d some small fits =
    let front : (10 * n + d) / 10 ≡ n = omega arith in
    let last : (10 * n + d) % 10 ≡ d = omega arith in
    decimal_step (10 * n + d) (omega arith) fits ∙ ap (λ (m : ℕ). decimal m ++ (48 + (10 * n + d) % 10) ∷ []) front ∙ ap (λ (m : ℕ). decimal n ++ (48 + m) ∷ []) last

pub digit_bounds : (c : ℕ) → is_digit c ≡ true → (48 ≤ c) × (c ≤ 57)
digit_bounds c e = (leb-true 48 c (both_left (nat_le 48 c) (nat_le c 57) e), leb-true c 57 (both_right (nat_le 48 c) (nat_le c 57) e))

both_true : (a b : Bool) → a ≡ true → b ≡ true → (a && b) ≡ true
both_true a b e f = ap (λ (x : Bool). x && b) e ∙ f

pub digit_is : (c : ℕ) → 48 ≤ c → c ≤ 57 → is_digit c ≡ true
digit_is c low high = both_true (nat_le 48 c) (nat_le c 57) (le-leb 48 c low) (le-leb c 57 high)

digits_next : (high n c : ℕ) (s : List ℕ) → (is_digit c && nat_le (10 * n + (c - 48)) high) ≡ true → digits_at high n (c ∷ s) ≡ digits_at high (10 * n + (c - 48)) s
unfolding digits_at
digits_next high n c s e = ap (λ (b : Bool). cond b (digits_at high (10 * n + (c - 48)) s) (n, c ∷ s)) e

digits_end : (high n c : ℕ) (s : List ℕ) → (is_digit c && nat_le (10 * n + (c - 48)) high) ≡ false → digits_at high n (c ∷ s) ≡ (n, c ∷ s)
unfolding digits_at
digits_end high n c s e = ap (λ (b : Bool). cond b (digits_at high (10 * n + (c - 48)) s) (n, c ∷ s)) e

-- n and further digits
record Digits (high n : ℕ) (s : List ℕ) (y : ℕ × List ℕ) : Type 0 where
  whole : decimal n ++ s ≡ decimal y.0 ++ y.1
  within : y.0 ≤ high
  some : 1 ≤ y.0

digits_takes : (high n : ℕ) (s : List ℕ) → 1 ≤ n → n ≤ high → high < 2 ^ 64 → Digits high n s (digits_at high n s)
unfolding digits_at
digits_takes high n [] some le fits = record { whole = refl; within = le; some = some }
digits_takes high n (c ∷ s) some le fits =
    ⊎_elim
    (λ t.
    let b = digit_bounds c (both_left (is_digit c) _ t) in
    let small = leb-true (10 * n + (c - 48)) high (both_right (is_digit c) _ t) in
    let rest = digits_takes high (10 * n + (c - 48)) s (omega arith) small fits in
    let code : 48 + (c - 48) ≡ c = omega arith in
    let number : decimal (10 * n + (c - 48)) ≡ decimal n ++ c ∷ [] = decimal_more n (c - 48) some (omega arith) (omega arith) ∙ ap (λ (x : ℕ). decimal n ++ x ∷ []) code in
    let here : Digits high n (c ∷ s) (digits_at high (10 * n + (c - 48)) s) = record {
      whole = sym (append_assoc (decimal n) (c ∷ []) s) ∙ ap (λ x. x ++ s) (sym number) ∙ rest.whole;
      within = rest.within;
      some = rest.some;
    }
    in
    subst (Digits high n (c ∷ s)) (sym (digits_next high n c s t)) here)
    (λ f. subst (Digits high n (c ∷ s)) (sym (digits_end high n c s f)) (record { whole = refl; within = le; some = some }))
    (true_or_false (is_digit c && nat_le (10 * n + (c - 48)) high))

number_digits : (with_zero : Bool) (high c : ℕ) (s : List ℕ) → eqb c 48 ≡ false → (is_digit c && nat_le (c - 48) high) ≡ true → number_at with_zero high (c ∷ s) ≡ Ok (digits_at high (c - 48) s)
unfolding number_at
number_digits with_zero high c s e f =
    ap (λ (b : Bool). cond b (cond with_zero (Ok (0, s)) (Err (length s + 1))) (cond (is_digit c && nat_le (c - 48) high) (Ok (digits_at high (c - 48) s)) (Err (length s + 1)))) e
    ∙ ap (λ (b : Bool). cond b (Ok (digits_at high (c - 48) s)) (Err (length s + 1))) f

number_bad : (with_zero : Bool) (high c : ℕ) (s : List ℕ) → eqb c 48 ≡ false → (is_digit c && nat_le (c - 48) high) ≡ false → number_at with_zero high (c ∷ s) ≡ Err (length s + 1)
unfolding number_at
number_bad with_zero high c s e f =
    ap (λ (b : Bool). cond b (cond with_zero (Ok (0, s)) (Err (length s + 1))) (cond (is_digit c && nat_le (c - 48) high) (Ok (digits_at high (c - 48) s)) (Err (length s + 1)))) e
    ∙ ap (λ (b : Bool). cond b (Ok (digits_at high (c - 48) s)) (Err (length s + 1))) f

number_zero : (with_zero : Bool) (high c : ℕ) (s : List ℕ) → eqb c 48 ≡ true → number_at with_zero high (c ∷ s) ≡ cond with_zero (Ok (0, s)) (Err (length s + 1))
unfolding number_at
number_zero with_zero high c s e = ap (λ (b : Bool). cond b (cond with_zero (Ok (0, s)) (Err (length s + 1))) (cond (is_digit c && nat_le (c - 48) high) (Ok (digits_at high (c - 48) s)) (Err (length s + 1)))) e

-- a number that was read
pub record Number (with_zero : Bool) (high : ℕ) (s : List ℕ) (x : ℕ × List ℕ) : Type 0 where
  pub whole : s ≡ decimal x.0 ++ x.1
  pub within : x.0 ≤ high
  pub some : with_zero ≡ false → 1 ≤ x.0

zero_takes : (with_zero : Bool) (high c : ℕ) (s : List ℕ) (x : ℕ × List ℕ) → c ≡ 48 → cond with_zero (Ok (0, s)) (Err (length s + 1)) ≡ Ok x → Number with_zero high (c ∷ s) x
zero_takes true high c s x is e =
    let same = one_ok (Ok (0, s)) (0, s) x refl e in
    subst (Number true high (c ∷ s)) same (record { whole = ap (λ (b : ℕ). b ∷ s) is ∙ ap (λ t. t ++ s) (sym (decimal_digit 0 (lit< tt))); within = omega arith; some = λ h. absurd (false≢true (sym h)) })
zero_takes false high c s x is e = absurd (Ok≢Err x (length s + 1) (sym e))

pub number_takes : (with_zero : Bool) (high : ℕ) (s : List ℕ) (x : ℕ × List ℕ) → high < 2 ^ 64 → number_at with_zero high s ≡ Ok x → Number with_zero high s x
unfolding number_at
number_takes with_zero high [] x fits e = absurd (Ok≢Err x 0 (sym e))
number_takes with_zero high (c ∷ s) x fits e =
    ⊎_elim
    (λ p. zero_takes with_zero high c s x p.1 (sym (number_zero with_zero high c s p.0) ∙ e))
    (λ p.
    ⊎_elim
    (λ f.
    let b = digit_bounds c (both_left (is_digit c) _ f) in
    let ne = eqb-false c 48 p.0 in
    let some : 1 ≤ c - 48 = omega (arith, b.0, ne) in
    let small = leb-true (c - 48) high (both_right (is_digit c) _ f) in
    let d = digits_takes high (c - 48) s some small fits in
    let code : 48 + (c - 48) ≡ c = omega (arith, b.0) in
    let one : decimal (c - 48) ≡ c ∷ [] = decimal_digit (c - 48) (omega (arith, b.1)) ∙ ap (λ (y : ℕ). y ∷ []) code in
    let same = one_ok (number_at with_zero high (c ∷ s)) (digits_at high (c - 48) s) x (number_digits with_zero high c s p.0 f) e in
    subst (Number with_zero high (c ∷ s)) same (record { whole = ap (λ t. t ++ s) (sym one) ∙ d.whole; within = d.within; some = λ h. d.some }))
    (λ f. absurd (Ok≢Err x (length s + 1) (sym e ∙ number_bad with_zero high c s p.0 f)))
    (true_or_false (is_digit c && nat_le (c - 48) high)))
    (eqb_tells c 48)

-- no digit comes next, not even a hexadecimal one
abbrev pub Ended : List ℕ → Type 0
Ended [] = Unit {0}
Ended (c ∷ s) = is_hex c ≡ false

no_digit : (c : ℕ) → is_hex c ≡ false → is_digit c ≡ false
no_digit c e = ⊎_elim (λ t. absurd (false≢true (sym e ∙ digit_hex c t))) (λ f. f) (true_or_false (is_digit c))

digits_again : (high n : ℕ) (r : List ℕ) → Ended r → digits_at high n r ≡ (n, r)
unfolding digits_at
digits_again high n [] e = refl
digits_again high n (c ∷ r) e = digits_end high n c r (ap (λ (b : Bool). b && nat_le (10 * n + (c - 48)) high) (no_digit c e))

-- reading goes on behind the digits of n as behind n
abbrev ReadsOn : ℕ → List ℕ → Type 0
ReadsOn n ds = (with_zero : Bool) (high : ℕ) (r : List ℕ) → 1 ≤ n → n ≤ high → number_at with_zero high (ds ++ r) ≡ Ok (digits_at high n r)

one_digit : (n : ℕ) → n < 10 → ReadsOn n ((48 + n) ∷ [])
one_digit n small with_zero high r some le =
    let size : 48 + n - 48 ≡ n = omega arith in
    let ne : eqb (48 + n) 48 ≡ false = ne_eqb (48 + n) 48 (λ (e : 48 + n ≡ 48). omega arith) in
    let fits : nat_le (48 + n - 48) high ≡ true = le-leb (48 + n - 48) high (omega arith) in
    number_digits with_zero high (48 + n) r ne (both_true (is_digit (48 + n)) (nat_le (48 + n - 48) high) (digit_is (48 + n) (omega arith) (omega arith)) fits)
    ∙ ap (λ (m : ℕ). Ok (digits_at high m r)) size

more_digits : (n : ℕ) (ds : List ℕ) → 10 ≤ n → ReadsOn (n / 10) ds → ReadsOn n (ds ++ ((48 + n % 10) ∷ []))
more_digits n ds big before with_zero high r some le =
    let c = 48 + n % 10 in
    let size : 10 * (n / 10) + (48 + n % 10 - 48) ≡ n = omega arith in
    let test : (is_digit (48 + n % 10) && nat_le (10 * (n / 10) + (48 + n % 10 - 48)) high) ≡ true =
    both_true (is_digit (48 + n % 10)) (nat_le (10 * (n / 10) + (48 + n % 10 - 48)) high) (digit_is (48 + n % 10) (omega arith) (omega arith)) (le-leb (10 * (n / 10) + (48 + n % 10 - 48)) high (omega arith))
    in
    ap (number_at with_zero high) (append_assoc ds ((48 + n % 10) ∷ []) r)
    ∙ before with_zero high ((48 + n % 10) ∷ r) (omega arith) (omega arith)
    ∙ ap (λ y. Ok y) (digits_next high (n / 10) (48 + n % 10) r test ∙ ap (λ (m : ℕ). digits_at high m r) size)

pub number_again : (with_zero : Bool) (high n : ℕ) (r : List ℕ) → high < 2 ^ 64 → n ≤ high → (with_zero ≡ false → 1 ≤ n) → Ended r → number_at with_zero high (decimal n ++ r) ≡ Ok (n, r)
number_again true high zero r fits le some e =
    ap (λ t. number_at true high (t ++ r)) (decimal_digit 0 (lit< tt)) ∙ number_zero true high 48 r refl
number_again false high zero r fits le some e = let one = some refl in absurd (omega arith)
number_again with_zero high (suc n) r fits le some e =
    decimal_by_steps ReadsOn one_digit more_digits (suc n) (omega arith) with_zero high r (omega arith) le
    ∙ ap (λ y. Ok y) (digits_again high (suc n) r e)
