-- Reading the number of a character.
use Rattle.std.proofs.Common.{◌≡◌, ◌⊎◌, inl, inr, ℕ, zero, suc, ◌+◌, ◌-◌, ◌*◌, ◌/◌, ◌%◌, ◌≤◌, ◌<◌, cond, eqb, Bool, true, false, not, ◌&&◌, ◌||◌, List, [], ◌∷◌, ◌++◌, length, Ok, Err, ap, sym, subst, ◌∙◌, refl, arith, ⊎_elim, nat_le, nat_lt, append_assoc, lit≤, lit<}
use Rattle.std.specs.Fmt.{digit_glyph}
use Rattle.std.proofs.lemmas.Bool.{false≢true, leb-true, le-leb, ltb-true, lt-ltb, ne_eqb, eqb-false, cases_lt}
use Rattle.std.proofs.lemmas.Bool.Decides.{eqb_tells}
use Rattle.machine_table.specs.Codes.{Code}
use Rattle.code_text.specs.Text.{is_plain}
use Rattle.code_text.specs.Reading.{is_digit, is_hex, plainly}
use Rattle.code_text.specs.LiteralReading.{largest_char, hex_value, is_hidden, hex_done, hex_from, u_at}
use Rattle.code_text.proofs.goes.Goes.{Rest, then_rest, Live, StopsAt, Goes, NoDigit, shift, refuse, at_end, pass, pass_nil, true_or_false, both_left, both_right, Ok≢Err}
use Rattle.code_text.proofs.goes.Spelled.{digit_bounds, Ended}
use Rattle.code_text.proofs.codecs.Codec.{Codec, ok_of}
use Rattle.code_text.proofs.atoms.Hex.{hex_text, hex_more, hex_one, hex_by_steps}

-- ---- digits

either_true : (a b : Bool) → (a || b) ≡ true → (a ≡ true) ⊎ (b ≡ true)
either_true true b e = inl refl
either_true false b e = inr e

left_true : (a b : Bool) → a ≡ true → (a || b) ≡ true
left_true a b e = ap (λ (x : Bool). x || b) e

right_true : (a b : Bool) → b ≡ true → (a || b) ≡ true
right_true true b e = refl
right_true false b e = e

pub both_true : (a b : Bool) → a ≡ true → b ≡ true → (a && b) ≡ true
both_true a b e f = ap (λ (x : Bool). x && b) e ∙ f

abbrev IsDigitOf : ℕ → Type 0
IsDigitOf c = (hex_value c < 16) × (digit_glyph false (hex_value c) ≡ c)

glyph_low : (d : ℕ) → d < 10 → digit_glyph false d ≡ 48 + d
glyph_low d small = ap (λ (b : Bool). cond b (48 + d) (87 + d)) (lt-ltb d 10 small)

glyph_high : (d : ℕ) → 10 ≤ d → digit_glyph false d ≡ 87 + d
glyph_high d big = ap (λ (b : Bool). cond b (48 + d) (87 + d)) (⊎_elim (λ t. absurd (omega (arith, ltb-true d 10 t))) (λ f. f) (true_or_false (nat_lt d 10)))

value_low : (c : ℕ) → is_digit c ≡ true → hex_value c ≡ c - 48
value_low c e = ap (λ (b : Bool). cond b (c - 48) (c - 87)) e

value_high : (c : ℕ) → is_digit c ≡ false → hex_value c ≡ c - 87
value_high c e = ap (λ (b : Bool). cond b (c - 48) (c - 87)) e

-- a hexadecimal digit has a value, and is the digit of it
pub digit_of : (c : ℕ) → is_hex c ≡ true → IsDigitOf c
digit_of c e =
    ⊎_elim
    (λ t.
    let b = digit_bounds c t in
    let v = value_low c t in
    (omega (arith, v, b.0, b.1), glyph_low (hex_value c) (omega (arith, v, b.0, b.1)) ∙ omega (arith, v, b.0, b.1)))
    (λ f.
    let h = ⊎_elim (λ t. absurd (false≢true (sym f ∙ t))) (λ t. t) (either_true (is_digit c) (nat_le 97 c && nat_le c 102) e) in
    let low = leb-true 97 c (both_left (nat_le 97 c) (nat_le c 102) h) in
    let high = leb-true c 102 (both_right (nat_le 97 c) (nat_le c 102) h) in
    let v = value_high c f in
    (omega (arith, v, low, high), glyph_high (hex_value c) (omega (arith, v, low, high)) ∙ omega (arith, v, low, high)))
    (true_or_false (is_digit c))

record Glyph (d : ℕ) : Type 0 where
  hex : is_hex (digit_glyph false d) ≡ true
  value : hex_value (digit_glyph false d) ≡ d
  zero_is : digit_glyph false d ≡ 48 → d ≡ 0

glyph : (d : ℕ) → d < 16 → Glyph d
glyph d small =
    ⊎_elim
    (λ l.
    let digit : is_digit (48 + d) ≡ true = both_true (nat_le 48 (48 + d)) (nat_le (48 + d) 57) (le-leb 48 (48 + d) (omega arith)) (le-leb (48 + d) 57 (omega arith)) in
    let same : 48 + d - 48 ≡ d = omega arith in
    let here : (is_hex (48 + d) ≡ true) × (hex_value (48 + d) ≡ d) = (left_true (is_digit (48 + d)) _ digit, value_low (48 + d) digit ∙ same) in
    let there = subst (λ (c : ℕ). (is_hex c ≡ true) × (hex_value c ≡ d)) (sym (glyph_low d l)) here in
    record { hex = there.0; value = there.1; zero_is = λ e. omega (arith, glyph_low d l, e) })
    (λ (b : 10 ≤ d).
    let other : is_digit (87 + d) ≡ false = ⊎_elim (λ t. absurd (omega (arith, (digit_bounds (87 + d) t).1))) (λ f. f) (true_or_false (is_digit (87 + d))) in
    let letter : (nat_le 97 (87 + d) && nat_le (87 + d) 102) ≡ true = both_true (nat_le 97 (87 + d)) (nat_le (87 + d) 102) (le-leb 97 (87 + d) (omega arith)) (le-leb (87 + d) 102 (omega arith)) in
    let same : 87 + d - 87 ≡ d = omega arith in
    let here : (is_hex (87 + d) ≡ true) × (hex_value (87 + d) ≡ d) = (right_true (is_digit (87 + d)) _ letter, value_high (87 + d) other ∙ same) in
    let there = subst (λ (c : ℕ). (is_hex c ≡ true) × (hex_value c ≡ d)) (sym (glyph_high d b)) here in
    record { hex = there.0; value = there.1; zero_is = λ e. absurd (omega (arith, glyph_high d b, e)) })
    (cases_lt d 10)

-- ---- characters that don't stand for themselves

pub plain_bounds : (n : ℕ) → is_plain n ≡ true → (33 ≤ n) × (n ≤ 126)
plain_bounds n e = (leb-true 33 n (both_left (nat_le 33 n) (nat_le n 126) e), leb-true n 126 (both_right (nat_le 33 n) (nat_le n 126) e))

pub not_plain : (n : ℕ) → (33 ≤ n → n ≤ 126 → ⊥) → is_plain n ≡ false
not_plain n never = ⊎_elim (λ t. absurd (never (plain_bounds n t).0 (plain_bounds n t).1)) (λ f. f) (true_or_false (is_plain n))

pub hidden_at : (n : ℕ) → is_plain n ≡ false → (n < 55296) ⊎ (57343 < n) → is_hidden n ≡ true
hidden_at n other where_ =
    both_true (not (is_plain n)) (nat_lt n 55296 || nat_lt 57343 n) (ap not other)
    (⊎_elim (λ l. left_true (nat_lt n 55296) _ (lt-ltb n 55296 l)) (λ l. right_true (nat_lt n 55296) _ (lt-ltb 57343 n l)) where_)

not_true : (b : Bool) → not b ≡ true → b ≡ false
not_true true e = absurd (false≢true e)
not_true false e = refl

pub hidden_plain : (n : ℕ) → is_hidden n ≡ true → is_plain n ≡ false
hidden_plain n e = not_true (is_plain n) (both_left (not (is_plain n)) _ e)

pub hidden_char : (n : ℕ) → is_hidden n ≡ true → (n < 55296) ⊎ (57343 < n)
hidden_char n e = ⊎_elim (λ t. inl (ltb-true n 55296 t)) (λ t. inr (ltb-true 57343 n t)) (either_true (nat_lt n 55296) (nat_lt 57343 n) (both_right (not (is_plain n)) _ e))

-- where a number is none, one with a digit more is
grown : (n : ℕ) → is_hidden n ≡ false → (16 * n ≤ largest_char) × (is_hidden (16 * n) ≡ true)
grown n e =
    ⊎_elim
    (λ t. let b = plain_bounds n t in (omega (arith, b.1), hidden_at (16 * n) (not_plain (16 * n) (λ low high. omega (arith, b.0, high))) (inl (omega (arith, b.1)))))
    (λ f.
    ⊎_elim
    (λ (l : n < 55296). absurd (false≢true (sym e ∙ hidden_at n f (inl l))))
    (λ (g : 55296 ≤ n).
    ⊎_elim
    (λ (h : 57343 < n). absurd (false≢true (sym e ∙ hidden_at n f (inr h))))
    (λ (h : n ≤ 57343). (omega arith, hidden_at (16 * n) (not_plain (16 * n) (λ low high. omega arith)) (inr (omega arith))))
    (cases_lt 57343 n))
    (cases_lt n 55296))
    (true_or_false (is_plain n))

abbrev more_digits : ℕ → ℕ → Bool
more_digits n c = is_hex c && nat_le (16 * n + hex_value c) largest_char

hex_next : (n c : ℕ) (s : List ℕ) → more_digits n c ≡ true → hex_from n (c ∷ s) ≡ hex_from (16 * n + hex_value c) s
unfolding hex_from
hex_next n c s e = ap (λ (b : Bool). cond b (hex_from (16 * n + hex_value c) s) (hex_done n (c ∷ s))) e

hex_end : (n c : ℕ) (s : List ℕ) → more_digits n c ≡ false → hex_from n (c ∷ s) ≡ hex_done n (c ∷ s)
unfolding hex_from
hex_end n c s e = ap (λ (b : Bool). cond b (hex_from (16 * n + hex_value c) s) (hex_done n (c ∷ s))) e

hex_nil : (n : ℕ) → hex_from n [] ≡ hex_done n []
unfolding hex_from
hex_nil n = refl

done_yes : (n : ℕ) (s : List ℕ) → is_hidden n ≡ true → hex_done n s ≡ Ok (n, s)
done_yes n s e = ap (λ (b : Bool). cond b (Ok (n, s)) (Err (length s))) e

done_no : (n : ℕ) (s : List ℕ) → is_hidden n ≡ false → hex_done n s ≡ Err (length s)
done_no n s e = ap (λ (b : Bool). cond b (Ok (n, s)) (Err (length s))) e

-- ---- what is read is spelled so

-- n and further digits
pub record HexRead (n : ℕ) (s : List ℕ) (y : ℕ × List ℕ) : Type 0 where
  pub whole : hex_text n ++ s ≡ hex_text y.0 ++ y.1
  pub hidden : is_hidden y.0 ≡ true
  pub small : y.0 ≤ largest_char

done_takes : (n : ℕ) (s : List ℕ) (y : ℕ × List ℕ) → n ≤ largest_char → hex_done n s ≡ Ok y → HexRead n s y
done_takes n s y le e =
    ⊎_elim
    (λ t. subst (HexRead n s) (ok_of (n, s) y (sym (done_yes n s t) ∙ e)) (record { whole = refl; hidden = t; small = le }))
    (λ f. absurd (Ok≢Err y (length s) (sym e ∙ done_no n s f)))
    (true_or_false (is_hidden n))

pub hex_takes : (s : List ℕ) (n : ℕ) (y : ℕ × List ℕ) → 1 ≤ n → n ≤ largest_char → hex_from n s ≡ Ok y → HexRead n s y
hex_takes [] n y some le e = done_takes n [] y le (sym (hex_nil n) ∙ e)
hex_takes (c ∷ s) n y some le e =
    ⊎_elim
    (λ t.
    let d = digit_of c (both_left (is_hex c) _ t) in
    let small = leb-true (16 * n + hex_value c) largest_char (both_right (is_hex c) _ t) in
    let rest = hex_takes s (16 * n + hex_value c) y (omega (arith, some)) small (sym (hex_next n c s t) ∙ e) in
    let number : hex_text (16 * n + hex_value c) ≡ hex_text n ++ c ∷ [] = hex_more n (hex_value c) some d.0 (omega (arith, small)) ∙ ap (λ (x : ℕ). hex_text n ++ x ∷ []) d.1 in
    record {
      whole = sym (append_assoc (hex_text n) (c ∷ []) s) ∙ ap (λ x. x ++ s) (sym number) ∙ rest.whole;
      hidden = rest.hidden;
      small = rest.small;
    })
    (λ f. done_takes n (c ∷ s) y le (sym (hex_end n c s f) ∙ e))
    (true_or_false (more_digits n c))

-- ---- what stands behind a `u`

u_zero : (c : ℕ) (s : List ℕ) → is_hex c ≡ true → eqb c 48 ≡ true → u_at (c ∷ s) ≡ Ok (0, s)
unfolding u_at
u_zero c s e f = ap (λ (b : Bool). cond b (cond (eqb c 48) (Ok (0, s)) (hex_from (hex_value c) s)) (Ok (117, c ∷ s))) e ∙ ap (λ (b : Bool). cond b (Ok (0, s)) (hex_from (hex_value c) s)) f

u_digit : (c : ℕ) (s : List ℕ) → is_hex c ≡ true → eqb c 48 ≡ false → u_at (c ∷ s) ≡ hex_from (hex_value c) s
unfolding u_at
u_digit c s e f = ap (λ (b : Bool). cond b (cond (eqb c 48) (Ok (0, s)) (hex_from (hex_value c) s)) (Ok (117, c ∷ s))) e ∙ ap (λ (b : Bool). cond b (Ok (0, s)) (hex_from (hex_value c) s)) f

u_alone : (c : ℕ) (s : List ℕ) → is_hex c ≡ false → u_at (c ∷ s) ≡ Ok (117, c ∷ s)
unfolding u_at
u_alone c s e = ap (λ (b : Bool). cond b (cond (eqb c 48) (Ok (0, s)) (hex_from (hex_value c) s)) (Ok (117, c ∷ s))) e

u_nil : u_at [] ≡ Ok (117, [])
unfolding u_at
u_nil = refl

-- `u` itself, or a character that doesn't stand for itself
pub data IsU (c : ℕ) : Type 0 where
  Itself : c ≡ 117 → IsU c
  Hidden : is_hidden c ≡ true → c ≤ largest_char → IsU c

-- the text behind the `u`
abbrev pub u_text : ℕ → List ℕ
u_text c = cond (eqb c 117) [] (hex_text c)

hidden_text : (c : ℕ) → is_hidden c ≡ true → u_text c ≡ hex_text c
hidden_text c e =
    let other : eqb c 117 ≡ false = ne_eqb c 117 (λ same. false≢true (sym (hidden_plain c e) ∙ ap is_plain same)) in
    ap (λ (b : Bool). cond b [] (hex_text c)) other

alone_text : u_text 117 ≡ []
alone_text = refl

-- a digit that isn't 0
some_value : (c : ℕ) → is_hex c ≡ true → eqb c 48 ≡ false → 1 ≤ hex_value c
some_value c e f =
    let d = digit_of c e in
    let ne = eqb-false c 48 f in
    ⊎_elim (λ (l : hex_value c < 1).
    let none : hex_value c ≡ 0 = omega arith in
    absurd (ne (sym d.1 ∙ ap (digit_glyph false) none))) (λ l. l) (cases_lt (hex_value c) 1)

u_takes : (s : List ℕ) (x : ℕ × List ℕ) → u_at s ≡ Ok x → (s ≡ u_text x.0 ++ x.1) × IsU x.0
u_takes [] x e = subst (λ (y : ℕ × List ℕ). ([] ≡ u_text y.0 ++ y.1) × IsU y.0) (ok_of (117, []) x (sym u_nil ∙ e)) (refl, Itself refl)
u_takes (c ∷ s) x e =
    ⊎_elim
    (λ t.
    ⊎_elim
    (λ z.
    subst (λ (y : ℕ × List ℕ). (c ∷ s ≡ u_text y.0 ++ y.1) × IsU y.0) (ok_of (0, s) x (sym (u_zero c s t z.0) ∙ e))
    (ap (λ (b : ℕ). b ∷ s) z.1 ∙ ap (λ w. w ++ s) (sym (hidden_text 0 refl ∙ hex_one 0 (lit< tt))), Hidden refl (lit≤ tt)))
    (λ z.
    let d = digit_of c t in
    let r = hex_takes s (hex_value c) x (some_value c t z.0) (omega (arith, d.0)) (sym (u_digit c s t z.0) ∙ e) in
    (ap (λ (b : ℕ). b ∷ s) (sym d.1) ∙ ap (λ w. w ++ s) (sym (hex_one (hex_value c) d.0)) ∙ r.whole ∙ ap (λ w. w ++ x.1) (sym (hidden_text x.0 r.hidden)), Hidden r.hidden r.small))
    (eqb_tells c 48))
    (λ f. subst (λ (y : ℕ × List ℕ). (c ∷ s ≡ u_text y.0 ++ y.1) × IsU y.0) (ok_of (117, c ∷ s) x (sym (u_alone c s f) ∙ e)) (refl, Itself refl))
    (true_or_false (is_hex c))

-- ---- what is spelled so is read

-- reading goes on behind the digits of n as behind n
abbrev ReadsOn : ℕ → List ℕ → Type 0
ReadsOn n ds = (r : List ℕ) → 1 ≤ n → n ≤ largest_char → u_at (ds ++ r) ≡ hex_from n r

one_digit : (n : ℕ) → n < 16 → ReadsOn n (digit_glyph false n ∷ [])
one_digit n small r some le =
    let g = glyph n small in
    u_digit (digit_glyph false n) r g.hex (ne_eqb (digit_glyph false n) 48 (λ e. absurd (omega (arith, some, g.zero_is e)))) ∙ ap (λ (m : ℕ). hex_from m r) g.value

more_of : (n : ℕ) (ds : List ℕ) → 16 ≤ n → ReadsOn (n / 16) ds → ReadsOn n (ds ++ digit_glyph false (n % 16) ∷ [])
more_of n ds big before r some le =
    let g = glyph (n % 16) (omega arith) in
    let size : 16 * (n / 16) + n % 16 ≡ n = omega arith in
    let whole : 16 * (n / 16) + hex_value (digit_glyph false (n % 16)) ≡ n = ap (λ (v : ℕ). 16 * (n / 16) + v) g.value ∙ size in
    let test : more_digits (n / 16) (digit_glyph false (n % 16)) ≡ true = both_true (is_hex (digit_glyph false (n % 16))) _ g.hex (le-leb (16 * (n / 16) + hex_value (digit_glyph false (n % 16))) largest_char (omega (arith, whole, le))) in
    ap u_at (append_assoc ds (digit_glyph false (n % 16) ∷ []) r)
    ∙ before (digit_glyph false (n % 16) ∷ r) (omega arith) (omega (arith, le))
    ∙ hex_next (n / 16) (digit_glyph false (n % 16)) r test
    ∙ ap (λ (m : ℕ). hex_from m r) whole

ended_hex : (n : ℕ) (r : List ℕ) → Ended r → hex_from n r ≡ hex_done n r
ended_hex n [] e = hex_nil n
ended_hex n (c ∷ r) e = hex_end n c r (ap (λ (b : Bool). b && nat_le (16 * n + hex_value c) largest_char) e)

ended_u : (r : List ℕ) → Ended r → u_at r ≡ Ok (117, r)
ended_u [] e = u_nil
ended_u (c ∷ r) e = u_alone c r e

hidden_again : (c : ℕ) (r : List ℕ) → is_hidden c ≡ true → c ≤ largest_char → Ended r → u_at (hex_text c ++ r) ≡ Ok (c, r)
hidden_again zero r hidden le e = ap (λ w. u_at (w ++ r)) (hex_one 0 (lit< tt)) ∙ u_zero 48 r refl refl
hidden_again (suc c) r hidden le e = hex_by_steps ReadsOn one_digit more_of (suc c) (omega (arith, le)) r (omega arith) le ∙ ended_hex (suc c) r e ∙ done_yes (suc c) r hidden

u_again : (c : ℕ) (r : List ℕ) → IsU c → Ended r → u_at (u_text c ++ r) ≡ Ok (c, r)
u_again c r (Itself is) e = subst (λ (d : ℕ). u_at (u_text d ++ r) ≡ Ok (d, r)) (sym is) (ended_u r e)
u_again c r (Hidden hidden le) e = ap (λ w. u_at (w ++ r)) (hidden_text c hidden) ∙ hidden_again c r hidden le e

-- ---- reading goes right

module _ (k : ℕ → Rest Code) (G : (c : ℕ) → IsU c → Goes (k c)) (N : (c : ℕ) → IsU c → NoDigit (k c)) where
  abbrev hex_rest : ℕ → Rest Code
  hex_rest n s = then_rest (hex_from n s) k

  done_rest : (n : ℕ) (s : List ℕ) → is_hidden n ≡ true → then_rest (hex_done n s) k ≡ k n s
  done_rest n s e = ap (λ r. then_rest r k) (done_yes n s e)

  hex_up : (n : ℕ) → is_hidden n ≡ true → n ≤ largest_char → (w : List ℕ) (v : Code) → k n w ≡ Ok v → hex_rest n w ≡ Ok v
  hex_up n hidden le [] v e = ap (λ r. then_rest r k) (hex_nil n) ∙ done_rest n [] hidden ∙ e
  hex_up n hidden le (c ∷ w) v e =
      ⊎_elim
      (λ t. absurd (Ok≢Err v (length w + 1) (sym e ∙ N n (Hidden hidden le) c w (both_left (is_hex c) _ t))))
      (λ f. ap (λ r. then_rest r k) (hex_end n c w f) ∙ done_rest n (c ∷ w) hidden ∙ e)
      (true_or_false (more_digits n c))

  hex_live : (n : ℕ) → 1 ≤ n → n ≤ largest_char → Live (hex_rest n)
  hex_live n some le =
      ⊎_elim
      (λ h. let l = (G n (Hidden h le)).live in record { text = l.text; value = l.value; is = hex_up n h le l.text l.value l.is })
      (λ f.
      let g = grown n f in
      let l = (G (16 * n) (Hidden g.1 g.0)).live in
      let same : 16 * n + hex_value 48 ≡ 16 * n = omega arith in
      let test : more_digits n 48 ≡ true = le-leb (16 * n + hex_value 48) largest_char (omega (arith, same, g.0)) in
      record {
        text = 48 ∷ l.text;
        value = l.value;
        is = ap (λ r. then_rest r k) (hex_next n 48 l.text test) ∙ ap (λ (m : ℕ). hex_rest m l.text) same ∙ hex_up (16 * n) g.1 g.0 l.text l.value l.is;
      })
      (true_or_false (is_hidden n))

  hex_stop : (s : List ℕ) (n : ℕ) → 1 ≤ n → n ≤ largest_char → StopsAt (hex_rest n) s (hex_rest n s)
  hex_stop [] n some le =
      ⊎_elim
      (λ h. subst (StopsAt (hex_rest n) []) (sym (ap (λ r. then_rest r k) (hex_nil n) ∙ done_rest n [] h)) (pass_nil (hex_rest n) (k n) (hex_up n h le) (k n []) ((G n (Hidden h le)).stops [])))
      (λ f. at_end (hex_rest n) (hex_live n some le) (ap (λ r. then_rest r k) (hex_nil n ∙ done_no n [] f)))
      (true_or_false (is_hidden n))
  hex_stop (c ∷ s) n some le =
      ⊎_elim
      (λ t. shift (hex_rest n) (hex_rest (16 * n + hex_value c)) c (λ z. ap (λ r. then_rest r k) (hex_next n c z t)) s (hex_stop s (16 * n + hex_value c) (omega (arith, some)) (leb-true (16 * n + hex_value c) largest_char (both_right (is_hex c) _ t))))
      (λ t.
      ⊎_elim
      (λ h.
      subst (StopsAt (hex_rest n) (c ∷ s)) (sym (ap (λ r. then_rest r k) (hex_end n c s t) ∙ done_rest n (c ∷ s) h))
      (pass (hex_rest n) (k n) c s (hex_up n h le) (λ z. ap (λ r. then_rest r k) (hex_end n c z t) ∙ done_rest n (c ∷ z) h) (k n (c ∷ s)) ((G n (Hidden h le)).stops (c ∷ s))))
      (λ f. refuse (hex_rest n) (hex_live n some le) c (λ z. ap (λ r. then_rest r k) (hex_end n c z t ∙ done_no n (c ∷ z) f) ∙ ap (λ (m : ℕ). Err m) (omega arith)) s)
      (true_or_false (is_hidden n)))
      (true_or_false (more_digits n c))

  abbrev u_rest : Rest Code
  u_rest s = then_rest (u_at s) k

  u_up : (w : List ℕ) (v : Code) → k 117 w ≡ Ok v → u_rest w ≡ Ok v
  u_up [] v e = ap (λ r. then_rest r k) u_nil ∙ e
  u_up (c ∷ w) v e =
      ⊎_elim
      (λ t. absurd (Ok≢Err v (length w + 1) (sym e ∙ N 117 (Itself refl) c w t)))
      (λ f. ap (λ r. then_rest r k) (u_alone c w f) ∙ e)
      (true_or_false (is_hex c))

  pub u_goes : Goes u_rest
  u_goes = record { live = l; stops = at }
    where
      l : Live u_rest
      l = let o = (G 117 (Itself refl)).live in record { text = o.text; value = o.value; is = u_up o.text o.value o.is }

      at : (s : List ℕ) → StopsAt u_rest s (u_rest s)
      at [] = subst (StopsAt u_rest []) (sym (ap (λ r. then_rest r k) u_nil)) (pass_nil u_rest (k 117) u_up (k 117 []) ((G 117 (Itself refl)).stops []))
      at (c ∷ s) =
          ⊎_elim
          (λ t.
          ⊎_elim
          (λ z. shift u_rest (k 0) c (λ w. ap (λ r. then_rest r k) (u_zero c w t z.0)) s ((G 0 (Hidden refl (lit≤ tt))).stops s))
          (λ z. shift u_rest (hex_rest (hex_value c)) c (λ w. ap (λ r. then_rest r k) (u_digit c w t z.0)) s (hex_stop s (hex_value c) (some_value c t z.0) (omega (arith, (digit_of c t).0))))
          (eqb_tells c 48))
          (λ f.
          subst (StopsAt u_rest (c ∷ s)) (sym (ap (λ r. then_rest r k) (u_alone c s f)))
          (pass u_rest (k 117) c s u_up (λ z. ap (λ r. then_rest r k) (u_alone c z f)) (k 117 (c ∷ s)) ((G 117 (Itself refl)).stops (c ∷ s))))
          (true_or_false (is_hex c))

-- what stands behind a `u`
pub u_codec : Codec false true (plainly u_at) u_text IsU
u_codec = record {
  takes = λ n s x is. u_takes s x is;
  again = λ n a r is after le. u_again a r is after;
  enough = λ n m s le lf. refl;
  goes = λ n k G N. u_goes k G N;
  opens = tt;
}
