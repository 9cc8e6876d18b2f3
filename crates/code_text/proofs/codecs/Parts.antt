-- Parts that are made of words, numbers and other parts.
use Rattle.std.proofs.Common.{◌≡◌, ℕ, ◌^◌, ◌≤◌, ◌<◌, Bool, true, false, List, [], ◌∷◌, ◌++◌, length, Ok, ap, sym, subst, ◌∙◌, refl, arith, append_assoc, length-append}
use Rattle.std.specs.Fmt.{decimal}
use Rattle.std.proofs.lemmas.Bool.{false≢true}
use Rattle.machine_table.specs.Codes.{Code}
use Rattle.code_text.specs.Reading.{Read, ◌>>=◌, Reader, is_hex, byte_at, word_at, number_at, pick_at, plainly, behind, before, choice}
use Rattle.code_text.proofs.goes.Goes.{Rest, then_rest, Goes-same, bind_rest, NoDigit, word_goes, word_rest, byte_no_digit, number_goes, positive_goes}
use Rattle.code_text.proofs.goes.PickGoes.{At, is_free, pick_goes, pick_finds, pick_again}
use Rattle.code_text.proofs.goes.Spelled.{bind_ok, bind_at, word_takes, word_again, number_takes, number_again, Ended}
use Rattle.code_text.proofs.codecs.Codec.{Codec, Begins, Follow, After, follow_same, bind_same, ok_of, bind_goes}

-- a word that begins with a byte that is no digit
abbrev pub Leads : Bool → List ℕ → Type 0
Leads true [] = ⊥
Leads true (c ∷ w) = is_hex c ≡ false
Leads false w = Unit {0}

word_no_digit : (w : List ℕ) (g : Rest Code) → Leads true w → NoDigit (word_rest w g)
unfolding word_at
word_no_digit [] g l = absurd l
word_no_digit (c ∷ w) g l = λ d z digit. bind_rest (byte_at c (d ∷ z)) (λ x. word_at w x.1) (λ _. g) ∙ byte_no_digit c (word_rest w g) l d z digit

word_follow : (e : Bool) (w : List ℕ) (g : Rest Code) → Leads e w → Follow e (word_rest w g)
word_follow true w g l = word_no_digit w g l
word_follow false w g l = tt

word_after : (e : Bool) (w r : List ℕ) → Leads e w → After e (w ++ r)
word_after true [] r l = absurd l
word_after true (c ∷ w) r l = l
word_after false w r l = tt

-- ---- a word, and a part

module _ {A : Type 0} (w : List ℕ) (p : Reader A) (t : A → List ℕ) (P : A → Type 0) where
  behind_rest : (n : ℕ) (k : A → Rest Code) (s : List ℕ) → then_rest (behind w p n s) k ≡ word_rest w (λ z. then_rest (p n z) k) s
  behind_rest n k s = bind_rest (word_at w s) (λ x. p n x.1) k

  behind_opens : (b : Bool) → Leads b w → Begins b (behind w p) (λ a. w ++ t a) P
  behind_opens true l = record {
    rest = λ n k d z digit. behind_rest n k (d ∷ z) ∙ word_no_digit w (λ y. then_rest (p n y) k) l d z digit;
    text = λ a r is. subst Ended (sym (append_assoc w (t a) r)) (word_after true w (t a ++ r) l);
  }
  behind_opens false l = tt

  pub behind_codec : (b c e : Bool) → Leads b w → Codec c e p t P → Codec b e (behind w p) (λ a. w ++ t a) P
  behind_codec b c e l o = record {
    takes = λ n s x is.
        let h = bind_ok (word_at w s) (λ y. p n y.1) x is in
        let i = o.takes n h.0.1 x h.2 in
        (word_takes w s h.0 h.1 ∙ ap (λ z. w ++ z) i.0 ∙ sym (append_assoc w (t x.0) x.1), i.1);
    again = λ n a r is after le.
        ap (behind w p n) (append_assoc w (t a) r)
        ∙ bind_at (word_at w (w ++ (t a ++ r))) (λ y. p n y.1) (tt, t a ++ r) (word_again w (t a ++ r))
        ∙ o.again n a r is after (omega (arith, le, length-append w (t a)));
    enough = λ n m s le lf. bind_same (word_at w s) (λ y. p n y.1) (λ y. p m y.1) (λ x is.
        let short : length x.1 ≤ length s = omega (arith, ap length (word_takes w s x is), length-append w x.1) in
        o.enough n m x.1 (omega (arith, short, le)) (omega (arith, short, lf)));
    goes = λ n k G N. Goes-same (λ s. then_rest (behind w p n s) k) (word_rest w (λ z. then_rest (p n z) k)) (behind_rest n k) (word_goes w (λ z. then_rest (p n z) k) (o.goes n k G N));
    opens = behind_opens b l;
  }

  -- the word behind the part
  before_part : (n : ℕ) (k : A → Rest Code) (a : A) (s : List ℕ) → then_rest (word_at w s >>= λ y. Ok (a, y.1)) k ≡ word_rest w (k a) s
  before_part n k a s = bind_rest (word_at w s) (λ y. Ok (a, y.1)) k

  before_opens : (b : Bool) → Begins b p t P → Begins b (before p w) (λ a. t a ++ w) P
  before_opens true o = record {
    rest = λ n k d z digit. bind_rest (p n (d ∷ z)) (λ x. word_at w x.1 >>= λ y. Ok (x.0, y.1)) k ∙ o.rest n (λ a s. then_rest (word_at w s >>= λ y. Ok (a, y.1)) k) d z digit;
    text = λ a r is. subst Ended (sym (append_assoc (t a) w r)) (o.text a (w ++ r) is);
  }
  before_opens false o = tt

  pub before_codec : (b e : Bool) → Leads e w → Codec b e p t P → Codec b false (before p w) (λ a. t a ++ w) P
  before_codec b e l o = record {
    takes = λ n s x is.
        let h = bind_ok (p n s) (λ x. word_at w x.1 >>= λ y. Ok (x.0, y.1)) x is in
        let i = bind_ok (word_at w h.0.1) (λ y. Ok (h.0.0, y.1)) x h.2 in
        let f = o.takes n s h.0 h.1 in
        subst (λ (y : A × List ℕ). (s ≡ (t y.0 ++ w) ++ y.1) × P y.0) (ok_of (h.0.0, i.0.1) x i.2)
        (f.0 ∙ ap (λ z. t h.0.0 ++ z) (word_takes w h.0.1 i.0 i.1) ∙ sym (append_assoc (t h.0.0) w i.0.1), f.1);
    again = λ n a r is after le.
        ap (before p w n) (append_assoc (t a) w r)
        ∙ bind_at (p n (t a ++ (w ++ r))) (λ x. word_at w x.1 >>= λ y. Ok (x.0, y.1)) (a, w ++ r) (o.again n a (w ++ r) is (word_after e w r l) (omega (arith, le, length-append (t a) w)))
        ∙ bind_at (word_at w (w ++ r)) (λ y. Ok (a, y.1)) (tt, r) (word_again w r);
    enough = λ n m s le lf. ap (λ (z : Read A). z >>= λ x. word_at w x.1 >>= λ y. Ok (x.0, y.1)) (o.enough n m s le lf);
    goes = λ n k G N.
        let more : A → Rest Code = λ a s. then_rest (word_at w s >>= λ y. Ok (a, y.1)) k in
        bind_goes (p n) (λ x. word_at w x.1 >>= λ y. Ok (x.0, y.1)) k
        (o.goes n more
        (λ a is. Goes-same (more a) (word_rest w (k a)) (before_part n k a) (word_goes w (k a) (G a is)))
        (λ a is. follow_same e (more a) (word_rest w (k a)) (before_part n k a) (word_follow e w (k a) l)));
    opens = before_opens b o.opens;
  }

-- ---- numbers

-- a number that may be 0
pub number_codec : (high : ℕ) → high < 2 ^ 64 → Codec false true (plainly (number_at true high)) decimal (λ n. n ≤ high)
number_codec high low = record {
  takes = λ n s x is. let h = number_takes true high s x low is in (h.whole, h.within);
  again = λ n a r is after le. number_again true high a r low is (λ e. absurd (false≢true (sym e))) after;
  enough = λ n m s le lf. refl;
  goes = λ n k G N. number_goes high k (λ a some le. G a le) (λ a some le. N a le) (G 0 (omega arith));
  opens = tt;
}

-- a number above 0
pub positive_codec : (high : ℕ) → 1 ≤ high → high < 2 ^ 64 → Codec false true (plainly (number_at false high)) decimal (λ n. (1 ≤ n) × (n ≤ high))
positive_codec high some low = record {
  takes = λ n s x is. let h = number_takes false high s x low is in (h.whole, (h.some refl, h.within));
  again = λ n a r is after le. number_again false high a r low is.1 (λ e. is.0) after;
  enough = λ n m s le lf. refl;
  goes = λ n k G N. positive_goes high k (λ a one le. G a (one, le)) (λ a one le. N a (one, le)) some;
  opens = tt;
}

-- ---- one of some words, and a part

module _ {A : Type 0} (words : List (List ℕ)) (first : List ℕ) (at : At words 0 first) (free : is_free words ≡ true) (q : ℕ → Reader A) (T : ℕ → A → List ℕ) (R : ℕ → A → Type 0) (u : A → List ℕ) (P : A → Type 0) (e : Bool) (branch : (j : ℕ) (w : List ℕ) → At words j w → Codec false e (q j) (T j) (R j)) (up : (j : ℕ) (w : List ℕ) (a : A) → At words j w → R j a → P a × (u a ≡ w ++ T j a)) (down : (a : A) → P a → (j : ℕ) × (w : List ℕ) × At words j w × R j a) where
  pub choice_codec : Codec false e (choice words q) u P
  choice_codec = record {
    takes = λ n s x is.
        let h = bind_ok (pick_at words s) (λ w. q w.0 n w.1) x is in
        let f = pick_finds words 0 0 s h.0.0 h.0.1 h.1 in
        let number : f.number ≡ h.0.0 = omega (arith, f.same) in
        let here : At words h.0.0 f.word = subst (λ (j : ℕ). At words j f.word) number f.at in
        let c = (branch h.0.0 f.word here).takes n h.0.1 x h.2 in
        let d = up h.0.0 f.word x.0 here c.1 in
        (f.whole ∙ ap (λ z. f.word ++ z) c.0 ∙ sym (append_assoc f.word (T h.0.0 x.0) x.1) ∙ ap (λ z. z ++ x.1) (sym d.1), d.0);
    again = λ n a r is after le.
        let h = down a is in
        let text = (up h.0 h.1 a h.2 h.3).1 in
        let size = length-append h.1 (T h.0 a) in
        ap (λ z. choice words q n (z ++ r)) text
        ∙ ap (choice words q n) (append_assoc h.1 (T h.0 a) r)
        ∙ bind_at (pick_at words (h.1 ++ (T h.0 a ++ r))) (λ w. q w.0 n w.1) (h.0, T h.0 a ++ r) (pick_again words 0 0 h.0 h.1 (T h.0 a ++ r) free h.2 ∙ ap (λ (j : ℕ). Ok (j, T h.0 a ++ r)) (omega arith))
        ∙ (branch h.0 h.1 h.2).again n a r h.3 after (omega (arith, le, ap length text, size));
    enough = λ n m s le lf. bind_same (pick_at words s) (λ w. q w.0 n w.1) (λ w. q w.0 m w.1) (λ w is.
        let f = pick_finds words 0 0 s w.0 w.1 is in
        let number : f.number ≡ w.0 = omega (arith, f.same) in
        let here : At words w.0 f.word = subst (λ (j : ℕ). At words j f.word) number f.at in
        let short : length w.1 ≤ length s = omega (arith, ap length f.whole, length-append f.word w.1) in
        (branch w.0 f.word here).enough n m w.1 (omega (arith, short, le)) (omega (arith, short, lf)));
    goes = λ n k G N.
        bind_goes (pick_at words) (λ w. q w.0 n w.1) k
        (pick_goes words (λ j s. then_rest (q j n s) k) first at free
        (λ j w here. (branch j w here).goes n k (λ a is. G a (up j w a here is).0) (λ a is. N a (up j w a here is).0)));
    opens = tt;
  }
