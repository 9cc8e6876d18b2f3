-- A part of a text, read and spelled: what is read is spelled so, what is spelled so is read, the number of items that a list
-- may have makes no difference where it is at least the length of the text, and reading goes right.
use Rattle.std.proofs.Common.{◌≡◌, ℕ, ◌≤◌, ◌||◌, not, Bool, true, false, List, ◌∷◌, ◌++◌, length, Ok, Err, ap, sym, subst, ◌∙◌, refl, arith, append_assoc, length-append}
use Rattle.std.proofs.lemmas.Bool.{false≢true}
use Rattle.machine_table.specs.Codes.{Code}
use Rattle.code_text.specs.Reading.{Read, ◌>>=◌, Reader, both_at, made}
use Rattle.code_text.proofs.goes.Goes.{Rest, then_rest, Goes, Goes-same, bind_rest, NoDigit}
use Rattle.code_text.proofs.goes.Spelled.{bind_ok, bind_at, one_ok, Ended}

-- what must come behind a part that ends with a number
abbrev pub Follow : Bool → Rest Code → Type 0
Follow true g = NoDigit g
Follow false g = Unit {0}

abbrev pub After : Bool → List ℕ → Type 0
After true r = Ended r
After false r = Unit {0}

-- a part that begins with a byte that is no digit
pub record Opens {A : Type 0} (p : Reader A) (t : A → List ℕ) (P : A → Type 0) : Type 0 where
  pub rest : (n : ℕ) (k : A → Rest Code) → NoDigit (λ s. then_rest (p n s) k)
  pub text : (a : A) (r : List ℕ) → P a → Ended (t a ++ r)

abbrev pub Begins : Bool → {A : Type 0} → Reader A → (A → List ℕ) → (A → Type 0) → Type 0
Begins true p t P = Opens p t P
Begins false p t P = Unit {0}

-- A part that p reads and t spells, of the values for which P holds. Two marks say whether it begins with a byte that is no
-- digit, and whether it ends with a number.
pub record Codec {A : Type 0} (begins ends : Bool) (p : Reader A) (t : A → List ℕ) (P : A → Type 0) : Type 0 where
  pub takes : (n : ℕ) (s : List ℕ) (x : A × List ℕ) → p n s ≡ Ok x → (s ≡ t x.0 ++ x.1) × P x.0
  pub again : (n : ℕ) (a : A) (r : List ℕ) → P a → After ends r → length (t a) ≤ n → p n (t a ++ r) ≡ Ok (a, r)
  pub enough : (n m : ℕ) (s : List ℕ) → length s ≤ n → length s ≤ m → p n s ≡ p m s
  pub goes : (n : ℕ) (k : A → Rest Code) → ((a : A) → P a → Goes (k a)) → ((a : A) → P a → Follow ends (k a)) → Goes (λ s. then_rest (p n s) k)
  pub opens : Begins begins p t P

-- the same second part behind the same first
pub bind_same : {A B : Type 0} (r : Read A) (f g : A × List ℕ → Read B) → ((x : A × List ℕ) → r ≡ Ok x → f x ≡ g x) → (r >>= f) ≡ (r >>= g)
bind_same (Ok x) f g e = e x refl
bind_same (Err n) f g e = refl

abbrev got : {A : Type 0} → A × List ℕ → Read A
got x = Ok x

pub ok_of : {A : Type 0} (x y : A × List ℕ) → got x ≡ got y → x ≡ y
ok_of x y e = one_ok (got x) x y refl e

-- what is read of one part and then of another
pub bind_goes : {A B : Type 0} (p : List ℕ → Read A) (f : A × List ℕ → Read B) (k : B → Rest Code) → Goes (λ s. then_rest (p s) (λ a t. then_rest (f (a, t)) k)) → Goes (λ s. then_rest (p s >>= f) k)
bind_goes p f k G = Goes-same (λ s. then_rest (p s >>= f) k) (λ s. then_rest (p s) (λ a t. then_rest (f (a, t)) k)) (λ s. bind_rest (p s) f k) G

pub follow_same : (e : Bool) (g h : Rest Code) → ((s : List ℕ) → g s ≡ h s) → Follow e h → Follow e g
follow_same true g h same N = λ d z digit. same (d ∷ z) ∙ N d z digit
follow_same false g h same N = tt

-- a part behind which more may come asks less
pub loosen : {A : Type 0} (b : Bool) (p : Reader A) (t : A → List ℕ) (P : A → Type 0) → Codec b false p t P → Codec b true p t P
loosen b p t P c = record {
  takes = c.takes;
  again = λ n a r is e le. c.again n a r is tt le;
  enough = c.enough;
  goes = λ n k G N. c.goes n k G (λ a is. tt);
  opens = c.opens;
}

pub forget : {A : Type 0} (b e : Bool) (p : Reader A) (t : A → List ℕ) (P : A → Type 0) → Codec b e p t P → Codec false e p t P
forget b e p t P c = record { takes = c.takes; again = c.again; enough = c.enough; goes = c.goes; opens = tt }

-- ---- what is made of what is read

module _ {A B : Type 0} (f : A → B) (p : Reader A) (t : A → List ℕ) (P : A → Type 0) (u : B → List ℕ) (R : B → Type 0) (spelled : (a : A) → P a → u (f a) ≡ t a) (holds : (a : A) → P a → R (f a)) (from : (b : B) → R b → (a : A) × P a × (f a ≡ b)) where
  made_rest : (n : ℕ) (k : B → Rest Code) (s : List ℕ) → then_rest (made f p n s) k ≡ then_rest (p n s) (λ a. k (f a))
  made_rest n k s = bind_rest (p n s) (λ x. Ok (f x.0, x.1)) k

  made_opens : (b : Bool) → Begins b p t P → Begins b (made f p) u R
  made_opens true o = record {
    rest = λ n k d z digit. made_rest n k (d ∷ z) ∙ o.rest n (λ a. k (f a)) d z digit;
    text = λ b r is.
        let h = from b is in
        subst (λ (y : B). Ended (u y ++ r)) h.2 (subst (λ (x : List ℕ). Ended (x ++ r)) (sym (spelled h.0 h.1)) (o.text h.0 r h.1));
  }
  made_opens false o = tt

  pub made_codec : (b e : Bool) → Codec b e p t P → Codec b e (made f p) u R
  made_codec b e c = record {
    takes = λ n s x is.
        let h = bind_ok (p n s) (λ x. Ok (f x.0, x.1)) x is in
        let d = c.takes n s h.0 h.1 in
        subst (λ (y : B × List ℕ). (s ≡ u y.0 ++ y.1) × R y.0) (ok_of (f h.0.0, h.0.1) x h.2)
        (d.0 ∙ ap (λ z. z ++ h.0.1) (sym (spelled h.0.0 d.1)), holds h.0.0 d.1);
    again = λ n y r is after le.
        let h = from y is in
        let text : t h.0 ≡ u y = sym (spelled h.0 h.1) ∙ ap u h.2 in
        ap (λ z. made f p n (z ++ r)) (sym text)
        ∙ bind_at (p n (t h.0 ++ r)) (λ x. Ok (f x.0, x.1)) (h.0, r) (c.again n h.0 r h.1 after (omega (arith, le, ap length text)))
        ∙ ap (λ (z : B). Ok (z, r)) h.2;
    enough = λ n m s le lf. ap (λ (z : Read A). z >>= λ x. Ok (f x.0, x.1)) (c.enough n m s le lf);
    goes = λ n k G N. Goes-same (λ s. then_rest (made f p n s) k) (λ s. then_rest (p n s) (λ a. k (f a))) (made_rest n k) (c.goes n (λ a. k (f a)) (λ a is. G (f a) (holds a is)) (λ a is. N (f a) (holds a is)));
    opens = made_opens b c.opens;
  }

-- ---- one part and then another

module _ {A B : Type 0} (p : Reader A) (t : A → List ℕ) (P : A → Type 0) (q : A → Reader B) (u : A → B → List ℕ) (R : A → B → Type 0) where
  abbrev both_text : A × B → List ℕ
  both_text x = t x.0 ++ u x.0 x.1

  abbrev Both : A × B → Type 0
  Both x = P x.0 × R x.0 x.1

  after_of : (e b : Bool) (a : A) → not e || b ≡ true → Begins b (q a) (u a) (R a) → (y : B) (r : List ℕ) → R a y → After e (u a y ++ r)
  after_of true true a ok o y r is = o.text y r is
  after_of true false a ok o y r is = absurd (false≢true ok)
  after_of false b a ok o y r is = tt

  follow_of : (e b : Bool) (a : A) → not e || b ≡ true → Begins b (q a) (u a) (R a) → (n : ℕ) (k : B → Rest Code) → Follow e (λ s. then_rest (q a n s) k)
  follow_of true true a ok o n k = o.rest n k
  follow_of true false a ok o n k = absurd (false≢true ok)
  follow_of false b a ok o n k = tt

  both_opens : (b : Bool) → Begins b p t P → Begins b (both_at p q) both_text Both
  both_opens true o = record {
    rest = λ n k d z digit. bind_rest (p n (d ∷ z)) (λ x. q x.0 n x.1 >>= λ y. Ok ((x.0, y.0), y.1)) k ∙ o.rest n (λ a s. then_rest (q a n s >>= λ y. Ok ((a, y.0), y.1)) k) d z digit;
    text = λ x r is. subst Ended (sym (append_assoc (t x.0) (u x.0 x.1) r)) (o.text x.0 (u x.0 x.1 ++ r) is.0);
  }
  both_opens false o = tt

  pub both_codec : (b e c d : Bool) → not e || c ≡ true → Codec b e p t P → ((a : A) → P a → Codec c d (q a) (u a) (R a)) → Codec b d (both_at p q) both_text Both
  both_codec b e c d ok first second = record {
    takes = λ n s x is.
        let h = bind_ok (p n s) (λ x. q x.0 n x.1 >>= λ y. Ok ((x.0, y.0), y.1)) x is in
        let i = bind_ok (q h.0.0 n h.0.1) (λ y. Ok ((h.0.0, y.0), y.1)) x h.2 in
        let f = first.takes n s h.0 h.1 in
        let g = (second h.0.0 f.1).takes n h.0.1 i.0 i.1 in
        subst (λ (y : (A × B) × List ℕ). (s ≡ both_text y.0 ++ y.1) × Both y.0) (ok_of ((h.0.0, i.0.0), i.0.1) x i.2)
        (f.0 ∙ ap (λ z. t h.0.0 ++ z) g.0 ∙ sym (append_assoc (t h.0.0) (u h.0.0 i.0.0) i.0.1), (f.1, g.1));
    again = λ n x r is after le.
        let size = length-append (t x.0) (u x.0 x.1) in
        let o = second x.0 is.0 in
        ap (both_at p q n) (append_assoc (t x.0) (u x.0 x.1) r)
        ∙ bind_at (p n (t x.0 ++ (u x.0 x.1 ++ r))) (λ x. q x.0 n x.1 >>= λ y. Ok ((x.0, y.0), y.1)) (x.0, u x.0 x.1 ++ r)
        (first.again n x.0 (u x.0 x.1 ++ r) is.0 (after_of e c x.0 ok o.opens x.1 r is.1) (omega (arith, le, size)))
        ∙ bind_at (q x.0 n (u x.0 x.1 ++ r)) (λ y. Ok ((x.0, y.0), y.1)) (x.1, r) (o.again n x.1 r is.1 after (omega (arith, le, size)));
    enough = λ n m s le lf.
        ap (λ (z : Read A). z >>= λ x. q x.0 n x.1 >>= λ y. Ok ((x.0, y.0), y.1)) (first.enough n m s le lf)
        ∙ bind_same (p m s) (λ x. q x.0 n x.1 >>= λ y. Ok ((x.0, y.0), y.1)) (λ x. q x.0 m x.1 >>= λ y. Ok ((x.0, y.0), y.1))
        (λ x is.
        let f = first.takes m s x is in
        let short : length x.1 ≤ length s = omega (arith, ap length f.0, length-append (t x.0) x.1) in
        ap (λ (z : Read B). z >>= λ y. Ok ((x.0, y.0), y.1)) ((second x.0 f.1).enough n m x.1 (omega (arith, short, le)) (omega (arith, short, lf))));
    goes = λ n k G N.
        let behind : A → Rest Code = λ a s. then_rest (q a n s >>= λ y. Ok ((a, y.0), y.1)) k in
        let same : (a : A) (s : List ℕ) → behind a s ≡ then_rest (q a n s) (λ y. k (a, y)) = λ a s. bind_rest (q a n s) (λ y. Ok ((a, y.0), y.1)) k in
        bind_goes (p n) (λ x. q x.0 n x.1 >>= λ y. Ok ((x.0, y.0), y.1)) k
        (first.goes n behind
        (λ a is. Goes-same (behind a) (λ s. then_rest (q a n s) (λ y. k (a, y))) (same a) ((second a is).goes n (λ y. k (a, y)) (λ y h. G (a, y) (is, h)) (λ y h. N (a, y) (is, h))))
        (λ a is. follow_same e (behind a) (λ s. then_rest (q a n s) (λ y. k (a, y))) (same a) (follow_of e c a ok (second a is).opens n (λ y. k (a, y)))));
    opens = both_opens b first.opens;
  }
