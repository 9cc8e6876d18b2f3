-- Items of a list, of which each says what may come behind it, up to the end of the list.
use Rattle.std.proofs.Common.{◌≡◌, ℕ, zero, suc, ◌+◌, ◌≤◌, ◌<◌, cond, eqb, Bool, true, false, ◌&&◌, List, [], ◌∷◌, ◌++◌, length, Ok, Err, ap, sym, subst, ◌∙◌, refl, arith, ⊎_elim, append_assoc, length-append}
use Rattle.std.proofs.lemmas.Bool.{false≢true, eqb-true}
use Rattle.std.proofs.lemmas.Bool.Decides.{eqb_tells}
use Rattle.machine_table.specs.Codes.{Code}
use Rattle.code_text.specs.Reading.{Read, ◌>>=◌, Reader, is_hex, byte_at, end_at, items_from, items}
use Rattle.code_text.proofs.goes.Common.{same_self}
use Rattle.code_text.proofs.goes.Goes.{Rest, then_rest, Live, StopsAt, Goes, Goes-same, shift, refuse, at_end, bind_rest, NoDigit, byte_goes, byte_rest, true_or_false, both_left, both_right, Ok≢Err}
use Rattle.code_text.proofs.goes.Spelled.{bind_ok, bind_at, byte_takes, Ended}
use Rattle.code_text.proofs.codecs.Codec.{Codec, bind_same, ok_of, bind_goes}
use Rattle.code_text.proofs.forms.Lists.{until}

-- what stands behind an item
data ItemEnd (close : ℕ) (room : Bool) (s : List ℕ) (x : Bool × List ℕ) : Type 0 where
  Last : x.0 ≡ false → s ≡ close ∷ x.1 → ItemEnd close room s x
  Another : x.0 ≡ true → s ≡ 32 ∷ x.1 → room ≡ true → ItemEnd close room s x

module _ (close : ℕ) (room : Bool) where
  abbrev spaced : ℕ → Bool
  spaced c = eqb c 32 && room

  end_closes : (c : ℕ) (s : List ℕ) → eqb c close ≡ true → end_at close room (c ∷ s) ≡ Ok (false, s)
  unfolding end_at
  end_closes c s e = ap (λ (b : Bool). cond b (Ok (false, s)) (cond (spaced c) (Ok (true, s)) (Err (length s + 1)))) e

  end_other : (c : ℕ) (s : List ℕ) → eqb c close ≡ false → end_at close room (c ∷ s) ≡ cond (spaced c) (Ok (true, s)) (Err (length s + 1))
  unfolding end_at
  end_other c s e = ap (λ (b : Bool). cond b (Ok (false, s)) (cond (spaced c) (Ok (true, s)) (Err (length s + 1)))) e

  end_more : (c : ℕ) (s : List ℕ) → eqb c close ≡ false → spaced c ≡ true → end_at close room (c ∷ s) ≡ Ok (true, s)
  end_more c s e f = end_other c s e ∙ ap (λ (b : Bool). cond b (Ok (true, s)) (Err (length s + 1))) f

  end_bad : (c : ℕ) (s : List ℕ) → eqb c close ≡ false → spaced c ≡ false → end_at close room (c ∷ s) ≡ Err (length s + 1)
  end_bad c s e f = end_other c s e ∙ ap (λ (b : Bool). cond b (Ok (true, s)) (Err (length s + 1))) f

  end_none : end_at close room [] ≡ Err 0
  unfolding end_at
  end_none = refl

  end_takes : (s : List ℕ) (x : Bool × List ℕ) → end_at close room s ≡ Ok x → ItemEnd close room s x
  end_takes [] x e = absurd (Ok≢Err x 0 (sym e ∙ end_none))
  end_takes (c ∷ s) x e =
      ⊎_elim
      (λ p.
      let same = ok_of (false, s) x (sym (end_closes c s p.0) ∙ e) in
      Last (sym (ap (λ y. y.0) same)) (ap (λ (b : ℕ). b ∷ s) p.1 ∙ ap (λ r. close ∷ r) (ap (λ y. y.1) same)))
      (λ p.
      ⊎_elim
      (λ q.
      let same = ok_of (true, s) x (sym (end_more c s p.0 q) ∙ e) in
      let byte = eqb-true c 32 (both_left (eqb c 32) room q) in
      Another (sym (ap (λ y. y.0) same)) (ap (λ (b : ℕ). b ∷ s) byte ∙ ap (λ r. 32 ∷ r) (ap (λ y. y.1) same)) (both_right (eqb c 32) room q))
      (λ q. absurd (Ok≢Err x (length s + 1) (sym e ∙ end_bad c s p.0 q)))
      (true_or_false (spaced c)))
      (eqb_tells c close)

  module _ (k : Bool → Rest Code) (E : Goes (k false)) (M : room ≡ true → Goes (k true)) where
    abbrev end_rest : Rest Code
    end_rest s = then_rest (end_at close room s) k

    end_goes : Goes end_rest
    end_goes = record { live = l; stops = at }
      where
        l : Live end_rest
        l = record { text = close ∷ E.live.text; value = E.live.value; is = ap (λ r. then_rest r k) (end_closes close E.live.text (same_self close)) ∙ E.live.is }

        at : (s : List ℕ) → StopsAt end_rest s (end_rest s)
        at [] = at_end end_rest l (ap (λ r. then_rest r k) end_none)
        at (c ∷ s) =
            ⊎_elim
            (λ p. shift end_rest (k false) c (λ z. ap (λ r. then_rest r k) (end_closes c z p.0)) s (E.stops s))
            (λ p.
            ⊎_elim
            (λ q. shift end_rest (k true) c (λ z. ap (λ r. then_rest r k) (end_more c z p.0 q)) s ((M (both_right (eqb c 32) room q)).stops s))
            (λ q. refuse end_rest l c (λ z. ap (λ r. then_rest r k) (end_bad c z p.0 q)) s)
            (true_or_false (spaced c)))
            (eqb_tells c close)

  not_hex : (c d : ℕ) → is_hex c ≡ true → is_hex d ≡ false → eqb c d ≡ false
  not_hex c d hex other = ⊎_elim (λ p. absurd (false≢true (sym other ∙ (ap is_hex (sym p.1) ∙ hex)))) (λ p. p.0) (eqb_tells c d)

  end_no_digit : (k : Bool → Rest Code) → is_hex close ≡ false → NoDigit (λ s. then_rest (end_at close room s) k)
  end_no_digit k other d z digit = ap (λ r. then_rest r k) (end_bad d z (not_hex d close digit other) (ap (λ (b : Bool). b && room) (not_hex d 32 digit refl)))

-- The items of a list: which may come is said by a state.
module _ {S A : Type 0} (close : ℕ) (closes : is_hex close ≡ false) (apart : eqb 32 close ≡ false) (room : S → Bool) (item : S → Reader A) (next : S → A → S) (t : A → List ℕ) (V : S → Type 0) (P : S → A → Type 0) (one : (s : S) → V s → room s ≡ true → Codec false true (item s) t (P s)) (later : (s : S) (a : A) → V s → P s a → V (next s a)) where
  -- items that may stand there
  abbrev pub Each : S → List A → Type 0
  Each s [] = Unit {0}
  Each s (a ∷ as') = (room s ≡ true) × P s a × Each (next s a) as'

  abbrev from : S → ℕ → ℕ → List ℕ → Read (List A)
  from s most n = items_from close room item next s most n

  abbrev behind_end : S → ℕ → ℕ → Bool × List ℕ → Read (List A)
  behind_end s most n x = cond x.0 (item s n x.1 >>= λ y. from (next s y.0) most n y.1 >>= λ ys. Ok (y.0 ∷ ys.0, ys.1)) (Ok ([], x.1))

  from_zero : (s : S) (n : ℕ) (z : List ℕ) → from s zero n z ≡ (byte_at close z >>= λ x. Ok ([], x.1))
  unfolding items_from
  from_zero s n z = refl

  from_suc : (s : S) (most n : ℕ) (z : List ℕ) → from s (suc most) n z ≡ (end_at close (room s) z >>= behind_end s most n)
  unfolding items_from
  from_suc s most n z = refl

  record Taken (s : S) (z : List ℕ) (x : List A × List ℕ) : Type 0 where
    whole : z ≡ until close t x.0 ++ x.1
    each : Each s x.0

  items_go : (s : S) (most n : ℕ) (z : List ℕ) (x : List A × List ℕ) → V s → ((s : S) (z : List ℕ) (x : List A × List ℕ) → V s → from s most n z ≡ Ok x → Taken s z x) → (y : Bool × List ℕ) → ItemEnd close (room s) z y → behind_end s most n y ≡ Ok x → Taken s z x
  items_go s most n z x v before y (Last is byte) f =
      let g = sym (ap (λ (b : Bool). cond b (item s n y.1 >>= λ y. from (next s y.0) most n y.1 >>= λ ys. Ok (y.0 ∷ ys.0, ys.1)) (Ok ([], y.1))) is) ∙ f in
      let here : Taken s z ([], y.1) = record { whole = byte; each = tt } in
      subst (Taken s z) (ok_of _ x g) here
  items_go s most n z x v before y (Another is byte some) f =
      let g = sym (ap (λ (b : Bool). cond b (item s n y.1 >>= λ y. from (next s y.0) most n y.1 >>= λ ys. Ok (y.0 ∷ ys.0, ys.1)) (Ok ([], y.1))) is) ∙ f in
      let i = bind_ok (item s n y.1) (λ y. from (next s y.0) most n y.1 >>= λ ys. Ok (y.0 ∷ ys.0, ys.1)) x g in
      let j = bind_ok (from (next s i.0.0) most n i.0.1) (λ ys. Ok (i.0.0 ∷ ys.0, ys.1)) x i.2 in
      let o = (one s v some).takes n y.1 i.0 i.1 in
      let r = before (next s i.0.0) i.0.1 j.0 (later s i.0.0 v o.1) j.1 in
      let here : Taken s z (i.0.0 ∷ j.0.0, j.0.1) = record {
        whole = byte ∙ ap (λ w. 32 ∷ w) (o.0 ∙ ap (λ w. t i.0.0 ++ w) r.whole ∙ sym (append_assoc (t i.0.0) (until close t j.0.0) j.0.1));
        each = (some, o.1, r.each);
      }
      in
      subst (Taken s z) (ok_of _ x j.2) here

  items_take : (most n : ℕ) (s : S) (z : List ℕ) (x : List A × List ℕ) → V s → from s most n z ≡ Ok x → Taken s z x
  items_take zero n s z x v e =
      let h = bind_ok (byte_at close z) (λ y. Ok ([], y.1)) x (sym (from_zero s n z) ∙ e) in
      let here : Taken s z ([], h.0.1) = record { whole = byte_takes close z h.0 h.1; each = tt } in
      subst (Taken s z) (ok_of _ x h.2) here
  items_take (suc most) n s z x v e =
      let h = bind_ok (end_at close (room s) z) (behind_end s most n) x (sym (from_suc s most n z) ∙ e) in
      items_go s most n z x v (λ s z x v e. items_take most n s z x v e) h.0 (end_takes close (room s) z h.0 h.1) h.2

  after_items : (xs : List A) (r : List ℕ) → Ended (until close t xs ++ r)
  after_items [] r = closes
  after_items (x ∷ xs) r = refl

  items_again : (most n : ℕ) (s : S) (xs : List A) (r : List ℕ) → V s → Each s xs → length (until close t xs) ≤ most → length (until close t xs) ≤ n → from s most n (until close t xs ++ r) ≡ Ok (xs, r)
  items_again zero n s [] r v each le lf = absurd (omega (arith, le))
  items_again zero n s (x ∷ xs) r v each le lf = absurd (omega (arith, le))
  items_again (suc most) n s [] r v each le lf = from_suc s most n (close ∷ r) ∙ bind_at (end_at close (room s) (close ∷ r)) (behind_end s most n) (false, r) (end_closes close (room s) close r (same_self close))
  items_again (suc most) n s (x ∷ xs) r v each le lf =
      let size = length-append (t x) (until close t xs) in
      let rest = until close t xs ++ r in
      ap (λ w. from s (suc most) n (32 ∷ w)) (append_assoc (t x) (until close t xs) r)
      ∙ from_suc s most n (32 ∷ (t x ++ rest))
      ∙ bind_at (end_at close (room s) (32 ∷ (t x ++ rest))) (behind_end s most n) (true, t x ++ rest) (end_more close (room s) 32 (t x ++ rest) apart (ap (λ (b : Bool). eqb 32 32 && b) each.0))
      ∙ bind_at (item s n (t x ++ rest)) (λ y. from (next s y.0) most n y.1 >>= λ ys. Ok (y.0 ∷ ys.0, ys.1)) (x, rest) ((one s v each.0).again n x rest each.1 (after_items xs r) (omega (arith, lf, size)))
      ∙ bind_at (from (next s x) most n rest) (λ ys. Ok (x ∷ ys.0, ys.1)) (xs, r) (items_again most n (next s x) xs r (later s x v each.1) each.2 (omega (arith, le, size)) (omega (arith, lf, size)))

  end_shorter : (room : Bool) (z : List ℕ) (x : Bool × List ℕ) → ItemEnd close room z x → length x.1 < length z
  end_shorter room z x (Last is byte) = omega (arith, ap length byte)
  end_shorter room z x (Another is byte some) = omega (arith, ap length byte)

  -- the same behind an end, where more follow only if they may
  same_behind : (s : S) (most n less m : ℕ) (z : List ℕ) (x : Bool × List ℕ) → ItemEnd close (room s) z x → (room s ≡ true → (item s n x.1 >>= λ y. from (next s y.0) most n y.1 >>= λ ys. Ok (y.0 ∷ ys.0, ys.1)) ≡ (item s m x.1 >>= λ y. from (next s y.0) less m y.1 >>= λ ys. Ok (y.0 ∷ ys.0, ys.1))) → behind_end s most n x ≡ behind_end s less m x
  same_behind s most n less m z x (Last is byte) e =
      ap (λ (b : Bool). cond b (item s n x.1 >>= λ y. from (next s y.0) most n y.1 >>= λ ys. Ok (y.0 ∷ ys.0, ys.1)) (Ok ([], x.1))) is
      ∙ sym (ap (λ (b : Bool). cond b (item s m x.1 >>= λ y. from (next s y.0) less m y.1 >>= λ ys. Ok (y.0 ∷ ys.0, ys.1)) (Ok ([], x.1))) is)
  same_behind s most n less m z x (Another is byte some) e = ap (λ (w : Read (List A)). cond x.0 w (Ok ([], x.1))) (e some)

  none_read : (s : S) (most n : ℕ) → from s most n [] ≡ Err 0
  none_read s zero n = from_zero s n []
  none_read s (suc most) n = from_suc s most n [] ∙ ap (λ (w : Read Bool). w >>= behind_end s most n) (end_none close (room s))

  items_enough : (most n less m : ℕ) (s : S) (z : List ℕ) → V s → length z ≤ most → length z ≤ n → length z ≤ less → length z ≤ m → from s most n z ≡ from s less m z
  items_enough most n less m s [] v a b c d = none_read s most n ∙ sym (none_read s less m)
  items_enough zero n less m s (y ∷ z) v a b c d = absurd (omega (arith, a))
  items_enough (suc most) n zero m s (y ∷ z) v a b c d = absurd (omega (arith, c))
  items_enough (suc most) n (suc less) m s (y ∷ z) v a b c d =
      from_suc s most n (y ∷ z)
      ∙ bind_same (end_at close (room s) (y ∷ z)) (behind_end s most n) (behind_end s less m)
      (λ x e.
      let is = end_takes close (room s) (y ∷ z) x e in
      let short = end_shorter (room s) (y ∷ z) x is in
      same_behind s most n less m (y ∷ z) x is
      (λ some.
      let o = one s v some in
      ap (λ (w : Read A). w >>= λ y. from (next s y.0) most n y.1 >>= λ ys. Ok (y.0 ∷ ys.0, ys.1)) (o.enough n m x.1 (omega (arith, short, b)) (omega (arith, short, d)))
      ∙ bind_same (item s m x.1) (λ y. from (next s y.0) most n y.1 >>= λ ys. Ok (y.0 ∷ ys.0, ys.1)) (λ y. from (next s y.0) less m y.1 >>= λ ys. Ok (y.0 ∷ ys.0, ys.1))
      (λ w f.
      let g = o.takes m x.1 w f in
      let shorter : length w.1 ≤ length x.1 = omega (arith, ap length g.0, length-append (t w.0) w.1) in
      ap (λ (r : Read (List A)). r >>= λ ys. Ok (w.0 ∷ ys.0, ys.1))
      (items_enough most n less m (next s w.0) w.1 (later s w.0 v g.1) (omega (arith, short, shorter, a)) (omega (arith, short, shorter, b)) (omega (arith, short, shorter, c)) (omega (arith, short, shorter, d))))))
      ∙ sym (from_suc s less m (y ∷ z))

  items_goes : (most n : ℕ) (s : S) (k : List A → Rest Code) → V s → ((xs : List A) → Each s xs → Goes (k xs)) → Goes (λ z. then_rest (from s most n z) k) × NoDigit (λ z. then_rest (from s most n z) k)
  items_goes zero n s k v G =
      let done : (z : List ℕ) → then_rest (from s zero n z) k ≡ byte_rest close (k []) z = λ z. ap (λ r. then_rest r k) (from_zero s n z) ∙ bind_rest (byte_at close z) (λ x. Ok ([], x.1)) k in (
        Goes-same (λ z. then_rest (from s zero n z) k) (byte_rest close (k [])) done (byte_goes close (k []) (G [] tt)),
        λ d z digit. done (d ∷ z) ∙ ap (λ (b : Bool). then_rest (cond b (Ok (tt, z)) (Err (length z + 1))) (λ _. k [])) (not_hex close true d close digit closes),
      )
  items_goes (suc most) n s k v G =
      let inner : A × List ℕ → Read (List A) = λ y. from (next s y.0) most n y.1 >>= λ ys. Ok (y.0 ∷ ys.0, ys.1) in
      let more : A → Rest Code = λ a z. then_rest (inner (a, z)) k in
      let same : (a : A) (z : List ℕ) → more a z ≡ then_rest (from (next s a) most n z) (λ ys. k (a ∷ ys)) = λ a z. bind_rest (from (next s a) most n z) (λ ys. Ok (a ∷ ys.0, ys.1)) k in
      let each : (a : A) → room s ≡ true → P s a → Goes (more a) × NoDigit (more a) = λ a some is.
      let r = items_goes most n (next s a) (λ ys. k (a ∷ ys)) (later s a v is) (λ ys e. G (a ∷ ys) (some, is, e)) in
      (Goes-same (more a) (λ z. then_rest (from (next s a) most n z) (λ ys. k (a ∷ ys))) (same a) r.0, λ d z digit. same a (d ∷ z) ∙ r.1 d z digit)
      in
      let behind : Bool → Rest Code = λ b z. then_rest (behind_end s most n (b, z)) k in
      let split : (z : List ℕ) → then_rest (from s (suc most) n z) k ≡ then_rest (end_at close (room s) z) behind = λ z. ap (λ r. then_rest r k) (from_suc s most n z) ∙ bind_rest (end_at close (room s) z) (behind_end s most n) k in
      let M : room s ≡ true → Goes (behind true) = λ some. bind_goes (item s n) inner k ((one s v some).goes n more (λ a is. (each a some is).0) (λ a is. (each a some is).1)) in (
        Goes-same (λ z. then_rest (from s (suc most) n z) k) (λ z. then_rest (end_at close (room s) z) behind) split (end_goes close (room s) behind (G [] tt) M),
        λ d z digit. split (d ∷ z) ∙ end_no_digit close (room s) behind closes d z digit,
      )

  pub items_codec : (s : S) → V s → Codec true false (items close room item next s) (until close t) (Each s)
  items_codec s v = record {
    takes = λ n z x e. let k = items_take n n s z x v e in (k.whole, k.each);
    again = λ n xs r each after le. items_again n n s xs r v each le le;
    enough = λ n m z le lf. items_enough n n m m s z v le le lf lf;
    goes = λ n k G N. (items_goes n n s k v G).0;
    opens = record { rest = λ n k. no_digit n k; text = λ xs r is. after_items xs r };
  }
    where
      no_digit : (n : ℕ) (k : List A → Rest Code) → NoDigit (λ z. then_rest (items close room item next s n z) k)
      no_digit zero k d z digit = ap (λ r. then_rest r k) (from_zero s zero (d ∷ z)) ∙ (bind_rest (byte_at close (d ∷ z)) (λ x. Ok ([], x.1)) k ∙ ap (λ (b : Bool). then_rest (cond b (Ok (tt, z)) (Err (length z + 1))) (λ _. k [])) (not_hex close true d close digit closes))
      no_digit (suc n) k d z digit =
          let behind : Bool → Rest Code = λ b z. then_rest (behind_end s n (suc n) (b, z)) k in
          ap (λ r. then_rest r k) (from_suc s n (suc n) (d ∷ z)) ∙ (bind_rest (end_at close (room s) (d ∷ z)) (behind_end s n (suc n)) k ∙ end_no_digit close (room s) behind closes d z digit)
