-- One of two parts, by the first byte.
use Rattle.std.proofs.Common.{◌≡◌, ◌⊎◌, ℕ, ◌+◌, ◌≤◌, cond, eqb, Bool, true, false, List, [], ◌∷◌, ◌++◌, length, Ok, Err, ap, sym, subst, ◌∙◌, refl, arith, ⊎_elim}
use Rattle.std.proofs.lemmas.Bool.Decides.{eqb_tells}
use Rattle.machine_table.specs.Codes.{Code}
use Rattle.code_text.specs.Reading.{Reader, either_at}
use Rattle.code_text.proofs.goes.Common.{same_self}
use Rattle.code_text.proofs.goes.Goes.{Rest, then_rest, Live, StopsAt, Goes, shift, at_end, pass, Ok≢Err}
use Rattle.code_text.proofs.codecs.Codec.{Codec}

module _ {A : Type 0} (b : ℕ) (p q : Reader A) where
  first_at : (n c : ℕ) (s : List ℕ) → eqb c b ≡ true → either_at b p q n (c ∷ s) ≡ p n s
  unfolding either_at
  first_at n c s e = ap (λ (x : Bool). cond x (p n s) (q n (c ∷ s))) e

  second_at : (n c : ℕ) (s : List ℕ) → eqb c b ≡ false → either_at b p q n (c ∷ s) ≡ q n (c ∷ s)
  unfolding either_at
  second_at n c s e = ap (λ (x : Bool). cond x (p n s) (q n (c ∷ s))) e

  none_at : (n : ℕ) → either_at b p q n [] ≡ Err 0
  unfolding either_at
  none_at n = refl

  module _ (empty : (n : ℕ) → q n [] ≡ Err 0) (other : (n : ℕ) (z : List ℕ) → q n (b ∷ z) ≡ Err (length z + 1)) where
    -- what the second reads is read
    second_reads : (n : ℕ) (s : List ℕ) (x : A × List ℕ) → q n s ≡ Ok x → either_at b p q n s ≡ Ok x
    second_reads n [] x e = absurd (Ok≢Err x 0 (sym e ∙ empty n))
    second_reads n (c ∷ s) x e =
        ⊎_elim
        (λ h. absurd (Ok≢Err x (length s + 1) (sym e ∙ (ap (λ (y : ℕ). q n (y ∷ s)) h.1 ∙ other n s))))
        (λ h. second_at n c s h.0 ∙ e)
        (eqb_tells c b)

    module _ (t u : A → List ℕ) (P R : A → Type 0) (v : A → List ℕ) (V : A → Type 0) (e : Bool) (first : Codec false e p t P) (second : Codec false e q u R) (up : (a : A) → P a → V a × (v a ≡ b ∷ t a)) (also : (a : A) → R a → V a × (v a ≡ u a)) (down : (a : A) → V a → P a ⊎ R a) where
      takes : (n : ℕ) (s : List ℕ) (x : A × List ℕ) → either_at b p q n s ≡ Ok x → (s ≡ v x.0 ++ x.1) × V x.0
      takes n [] x is = absurd (Ok≢Err x 0 (sym is ∙ none_at n))
      takes n (c ∷ s) x is =
          ⊎_elim
          (λ h.
          let f = first.takes n s x (sym (first_at n c s h.0) ∙ is) in
          let d = up x.0 f.1 in
          (ap (λ (y : ℕ). y ∷ s) h.1 ∙ ap (λ z. b ∷ z) f.0 ∙ ap (λ z. z ++ x.1) (sym d.1), d.0))
          (λ h.
          let f = second.takes n (c ∷ s) x (sym (second_at n c s h.0) ∙ is) in
          let d = also x.0 f.1 in
          (f.0 ∙ ap (λ z. z ++ x.1) (sym d.1), d.0))
          (eqb_tells c b)

      abbrev Both : ℕ → List ℕ → Type 0
      Both n s = (m : ℕ) → length s ≤ n → length s ≤ m → either_at b p q n s ≡ either_at b p q m s

      enough : (n : ℕ) (s : List ℕ) → Both n s
      enough n [] m le lf = none_at n ∙ sym (none_at m)
      enough n (c ∷ s) m le lf =
          ⊎_elim
          (λ h. first_at n c s h.0 ∙ first.enough n m s (omega (arith, le)) (omega (arith, lf)) ∙ sym (first_at m c s h.0))
          (λ h. second_at n c s h.0 ∙ second.enough n m (c ∷ s) le lf ∙ sym (second_at m c s h.0))
          (eqb_tells c b)

      up_rest : (n : ℕ) (k : A → Rest Code) (w : List ℕ) (y : Code) → then_rest (q n w) k ≡ Ok y → then_rest (either_at b p q n w) k ≡ Ok y
      up_rest n k [] y is = absurd (Ok≢Err y 0 (sym is ∙ ap (λ r. then_rest r k) (empty n)))
      up_rest n k (c ∷ w) y is =
          ⊎_elim
          (λ h. absurd (Ok≢Err y (length w + 1) (sym is ∙ ap (λ r. then_rest r k) (ap (λ (z : ℕ). q n (z ∷ w)) h.1 ∙ other n w))))
          (λ h. ap (λ r. then_rest r k) (second_at n c w h.0) ∙ is)
          (eqb_tells c b)

      goes : (n : ℕ) (k : A → Rest Code) → Goes (λ s. then_rest (p n s) k) → Goes (λ s. then_rest (q n s) k) → Goes (λ s. then_rest (either_at b p q n s) k)
      goes n k F G = record { live = l; stops = at }
        where
          g : Rest Code
          g s = then_rest (either_at b p q n s) k

          l : Live g
          l = record { text = G.live.text; value = G.live.value; is = up_rest n k G.live.text G.live.value G.live.is }

          at : (s : List ℕ) → StopsAt g s (g s)
          at [] = at_end g l (ap (λ r. then_rest r k) (none_at n))
          at (c ∷ s) =
              ⊎_elim
              (λ h. shift g (λ z. then_rest (p n z) k) c (λ z. ap (λ r. then_rest r k) (first_at n c z h.0)) s (F.stops s))
              (λ h.
              subst (StopsAt g (c ∷ s)) (sym (ap (λ r. then_rest r k) (second_at n c s h.0)))
              (pass g (λ z. then_rest (q n z) k) c s (up_rest n k) (λ z. ap (λ r. then_rest r k) (second_at n c z h.0)) (then_rest (q n (c ∷ s)) k) (G.stops (c ∷ s))))
              (eqb_tells c b)

      pub either_codec : Codec false e (either_at b p q) v V
      either_codec = record {
        takes = takes;
        again = λ n a r is after le.
            ⊎_elim
            (λ h.
            let d = up a h in
            ap (λ z. either_at b p q n (z ++ r)) d.1 ∙ first_at n b (t a ++ r) (same_self b) ∙ first.again n a r h after (omega (arith, le, ap length d.1)))
            (λ h.
            let d = also a h in
            ap (λ z. either_at b p q n (z ++ r)) d.1 ∙ second_reads n (u a ++ r) (a, r) (second.again n a r h after (omega (arith, le, ap length d.1))))
            (down a is);
        enough = λ n m s le lf. enough n s m le lf;
        goes = λ n k G N. goes n k (first.goes n k (λ a is. G a (up a is).0) (λ a is. N a (up a is).0)) (second.goes n k (λ a is. G a (also a is).0) (λ a is. N a (also a is).0));
        opens = tt;
      }
