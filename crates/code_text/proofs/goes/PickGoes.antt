-- Picking a word from a list goes right where no word begins another.
use Rattle.std.proofs.Common.{◌≡◌, ◌⊎◌, ℕ, zero, suc, ◌+◌, ◌-◌, ◌<◌, ◌≤◌, max, cond, Bool, true, ◌&&◌, List, [], ◌∷◌, ◌++◌, length, take, drop, Result, Ok, Err, ap, sym, subst, ◌∙◌, refl, arith, inl, inr, ⊎_elim, eq-eqb, nat_lt, length-append, length-drop, append_assoc, take-append-drop}
use Rattle.std.proofs.Math.Seq.{take-length}
use Rattle.std.proofs.lemmas.List.{length-take}
use Rattle.std.proofs.lemmas.Bool.{ne_eqb, ltb-true, cases_lt}
use Rattle.std.proofs.lemmas.Bool.Decides.{eqb_tells}
use Rattle.code_text.specs.Reading.{Read, common, pick_from, pick_at}
use Rattle.code_text.proofs.goes.Common.{common-self, take-common, common-le, common-again, common-into}
use Rattle.code_text.proofs.goes.Goes.{Rest, then_rest, Live, Stops, StopsAt, Goes, shift, both_left, both_right, Ok≢Err}

-- neither word begins the other
abbrev pub apart : List ℕ → List ℕ → Bool
apart v w = nat_lt (common v w) (length v) && nat_lt (common v w) (length w)

abbrev pub all_apart : List ℕ → List (List ℕ) → Bool
all_apart v [] = true
all_apart v (w ∷ ws) = apart v w && all_apart v ws

-- no word begins another
abbrev pub is_free : List (List ℕ) → Bool
is_free [] = true
is_free (v ∷ ws) = all_apart v ws && is_free ws

-- w is the word with this number
abbrev pub At : List (List ℕ) → ℕ → List ℕ → Type 0
At [] j w = ⊥
At (v ∷ ws) zero w = v ≡ w
At (v ∷ ws) (suc j) w = At ws j w

pub found_first : (i best : ℕ) (w : List ℕ) (ws : List (List ℕ)) (s : List ℕ) → common w s ≡ length w → pick_from i best (w ∷ ws) s ≡ Ok (i, drop (length w) s)
unfolding pick_from
found_first i best w ws s e = ap (λ (b : Bool). cond b (Ok (i, drop (length w) s)) (pick_from (i + 1) (max best (common w s)) ws s)) (eq-eqb (common w s) (length w) e)

pub not_first : (i best : ℕ) (w : List ℕ) (ws : List (List ℕ)) (s : List ℕ) → (common w s ≡ length w → ⊥) → pick_from i best (w ∷ ws) s ≡ pick_from (i + 1) (max best (common w s)) ws s
unfolding pick_from
not_first i best w ws s e = ap (λ (b : Bool). cond b (Ok (i, drop (length w) s)) (pick_from (i + 1) (max best (common w s)) ws s)) (ne_eqb (common w s) (length w) e)

all_apart_at : (v : List ℕ) (ws : List (List ℕ)) (j : ℕ) (w : List ℕ) → all_apart v ws ≡ true → At ws j w → apart v w ≡ true
all_apart_at v [] j w e at = absurd at
all_apart_at v (u ∷ ws) zero w e at = ap (apart v) (sym at) ∙ both_left (apart v u) (all_apart v ws) e
all_apart_at v (u ∷ ws) (suc j) w e at = all_apart_at v ws j w (both_right (apart v u) (all_apart v ws) e) at

drop_front : (w z : List ℕ) → drop (length w) (w ++ z) ≡ z
drop_front [] z = refl
drop_front (b ∷ w) z = drop_front w z

-- what begins with a word gives its number
pub pick_again : (ws : List (List ℕ)) (i best j : ℕ) (w z : List ℕ) → is_free ws ≡ true → At ws j w → pick_from i best ws (w ++ z) ≡ Ok (i + j, z)
pick_again [] i best j w z free at = absurd at
pick_again (v ∷ ws) i best zero w z free at =
    let e = found_first i best w ws (w ++ z) (common-self w z) in
    ap (λ x. pick_from i best (x ∷ ws) (w ++ z)) at
    ∙ e
    ∙ ap (λ x. Ok (i, x)) (drop_front w z)
    ∙ ap (λ n. Ok (n, z)) (omega arith)
pick_again (v ∷ ws) i best (suc j) w z free at =
    let a = all_apart_at v ws j w (both_left (all_apart v ws) (is_free ws) free) at in
    let own : common v w < length v = ltb-true (common v w) (length v) (both_left (nat_lt (common v w) (length v)) (nat_lt (common v w) (length w)) a) in
    let other : common v w < length w = ltb-true (common v w) (length w) (both_right (nat_lt (common v w) (length v)) (nat_lt (common v w) (length w)) a) in
    let same = common-into v w z other in
    not_first i best v ws (w ++ z) (λ e. omega arith)
    ∙ pick_again ws (i + 1) (max best (common v (w ++ z))) j w z (both_right (all_apart v ws) (is_free ws) free) at
    ∙ ap (λ n. Ok (n, z)) (omega arith)

-- each word differs from s at m or before
abbrev pub Differ : List (List ℕ) → List ℕ → ℕ → Type 0
Differ [] s m = Unit {0}
Differ (w ∷ ws) s m = (common w s ≤ m) × (common w s ≡ length w → ⊥) × Differ ws s m

-- some word has this much in common with s
pub record Reaches (ws : List (List ℕ)) (s : List ℕ) (m : ℕ) : Type 0 where
  pub number : ℕ
  pub word : List ℕ
  pub at : At ws number word
  pub same : common word s ≡ m

-- where picking stops
pub record Picks (best : ℕ) (ws : List (List ℕ)) (s : List ℕ) (n : ℕ) : Type 0 where
  pub most : ℕ
  pub above : best ≤ most
  pub left : n ≡ length s - most
  pub differ : Differ ws s most
  pub reached : (best ≡ most) ⊎ Reaches ws s most

reaches_more : (v : List ℕ) (ws : List (List ℕ)) (s : List ℕ) (m : ℕ) → Reaches ws s m → Reaches (v ∷ ws) s m
reaches_more v ws s m r = record { number = suc r.number; word = r.word; at = r.at; same = r.same }

reached_more : (best : ℕ) (v : List ℕ) (ws : List (List ℕ)) (s : List ℕ) (m : ℕ) → (max best (common v s) ≡ m) ⊎ Reaches ws s m → (best ≡ m) ⊎ Reaches (v ∷ ws) s m
reached_more best v ws s m (inl e) =
    ⊎_elim (λ (le : common v s ≤ best). inl (omega arith)) (λ (lt : best < common v s). inr (record { number = 0; word = v; at = refl; same = omega arith })) (le_or_lt (common v s) best)
  where
    le_or_lt : (a b : ℕ) → (a ≤ b) ⊎ (b < a)
    le_or_lt a b = ⊎_elim (λ (lt : b < a). inr lt) (λ (le : a ≤ b). inl le) (cases_lt b a)
reached_more best v ws s m (inr r) = inr (reaches_more v ws s m r)

pub pick_stops : (ws : List (List ℕ)) (i best : ℕ) (s : List ℕ) (n : ℕ) → pick_from i best ws s ≡ Err n → Picks best ws s n
unfolding pick_from
pick_stops [] i best s n e = record { most = best; above = omega arith; left = cc; differ = tt; reached = inl refl }
pick_stops (w ∷ ws) i best s n e =
    ⊎_elim
    (λ p. absurd (Ok≢Err (i, drop (length w) s) n (sym (found_first i best w ws s p.1) ∙ e)))
    (λ p.
    let k = pick_stops ws (i + 1) (max best (common w s)) s n (sym (not_first i best w ws s p.1) ∙ e) in
    record {
      most = k.most;
      above = omega (arith, k.above);
      left = k.left;
      differ = (omega (arith, k.above), p.1, k.differ);
      reached = reached_more best w ws s k.most k.reached;
    })
    (eqb_tells (common w s) (length w))

-- picking stops there
pub pick_refuses : (ws : List (List ℕ)) (i best : ℕ) (s : List ℕ) (m : ℕ) → best ≤ m → Differ ws s m → (best ≡ m) ⊎ Reaches ws s m → pick_from i best ws s ≡ Err (length s - m)
unfolding pick_from
pick_refuses [] i best s m le d (inl e) = ap (λ x. Err (length s - x)) e
pick_refuses [] i best s m le d (inr r) = absurd r.at
pick_refuses (w ∷ ws) i best s m le d reached =
    not_first i best w ws s d.1 ∙ pick_refuses ws (i + 1) (max best (common w s)) s m (omega (arith, d.0)) d.2 (go reached)
  where
    first_or_later : (j : ℕ) (v : List ℕ) → At (w ∷ ws) j v → common v s ≡ m → (max best (common w s) ≡ m) ⊎ Reaches ws s m
    first_or_later zero v at same = inl (let e : common w s ≡ m = ap (λ x. common x s) at ∙ same in omega arith)
    first_or_later (suc j) v at same = inr (record { number = j; word = v; at = at; same = same })

    go : (best ≡ m) ⊎ Reaches (w ∷ ws) s m → (max best (common w s) ≡ m) ⊎ Reaches ws s m
    go (inl e) = inl (omega (arith, d.0))
    go (inr r) = first_or_later r.number r.word r.at r.same

-- a word that was found
pub record Finds (i : ℕ) (ws : List (List ℕ)) (s : List ℕ) (n : ℕ) (r : List ℕ) : Type 0 where
  pub number : ℕ
  pub word : List ℕ
  pub at : At ws number word
  pub same : n ≡ i + number
  pub whole : s ≡ word ++ r

found_in : (x y : ℕ × List ℕ) (r : Result (ℕ × List ℕ) ℕ) → r ≡ Ok x → r ≡ Ok y → x ≡ y
found_in x y r e f = cc

in_front : (w s : List ℕ) → common w s ≡ length w → s ≡ w ++ drop (length w) s
in_front w s e =
    let t = take-common w s in
    let f : take (length w) s ≡ w = sym (subst (λ (n : ℕ). take n w ≡ take n s) e t) ∙ take-length w in
    sym (take-append-drop (length w) s) ∙ ap (λ x. x ++ drop (length w) s) f

pub pick_finds : (ws : List (List ℕ)) (i best : ℕ) (s : List ℕ) (n : ℕ) (r : List ℕ) → pick_from i best ws s ≡ Ok (n, r) → Finds i ws s n r
unfolding pick_from
pick_finds [] i best s n r e = cc
pick_finds (w ∷ ws) i best s n r e =
    ⊎_elim
    (λ p.
    let f = found_in (i, drop (length w) s) (n, r) (pick_from i best (w ∷ ws) s) (found_first i best w ws s p.1) e in
    let number : i ≡ n = ap (λ x. x.0) f in
    let rest : drop (length w) s ≡ r = ap (λ x. x.1) f in
    record { number = 0; word = w; at = refl; same = omega arith; whole = in_front w s p.1 ∙ ap (λ x. w ++ x) rest })
    (λ p.
    let k = pick_finds ws (i + 1) (max best (common w s)) s n r (sym (not_first i best w ws s p.1) ∙ e) in
    record { number = suc k.number; word = k.word; at = k.at; same = omega (arith, k.same); whole = k.whole })
    (eqb_tells (common w s) (length w))

differ_again : (ws : List (List ℕ)) (x : List ℕ) (b : ℕ) (t u : List ℕ) (m : ℕ) → m ≡ length x → Differ ws (x ++ b ∷ t) m → Differ ws (x ++ b ∷ u) m
differ_again [] x b t u m len d = tt
differ_again (w ∷ ws) x b t u m len d =
    let same = common-again w x b t u (omega (arith, d.0)) in
    (omega (arith, d.0), (λ e. d.1 (sym same ∙ e)), differ_again ws x b t u m len d.2)

reached_again : (ws : List (List ℕ)) (x : List ℕ) (b : ℕ) (t u : List ℕ) (m : ℕ) → m ≡ length x → (0 ≡ m) ⊎ Reaches ws (x ++ b ∷ t) m → (0 ≡ m) ⊎ Reaches ws (x ++ b ∷ u) m
reached_again ws x b t u m len (inl e) = inl e
reached_again ws x b t u m len (inr r) =
    inr (record { number = r.number; word = r.word; at = r.at; same = common-again r.word x b t u (omega (arith, r.same)) ∙ r.same })

-- some word goes on from the first m bytes of s
record GoesOn (ws : List (List ℕ)) (s : List ℕ) (m : ℕ) : Type 0 where
  number : ℕ
  word : List ℕ
  at : At ws number word
  same : take m word ≡ take m s
  within : m ≤ length s

goes_on : (ws : List (List ℕ)) (first s : List ℕ) (m : ℕ) → At ws 0 first → (0 ≡ m) ⊎ Reaches ws s m → GoesOn ws s m
goes_on ws first s m at (inl e) = record { number = 0; word = first; at = at; same = subst (λ (n : ℕ). take n first ≡ take n s) e refl; within = omega arith }
goes_on ws first s m at (inr r) = record { number = r.number; word = r.word; at = r.at; same = subst (λ (n : ℕ). take n r.word ≡ take n s) r.same (take-common r.word s); within = omega (arith, r.same, common-le r.word s) }

module _ {C : Type 0} where
  -- a word that is read
  pub shift_word : (w : List ℕ) (g h : Rest C) → ((z : List ℕ) → g (w ++ z) ≡ h z) → (r : List ℕ) → StopsAt h r (h r) → StopsAt g (w ++ r) (g (w ++ r))
  shift_word [] g h e r k = let p : h ≡ g = λ i z. sym (e z) i in subst (λ (f : Rest C). StopsAt f r (f r)) p k
  shift_word (b ∷ w) g h e r k = shift g (λ z. g (b ∷ z)) b (λ z. refl) (w ++ r) (shift_word w (λ z. g (b ∷ z)) h e r k)

  module _ (ws : List (List ℕ)) (k : ℕ → Rest C) (first : List ℕ) (at : At ws 0 first) (free : is_free ws ≡ true) (G : (j : ℕ) (w : List ℕ) → At ws j w → Goes (k j)) where
    abbrev pub pick_rest : Rest C
    pick_rest s = then_rest (pick_at ws s) k

    again : (j : ℕ) (w z : List ℕ) → At ws j w → pick_rest (w ++ z) ≡ k j z
    again j w z at = ap (λ r. then_rest r k) (pick_again ws 0 0 j w z free at) ∙ ap (λ n. k n z) (omega arith)

    live : Live pick_rest
    live = let l = (G 0 first at).live in record { text = first ++ l.text; value = l.value; is = again 0 first l.text at ∙ l.is }

    joined : (m : ℕ) (w s t : List ℕ) → take m w ≡ take m s → take m s ++ (drop m w ++ t) ≡ w ++ t
    joined m w s t same = ap (λ x. x ++ (drop m w ++ t)) (sym same) ∙ sym (append_assoc (take m w) (drop m w) t) ∙ ap (λ x. x ++ t) (take-append-drop m w)

    at_stop : (s : List ℕ) (n : ℕ) → Picks 0 ws s n → Stops pick_rest s n
    at_stop s n p =
        let m = p.most in
        let o = goes_on ws first s m at p.reached in
        let l = (G o.number o.word o.at).live in
        let len : m ≡ length (take m s) = omega (arith, length-take m s, o.within) in
        record {
          front = take m s;
          back = drop m s;
          whole = sym (take-append-drop m s);
          left = omega (arith, p.left, length-drop m s);
          more = drop m o.word ++ l.text;
          value = l.value;
          goes = ap pick_rest (joined m o.word s l.text o.same) ∙ again o.number o.word l.text o.at ∙ l.is;
          ends = λ b t u is.
              let whole : s ≡ take m s ++ b ∷ t = sym (take-append-drop m s) ∙ ap (λ x. take m s ++ x) is in
              let d = differ_again ws (take m s) b t u m len (subst (λ (x : List ℕ). Differ ws x m) whole p.differ) in
              let r = reached_again ws (take m s) b t u m len (subst (λ (x : List ℕ). (0 ≡ m) ⊎ Reaches ws x m) whole p.reached) in
              ap (λ x. then_rest x k) (pick_refuses ws 0 0 (take m s ++ b ∷ u) m (omega arith) d r)
              ∙ ap (λ n. Err n) (omega (arith, length-append (take m s) (b ∷ u)));
        }

    at_word : (s r : List ℕ) (n : ℕ) → Finds 0 ws s n r → StopsAt pick_rest s (k n r)
    at_word s r n f =
        let same : n ≡ f.number = omega (arith, f.same) in
        let here = shift_word f.word pick_rest (k f.number) (λ z. again f.number f.word z f.at) r ((G f.number f.word f.at).stops r) in
        let there = subst (λ (x : Result C ℕ). StopsAt pick_rest (f.word ++ r) x) (again f.number f.word r f.at) here in
        subst (λ (x : List ℕ). StopsAt pick_rest x (k n r)) (sym f.whole) (subst (λ (j : ℕ). StopsAt pick_rest (f.word ++ r) (k j r)) (sym same) there)

    cases : (s : List ℕ) (x : Read ℕ) → pick_at ws s ≡ x → StopsAt pick_rest s (then_rest x k)
    cases s (Ok y) e = at_word s y.1 y.0 (pick_finds ws 0 0 s y.0 y.1 e)
    cases s (Err n) e = at_stop s n (pick_stops ws 0 0 s n e)

    pub pick_goes : Goes pick_rest
    pick_goes = record { live = live; stops = λ s. cases s (pick_at ws s) refl }
