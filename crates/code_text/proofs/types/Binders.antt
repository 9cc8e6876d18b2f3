-- Variables by the names of their binders, read and spelled.
use Rattle.std.proofs.Common.{◌≡◌, ◌⊎◌, inl, inr, ℕ, suc, ◌+◌, ◌-◌, ◌%◌, ◌^◌, ◌≤◌, ◌<◌, cond, eqb, Bool, true, false, ◌&&◌, List, [], ◌∷◌, ◌++◌, length, take, drop, Result, Ok, Err, ap, sym, subst, ◌∙◌, refl, arith, ⊎_elim, Option, Some, None, length-append, length-drop, append_assoc, take-append-drop, eq-eqb}
use Rattle.std.specs.Fmt.{decimal}
use Rattle.std.proofs.Math.Seq.{take-length}
use Rattle.std.proofs.lemmas.Bool.{false≢true, eqb-true, cases_lt}
use Rattle.std.proofs.lemmas.Bool.Decides.{eqb_tells}
use Rattle.std.proofs.lemmas.Fmt.{decimal_by_steps, decimal_injective}
use Rattle.std.proofs.lemmas.List.{length-take}
use Rattle.machine_table.specs.Codes.{Code}
use Rattle.code_text.specs.Reading.{Read, is_digit, is_hex, common, plainly}
use Rattle.code_text.specs.IndexReading.{furthest, spelled_by, spelled_at, among_at}
use Rattle.code_text.proofs.goes.Common.{common-self, take-common, common-le, common-again, same_first, other_first}
use Rattle.code_text.proofs.goes.Goes.{Rest, then_rest, Live, Stops, StopsAt, Goes, NoDigit, digit_hex, true_or_false, both_left, both_right, Ok≢Err}
use Rattle.code_text.proofs.goes.Spelled.{digit_is, Ended}
use Rattle.code_text.proofs.codecs.Codec.{Codec, ok_of}

-- one of these variables
abbrev pub Among : List ℕ → ℕ → Type 0
Among [] k = ⊥
Among (j ∷ js) k = (j ≡ k) ⊎ Among js k

-- ---- the texts of variables

-- all bytes are digits
Digits : List ℕ → Type 0
Digits [] = Unit {0}
Digits (c ∷ cs) = (is_digit c ≡ true) × Digits cs

digits_snoc : (cs : List ℕ) (c : ℕ) → Digits cs → is_digit c ≡ true → Digits (cs ++ c ∷ [])
unfolding Digits
digits_snoc [] c all is = (is, tt)
digits_snoc (d ∷ cs) c all is = (all.0, digits_snoc cs c all.1 is)

decimal_digits : (n : ℕ) → n < 2 ^ 64 → Digits (decimal n)
unfolding Digits
decimal_digits n small = decimal_by_steps (λ n ds. Digits ds) (λ n l. (digit_is (48 + n) (omega arith) (omega arith), tt)) (λ n ds big all. digits_snoc ds (48 + n % 10) all (digit_is (48 + n % 10) (omega arith) (omega arith))) n small

-- digits end where no digit comes
common_ended : (v w r : List ℕ) → Digits v → Ended r → common v (w ++ r) ≤ length w
unfolding Digits common
common_ended [] w r all e = omega arith
common_ended (b ∷ v) [] [] all e = omega arith
common_ended (b ∷ v) [] (c ∷ r) all e =
    ⊎_elim
    (λ p. absurd (false≢true (sym e ∙ (ap is_hex p.1 ∙ digit_hex b all.0))))
    (λ p. omega (arith, other_first c b v r p.0))
    (eqb_tells c b)
common_ended (b ∷ v) (c ∷ w) r all e =
    ⊎_elim
    (λ p. omega (arith, same_first c b v (w ++ r) p.0, common_ended v w r all.1 e))
    (λ p. omega (arith, other_first c b v (w ++ r) p.0))
    (eqb_tells c b)

module _ (n : ℕ) (few : n ≤ 2 ^ 32) where
  abbrev pub name_of : ℕ → List ℕ
  name_of k = decimal (n - suc k)

  name_digits : (k : ℕ) → Digits (name_of k)
  name_digits k = decimal_digits (n - suc k) (omega (arith, few))

  -- variables that are bound
  abbrev AllBound : List ℕ → Type 0
  AllBound [] = Unit {0}
  AllBound (k ∷ ks) = (k < n) × AllBound ks

  bound_among : (ks : List ℕ) (k : ℕ) → AllBound ks → Among ks k → k < n
  bound_among [] k all is = absurd is
  bound_among (j ∷ js) k all (inl e) = subst (λ (i : ℕ). i < n) e all.0
  bound_among (j ∷ js) k all (inr is) = bound_among js k all.1 is

  names_differ : (j k : ℕ) → j < n → k < n → name_of j ≡ name_of k → j ≡ k
  names_differ j k lj lk e =
      let same : n - suc j ≡ n - suc k = decimal_injective (n - suc j) (n - suc k) (omega (arith, few)) (omega (arith, few)) e in
      omega (arith, same, lj, lk)

  -- ---- how far the names go

  furthest_ended : (ks : List ℕ) (w r : List ℕ) → Ended r → furthest n ks (w ++ r) ≤ length w
  furthest_ended [] w r e = omega arith
  furthest_ended (k ∷ ks) w r e = omega (arith, common_ended (name_of k) w r (name_digits k) e, furthest_ended ks w r e)

  furthest_own : (ks : List ℕ) (k : ℕ) (r : List ℕ) → Among ks k → length (name_of k) ≤ furthest n ks (name_of k ++ r)
  furthest_own [] k r is = absurd is
  furthest_own (j ∷ js) k r (inl e) =
      let own : common (name_of j) (name_of k ++ r) ≡ length (name_of k) = ap (λ (i : ℕ). common (name_of i) (name_of k ++ r)) e ∙ common-self (name_of k) r in
      omega (arith, own)
  furthest_own (j ∷ js) k r (inr is) = omega (arith, furthest_own js k r is)

  furthest_within : (ks : List ℕ) (s : List ℕ) → furthest n ks s ≤ length s
  furthest_within [] s = omega arith
  furthest_within (k ∷ ks) s = omega (arith, common-le (name_of k) s, furthest_within ks s)

  abbrev is_spelled : ℕ → ℕ → List ℕ → Bool
  is_spelled m k s = eqb (length (name_of k)) m && eqb (common (name_of k) s) m

  spelled_first : (m k : ℕ) (ks : List ℕ) (s : List ℕ) → is_spelled m k s ≡ true → spelled_by m n (k ∷ ks) s ≡ Some k
  spelled_first m k ks s e = ap (λ (b : Bool). cond b (Some k) (spelled_by m n ks s)) e

  spelled_later : (m k : ℕ) (ks : List ℕ) (s : List ℕ) → is_spelled m k s ≡ false → spelled_by m n (k ∷ ks) s ≡ spelled_by m n ks s
  spelled_later m k ks s e = ap (λ (b : Bool). cond b (Some k) (spelled_by m n ks s)) e

  record Spells (ks : List ℕ) (m : ℕ) (s : List ℕ) (k : ℕ) : Type 0 where
    among : Among ks k
    size : length (name_of k) ≡ m
    same : common (name_of k) s ≡ m

  one_some : (j k : ℕ) → Some j ≡ Some k → j ≡ k
  one_some j k e = cc

  none_some : (k : ℕ) (o : Option ℕ) → o ≡ None → o ≡ Some k → ⊥
  none_some k o e f = cc

  spelled_is : (ks : List ℕ) (m : ℕ) (s : List ℕ) (k : ℕ) → spelled_by m n ks s ≡ Some k → Spells ks m s k
  spelled_is [] m s k e = absurd (none_some k (spelled_by m n [] s) refl e)
  spelled_is (j ∷ js) m s k e =
      ⊎_elim
      (λ t.
      let same = one_some j k (sym (spelled_first m j js s t) ∙ e) in
      subst (Spells (j ∷ js) m s) same (record { among = inl refl; size = eqb-true (length (name_of j)) m (both_left (eqb (length (name_of j)) m) _ t); same = eqb-true (common (name_of j) s) m (both_right (eqb (length (name_of j)) m) _ t) }))
      (λ f. let r = spelled_is js m s k (sym (spelled_later m j js s f) ∙ e) in record { among = inr r.among; size = r.size; same = r.same })
      (true_or_false (is_spelled m j s))

  both_hold : (a b : Bool) → a ≡ true → b ≡ true → (a && b) ≡ true
  both_hold a b e f = ap (λ (x : Bool). x && b) e ∙ f

  -- a name that is spelled is found
  spelled_found : (ks : List ℕ) (m : ℕ) (s : List ℕ) (k : ℕ) → Among ks k → length (name_of k) ≡ m → common (name_of k) s ≡ m → (j : ℕ) × (spelled_by m n ks s ≡ Some j)
  spelled_found [] m s k is size same = absurd is
  spelled_found (i ∷ js) m s k is size same =
      ⊎_elim
      (λ t. (i, spelled_first m i js s t))
      (λ f. let r = later is f (λ h. spelled_found js m s k h size same) in (r.0, spelled_later m i js s f ∙ r.1))
      (true_or_false (is_spelled m i s))
    where
      later : Among (i ∷ js) k → is_spelled m i s ≡ false → (Among js k → (j : ℕ) × (spelled_by m n js s ≡ Some j)) → (j : ℕ) × (spelled_by m n js s ≡ Some j)
      later (inl e) f found = absurd (false≢true (sym f ∙ (ap (λ (x : ℕ). is_spelled m x s) e ∙ both_hold (eqb (length (name_of k)) m) (eqb (common (name_of k) s) m) (eq-eqb (length (name_of k)) m size) (eq-eqb (common (name_of k) s) m same))))
      later (inr is) f found = found is

  in_front : (w s : List ℕ) → common w s ≡ length w → s ≡ w ++ drop (length w) s
  in_front w s e =
      let t = take-common w s in
      let f : take (length w) s ≡ w = sym (subst (λ (n : ℕ). take n w ≡ take n s) e t) ∙ take-length w in
      sym (take-append-drop (length w) s) ∙ ap (λ x. x ++ drop (length w) s) f

  -- the text begins with the name
  begins : (ks : List ℕ) (m : ℕ) (s : List ℕ) (k : ℕ) → Spells ks m s k → s ≡ name_of k ++ drop m s
  begins ks m s k is = in_front (name_of k) s (is.same ∙ sym is.size) ∙ ap (λ (i : ℕ). name_of k ++ drop i s) is.size

  same_names : (v w r : List ℕ) → common v (w ++ r) ≡ length w → length v ≡ length w → v ≡ w
  same_names v w r e len =
      let t = take-common v (w ++ r) in
      let front : take (length w) v ≡ take (length w) (w ++ r) = subst (λ (n : ℕ). take n v ≡ take n (w ++ r)) e t in
      sym (take-length v) ∙ ap (λ (n : ℕ). take n v) len ∙ front ∙ take_front w r
    where
      take_front : (w r : List ℕ) → take (length w) (w ++ r) ≡ w
      take_front [] r = refl
      take_front (c ∷ w) r = ap (λ x. c ∷ x) (take_front w r)

  drop_front : (w r : List ℕ) → drop (length w) (w ++ r) ≡ r
  drop_front [] r = refl
  drop_front (c ∷ w) r = drop_front w r

  module _ (ks : List ℕ) (bound : AllBound ks) where
    abbrev reads : List ℕ → Read ℕ
    reads s = among_at n ks s

    -- a name behind which no digit comes is read
    again : (k : ℕ) (r : List ℕ) → Among ks k → Ended r → reads (name_of k ++ r) ≡ Ok (k, r)
    again k r is e =
        let s = name_of k ++ r in
        let m : furthest n ks s ≡ length (name_of k) = omega (arith, furthest_ended ks (name_of k) r e, furthest_own ks k r is) in
        let f = spelled_found ks (length (name_of k)) s k is refl (common-self (name_of k) r) in
        let h = spelled_is ks (length (name_of k)) s f.0 f.1 in
        let same : f.0 ≡ k = names_differ f.0 k (bound_among ks f.0 bound h.among) (bound_among ks k bound is) (same_names (name_of f.0) (name_of k) r h.same h.size) in
        ap (λ (i : ℕ). spelled_at i (spelled_by i n ks s) s) m
        ∙ ap (λ o. spelled_at (length (name_of k)) o s) f.1
        ∙ ap (λ (j : ℕ). Ok (j, drop (length (name_of k)) s)) same
        ∙ ap (λ t. Ok (k, t)) (drop_front (name_of k) r)

    read_of : (s : List ℕ) (o : Option ℕ) (x : ℕ × List ℕ) → spelled_by (furthest n ks s) n ks s ≡ o → spelled_at (furthest n ks s) o s ≡ Ok x → (s ≡ name_of x.0 ++ x.1) × Among ks x.0
    read_of s None x e f = absurd (Ok≢Err x (length s - furthest n ks s) (sym f))
    read_of s (Some k) x e f =
        let h = spelled_is ks (furthest n ks s) s k e in
        subst (λ (y : ℕ × List ℕ). (s ≡ name_of y.0 ++ y.1) × Among ks y.0) (ok_of (k, drop (furthest n ks s) s) x f) (begins ks (furthest n ks s) s k h, h.among)

    -- ---- reading goes right

    -- behind the place where the names end it doesn't matter what comes
    further : (js : List ℕ) (x : List ℕ) (b : ℕ) (t u : List ℕ) → furthest n js (x ++ b ∷ t) ≤ length x → furthest n js (x ++ b ∷ u) ≡ furthest n js (x ++ b ∷ t)
    further [] x b t u le = refl
    further (j ∷ js) x b t u le =
        let one = common-again (name_of j) x b t u (omega (arith, le)) in
        let others = further js x b t u (omega (arith, le)) in
        omega (arith, one, others)

    spelled_same : (js : List ℕ) (m : ℕ) (x : List ℕ) (b : ℕ) (t u : List ℕ) → furthest n js (x ++ b ∷ t) ≤ length x → spelled_by m n js (x ++ b ∷ u) ≡ spelled_by m n js (x ++ b ∷ t)
    spelled_same [] m x b t u le = refl
    spelled_same (j ∷ js) m x b t u le =
        let one = common-again (name_of j) x b t u (omega (arith, le)) in
        let others = spelled_same js m x b t u (omega (arith, le)) in
        ap (λ (c : ℕ). cond (eqb (length (name_of j)) m && eqb c m) (Some j) (spelled_by m n js (x ++ b ∷ u))) one
        ∙ ap (λ o. cond (is_spelled m j (x ++ b ∷ t)) (Some j) o) others

    -- some name that reaches as far as all
    record Reaches (js : List ℕ) (s : List ℕ) : Type 0 where
      variable : ℕ
      among : Among js variable
      same : common (name_of variable) s ≡ furthest n js s

    reaches : (js : List ℕ) (j : ℕ) (s : List ℕ) → Reaches (j ∷ js) s
    reaches [] j s = record { variable = j; among = inl refl; same = omega arith }
    reaches (i ∷ js) j s =
        let r = reaches js i s in
        ⊎_elim
        (λ (lt : common (name_of j) s < furthest n (i ∷ js) s). record { variable = r.variable; among = inr r.among; same = r.same ∙ omega arith })
        (λ (le : furthest n (i ∷ js) s ≤ common (name_of j) s). record { variable = j; among = inl refl; same = omega arith })
        (cases_lt (common (name_of j) s) (furthest n (i ∷ js) s))

    module _ (k : ℕ → Rest Code) (G : (j : ℕ) → Among ks j → Goes (k j)) (N : (j : ℕ) → Among ks j → NoDigit (k j)) (some : (s : List ℕ) → Reaches ks s) where
      abbrev g : Rest Code
      g s = then_rest (reads s) k

      -- what is read behind a name
      up : (j : ℕ) → Among ks j → (z : List ℕ) (v : Code) → k j z ≡ Ok v → g (name_of j ++ z) ≡ Ok v
      up j is [] v e = ap (λ r. then_rest r k) (again j [] is tt) ∙ e
      up j is (c ∷ z) v e =
          ⊎_elim
          (λ t. absurd (Ok≢Err v (length z + 1) (sym e ∙ N j is c z t)))
          (λ f. ap (λ r. then_rest r k) (again j (c ∷ z) is f) ∙ e)
          (true_or_false (is_hex c))

      live : Live g
      live =
          let r = some [] in
          let l = (G r.variable r.among).live in
          record { text = name_of r.variable ++ l.text; value = l.value; is = up r.variable r.among l.text l.value l.is }

      -- a stop behind a name
      behind : (s : List ℕ) (j : ℕ) (m : ℕ) → m ≡ furthest n ks s → spelled_by m n ks s ≡ Some j → (r : Result Code ℕ) → StopsAt (k j) (drop m s) r → StopsAt g s r
      behind s j m is e (Ok v) st = tt
      behind s j m is e (Err left) st =
          let h = spelled_is ks m s j e in
          let whole = begins ks m s j h in
          record {
            front = name_of j ++ st.front;
            back = st.back;
            whole = whole ∙ ap (λ x. name_of j ++ x) st.whole ∙ sym (append_assoc (name_of j) st.front st.back);
            left = st.left;
            more = st.more;
            value = st.value;
            goes = ap g (append_assoc (name_of j) st.front st.more) ∙ up j h.among (st.front ++ st.more) st.value st.goes;
            ends = λ b t u back. ap g (append_assoc (name_of j) st.front (b ∷ u)) ∙ refused st.front b t u (whole ∙ ap (λ x. name_of j ++ x) (st.whole ∙ ap (λ y. st.front ++ y) back)) ∙ st.ends b t u back;
          }
        where
          at_byte : (c : ℕ) (t u : List ℕ) → s ≡ name_of j ++ c ∷ t → g (name_of j ++ c ∷ u) ≡ k j (c ∷ u)
          at_byte c t u whole =
              let h = spelled_is ks m s j e in
              let old : furthest n ks (name_of j ++ c ∷ t) ≡ m = sym (is ∙ ap (furthest n ks) whole) in
              let le : furthest n ks (name_of j ++ c ∷ t) ≤ length (name_of j) = omega (arith, old, h.size) in
              let new : furthest n ks (name_of j ++ c ∷ u) ≡ m = further ks (name_of j) c t u le ∙ old in
              let found : spelled_by m n ks (name_of j ++ c ∷ u) ≡ Some j = spelled_same ks m (name_of j) c t u le ∙ ap (spelled_by m n ks) (sym whole) ∙ e in
              ap (λ (i : ℕ). then_rest (spelled_at i (spelled_by i n ks (name_of j ++ c ∷ u)) (name_of j ++ c ∷ u)) k) new
              ∙ ap (λ o. then_rest (spelled_at m o (name_of j ++ c ∷ u)) k) found
              ∙ ap (λ (i : ℕ). k j (drop i (name_of j ++ c ∷ u))) (sym h.size)
              ∙ ap (k j) (drop_front (name_of j) (c ∷ u))

          refused : (front : List ℕ) (b : ℕ) (t u : List ℕ) → s ≡ name_of j ++ (front ++ b ∷ t) → g (name_of j ++ (front ++ b ∷ u)) ≡ k j (front ++ b ∷ u)
          refused [] b t u whole = at_byte b t u whole
          refused (c ∷ front) b t u whole = at_byte c (front ++ b ∷ t) (front ++ b ∷ u) whole

      joined : (m : ℕ) (w s t : List ℕ) → take m w ≡ take m s → take m s ++ (drop m w ++ t) ≡ w ++ t
      joined m w s t same = ap (λ x. x ++ (drop m w ++ t)) (sym same) ∙ sym (append_assoc (take m w) (drop m w) t) ∙ ap (λ x. x ++ t) (take-append-drop m w)

      -- a stop within the names
      within : (s : List ℕ) → spelled_by (furthest n ks s) n ks s ≡ None → Stops g s (length s - furthest n ks s)
      within s e =
          let m = furthest n ks s in
          let r = some s in
          let l = (G r.variable r.among).live in
          let short : m ≤ length s = furthest_within ks s in
          let len : m ≡ length (take m s) = omega (arith, length-take m s, short) in
          let same : take m (name_of r.variable) ≡ take m s = subst (λ (i : ℕ). take i (name_of r.variable) ≡ take i s) r.same (take-common (name_of r.variable) s) in
          record {
            front = take m s;
            back = drop m s;
            whole = sym (take-append-drop m s);
            left = omega (arith, length-drop m s);
            more = drop m (name_of r.variable) ++ l.text;
            value = l.value;
            goes = ap g (joined m (name_of r.variable) s l.text same) ∙ up r.variable r.among l.text l.value l.is;
            ends = λ b t u back.
                let whole : s ≡ take m s ++ b ∷ t = sym (take-append-drop m s) ∙ ap (λ x. take m s ++ x) back in
                let old : furthest n ks (take m s ++ b ∷ t) ≡ m = ap (furthest n ks) (sym whole) in
                let le : furthest n ks (take m s ++ b ∷ t) ≤ length (take m s) = omega (arith, old, len) in
                let new : furthest n ks (take m s ++ b ∷ u) ≡ m = further ks (take m s) b t u le ∙ old in
                let none : spelled_by m n ks (take m s ++ b ∷ u) ≡ None = spelled_same ks m (take m s) b t u le ∙ ap (spelled_by m n ks) (sym whole) ∙ e in
                ap (λ (i : ℕ). then_rest (spelled_at i (spelled_by i n ks (take m s ++ b ∷ u)) (take m s ++ b ∷ u)) k) new
                ∙ ap (λ o. then_rest (spelled_at m o (take m s ++ b ∷ u)) k) none
                ∙ ap (λ (i : ℕ). Err i) (omega (arith, len, length-append (take m s) (b ∷ u)));
          }

      cases : (s : List ℕ) (o : Option ℕ) → spelled_by (furthest n ks s) n ks s ≡ o → StopsAt g s (then_rest (spelled_at (furthest n ks s) o s) k)
      cases s None e = within s e
      cases s (Some j) e =
          let h = spelled_is ks (furthest n ks s) s j e in
          behind s j (furthest n ks s) refl e (k j (drop (furthest n ks s) s)) ((G j h.among).stops (drop (furthest n ks s) s))

      goes : Goes g
      goes = record { live = live; stops = λ s. cases s (spelled_by (furthest n ks s) n ks s) refl }

    binder_codec : ((s : List ℕ) → Reaches ks s) → Codec false true (plainly (among_at n ks)) name_of (Among ks)
    binder_codec some = record {
      takes = λ _ s x is. read_of s (spelled_by (furthest n ks s) n ks s) x refl is;
      again = λ _ j r is after le. again j r is after;
      enough = λ _ _ s le lf. refl;
      goes = λ _ k G N. goes k G N some;
      opens = tt;
    }

  -- the same where there is some variable
  pub among_codec : (ks : List ℕ) (k : ℕ) → AllBound ks → Among ks k → Codec false true (plainly (among_at n ks)) name_of (Among ks)
  among_codec [] k bound is = absurd is
  among_codec (j ∷ js) k bound is = binder_codec (j ∷ js) bound (λ s. reaches (j ∷ js) bound js j s)
