-- So many parts, one after another; some items of a list; what is known; and equal readers.
use Rattle.std.proofs.Common.{◌≡◌, ℕ, zero, suc, ◌≤◌, Bool, true, false, ◌||◌, not, List, [], ◌∷◌, ◌++◌, length, Ok, Err, ap, sym, subst, ◌∙◌, refl, arith, append_assoc, length-append}
use Rattle.std.specs.Prelude.{flat_map}
use Rattle.std.specs.List.{All}
use Rattle.std.proofs.lemmas.Bool.{false≢true}
use Rattle.std.proofs.lemmas.List.Elements.{All-nil, All-cons, All-head, All-tail}
use Rattle.machine_table.specs.Codes.{Code}
use Rattle.code_text.specs.Reading.{Read, ◌>>=◌, Reader, is_hex, known, many_at, many, with_front, fronted, items, some_items, both_at, made}
use Rattle.code_text.proofs.goes.Goes.{Rest, then_rest, Goes, Goes-same, bind_rest}
use Rattle.code_text.proofs.goes.Spelled.{bind_ok, bind_at, Ended}
use Rattle.code_text.proofs.codecs.Codec.{Codec, Begins, After, Follow, follow_same, bind_same, ok_of, bind_goes, made_codec, both_codec}
use Rattle.code_text.proofs.codecs.Items.{Each, items_codec}
use Rattle.std.proofs.Common.{eqb}
use Rattle.code_text.proofs.forms.Lists.{until, listed}

-- what follows a first item, and a list of it and others
abbrev pub with_first : {A B : Type 0} → A → B × List ℕ → Read (A × B)
with_first a y = Ok ((a, y.0), y.1)

abbrev pub as_list : {A : Type 0} → (A × List A) × List ℕ → Read (List A)
as_list x = Ok (x.0.0 ∷ x.0.1, x.1)

-- equal readers
pub same_codec : {A : Type 0} (b e : Bool) (p q : Reader A) (t : A → List ℕ) (P : A → Type 0) → ((n : ℕ) (s : List ℕ) → p n s ≡ q n s) → Codec b e q t P → Codec b e p t P
same_codec b e p q t P same c = let path : q ≡ p = λ i n s. sym (same n s) i in subst (λ r. Codec b e r t P) path c

-- what is known
pub known_codec : {A : Type 0} (e : Bool) (a : A) → Codec false e (known a) (λ _. []) (λ x. x ≡ a)
known_codec e a = record {
  takes = λ n s x is. let same = ok_of (a, s) x is in (ap (λ y. y.1) same, sym (ap (λ y. y.0) same));
  again = λ n x r is after le. ap (λ y. Ok (y, r)) (sym is);
  enough = λ n m s le lf. refl;
  goes = λ n k G N. G a refl;
  opens = tt;
}

module _ {A : Type 0} (p : Reader A) (t : A → List ℕ) (P : A → Type 0) where
  -- so many parts that are spelled one after another
  pub record Counted (m : ℕ) (xs : List A) : Type 0 where
    pub count : length xs ≡ m
    pub each : All P xs

  many_takes : (m n : ℕ) → ((s : List ℕ) (x : A × List ℕ) → p n s ≡ Ok x → (s ≡ t x.0 ++ x.1) × P x.0) → (s : List ℕ) (x : List A × List ℕ) → many_at (p n) m s ≡ Ok x → (s ≡ flat_map t x.0 ++ x.1) × Counted m x.0
  unfolding many_at
  many_takes zero n one s x e = subst (λ (y : List A × List ℕ). (s ≡ flat_map t y.0 ++ y.1) × Counted 0 y.0) (ok_of ([], s) x e) (refl, record { count = refl; each = All-nil P })
  many_takes (suc m) n one s x e =
      let h = bind_ok (p n s) (λ y. many_at (p n) m y.1 >>= λ ys. Ok (y.0 ∷ ys.0, ys.1)) x e in
      let i = bind_ok (many_at (p n) m h.0.1) (λ ys. Ok (h.0.0 ∷ ys.0, ys.1)) x h.2 in
      let o = one s h.0 h.1 in
      let r = many_takes m n one h.0.1 i.0 i.1 in
      subst (λ (y : List A × List ℕ). (s ≡ flat_map t y.0 ++ y.1) × Counted (suc m) y.0) (ok_of (h.0.0 ∷ i.0.0, i.0.1) x i.2)
      (o.0 ∙ ap (λ z. t h.0.0 ++ z) r.0 ∙ sym (append_assoc (t h.0.0) (flat_map t i.0.0) i.0.1), record { count = ap suc r.1.count; each = All-cons P h.0.0 i.0.0 o.1 r.1.each })

  module _ (b e : Bool) (ok : not e || b ≡ true) (c : Codec b e p t P) where
    begins : (e b : Bool) → not e || b ≡ true → Begins b p t P → (x : A) (r : List ℕ) → P x → After e (t x ++ r)
    begins true true ok o x r is = o.text x r is
    begins true false ok o x r is = absurd (false≢true ok)
    begins false b ok o x r is = tt

    all_begin : (xs : List A) (r : List ℕ) → All P xs → After e r → After e (flat_map t xs ++ r)
    all_begin [] r all q = q
    all_begin (x ∷ xs) r all q = subst (After e) (sym (append_assoc (t x) (flat_map t xs) r)) (begins e b ok c.opens x (flat_map t xs ++ r) (All-head P x xs all))

    many_again : (m n : ℕ) (xs : List A) (r : List ℕ) → length xs ≡ m → All P xs → After e r → length (flat_map t xs) ≤ n → many_at (p n) m (flat_map t xs ++ r) ≡ Ok (xs, r)
    unfolding many_at
    many_again zero n [] r count all q le = refl
    many_again zero n (x ∷ xs) r count all q le = absurd (omega (arith, count))
    many_again (suc m) n [] r count all q le = absurd (omega (arith, count))
    many_again (suc m) n (x ∷ xs) r count all q le =
        let size = length-append (t x) (flat_map t xs) in
        ap (many_at (p n) (suc m)) (append_assoc (t x) (flat_map t xs) r)
        ∙ bind_at (p n (t x ++ (flat_map t xs ++ r))) (λ y. many_at (p n) m y.1 >>= λ ys. Ok (y.0 ∷ ys.0, ys.1)) (x, flat_map t xs ++ r)
        (c.again n x (flat_map t xs ++ r) (All-head P x xs all) (all_begin xs r (All-tail P x xs all) q) (omega (arith, le, size)))
        ∙ bind_at (many_at (p n) m (flat_map t xs ++ r)) (λ ys. Ok (x ∷ ys.0, ys.1)) (xs, r) (many_again m n xs r (omega (arith, count)) (All-tail P x xs all) q (omega (arith, le, size)))

    many_enough : (k n m : ℕ) (s : List ℕ) → length s ≤ n → length s ≤ m → many_at (p n) k s ≡ many_at (p m) k s
    unfolding many_at
    many_enough zero n m s le lf = refl
    many_enough (suc k) n m s le lf =
        ap (λ (r : Read A). r >>= λ x. many_at (p n) k x.1 >>= λ xs. Ok (x.0 ∷ xs.0, xs.1)) (c.enough n m s le lf)
        ∙ bind_same (p m s) (λ x. many_at (p n) k x.1 >>= λ xs. Ok (x.0 ∷ xs.0, xs.1)) (λ x. many_at (p m) k x.1 >>= λ xs. Ok (x.0 ∷ xs.0, xs.1))
        (λ x f.
        let o = c.takes m s x f in
        let short : length x.1 ≤ length s = omega (arith, ap length o.0, length-append (t x.0) x.1) in
        ap (λ (r : Read (List A)). r >>= λ xs. Ok (x.0 ∷ xs.0, xs.1)) (many_enough k n m x.1 (omega (arith, short, le)) (omega (arith, short, lf))))

    follows : (e b : Bool) → not e || b ≡ true → Begins b p t P → (n : ℕ) (k : A → Rest Code) → Follow e (λ s. then_rest (p n s) k)
    follows true true ok o n k = o.rest n k
    follows true false ok o n k = absurd (false≢true ok)
    follows false b ok o n k = tt

    many_goes : (m n : ℕ) (k : List A → Rest Code) → ((xs : List A) → Counted m xs → Goes (k xs)) → ((xs : List A) → Counted m xs → Follow e (k xs)) → Goes (λ s. then_rest (many_at (p n) m s) k) × Follow e (λ s. then_rest (many_at (p n) m s) k)
    unfolding many_at
    many_goes zero n k G N = (G [] (record { count = refl; each = All-nil P }), N [] (record { count = refl; each = All-nil P }))
    many_goes (suc m) n k G N =
        let inner : A × List ℕ → Read (List A) = λ x. many_at (p n) m x.1 >>= λ xs. Ok (x.0 ∷ xs.0, xs.1) in
        let more : A → Rest Code = λ a s. then_rest (inner (a, s)) k in
        let same : (a : A) (s : List ℕ) → more a s ≡ then_rest (many_at (p n) m s) (λ xs. k (a ∷ xs)) = λ a s. bind_rest (many_at (p n) m s) (λ xs. Ok (a ∷ xs.0, xs.1)) k in
        let each : (a : A) → P a → Goes (more a) × Follow e (more a) = λ a is.
        let grown : (xs : List A) → Counted m xs → Counted (suc m) (a ∷ xs) = λ xs h. record { count = ap suc h.count; each = All-cons P a xs is h.each } in
        let r = many_goes m n (λ xs. k (a ∷ xs)) (λ xs h. G (a ∷ xs) (grown xs h)) (λ xs h. N (a ∷ xs) (grown xs h)) in
        (Goes-same (more a) (λ s. then_rest (many_at (p n) m s) (λ xs. k (a ∷ xs))) (same a) r.0, follow_same e (more a) (λ s. then_rest (many_at (p n) m s) (λ xs. k (a ∷ xs))) (same a) r.1)
        in (
          bind_goes (p n) inner k (c.goes n more (λ a is. (each a is).0) (λ a is. (each a is).1)),
          follow_same e (λ s. then_rest (p n s >>= inner) k) (λ s. then_rest (p n s) more) (λ s. bind_rest (p n s) inner k) (follows e b ok c.opens n more),
        )

    pub many_codec : (m : ℕ) → Codec false e (many p m) (flat_map t) (Counted m)
    many_codec m = record {
      takes = λ n s x is. many_takes m n (c.takes n) s x is;
      again = λ n xs r is after le. many_again m n xs r is.count is.each after le;
      enough = λ n k s le lf. many_enough m n k s le lf;
      goes = λ n k G N. (many_goes m n k G N).0;
      opens = tt;
    }

-- ---- an item, and others

-- reading an item and others is reading both
pub fronted_same : {A : Type 0} (p : Reader A) (q : A → Reader (List A)) (n : ℕ) (s : List ℕ) → fronted p q n s ≡ made (λ x. x.0 ∷ x.1) (both_at p q) n s
fronted_same {A} p q n s = first (p n s)
  where
    rest : (a : A) (r : Read (List A)) → with_front (a ∷ []) r ≡ ((r >>= with_first a) >>= as_list)
    rest a (Ok y) = refl
    rest a (Err m) = refl

    first : (r : Read A) → (r >>= λ x. with_front (x.0 ∷ []) (q x.0 n x.1)) ≡ ((r >>= λ x. q x.0 n x.1 >>= with_first x.0) >>= as_list)
    first (Ok x) = rest x.0 (q x.0 n x.1)
    first (Err m) = refl

pub fronted_codec : {A : Type 0} (b e : Bool) (p : Reader A) (q : A → Reader (List A)) (u : List A → List ℕ) (R : List A → Type 0) → Codec b e (made (λ x. x.0 ∷ x.1) (both_at p q)) u R → Codec b e (fronted p q) u R
fronted_codec b e p q u R c = same_codec b e (fronted p q) (made (λ x. x.0 ∷ x.1) (both_at p q)) u R (fronted_same p q) c

-- what was read before, twice
pub front_twice : {A : Type 0} (a b : A) (r : Read (List A)) → with_front (a ∷ []) (with_front (b ∷ []) r) ≡ with_front (a ∷ (b ∷ [])) r
front_twice a b (Ok x) = refl
front_twice a b (Err m) = refl

module _ {S A : Type 0} (close : ℕ) (closes : is_hex close ≡ false) (apart : eqb 32 close ≡ false) (room : S → Bool) (item : S → Reader A) (next : S → A → S) (t : A → List ℕ) (V : S → Type 0) (P : S → A → Type 0) (one : (s : S) → V s → room s ≡ true → Codec false true (item s) t (P s)) (later : (s : S) (a : A) → V s → P s a → V (next s a)) where
  abbrev pub EachItem : S → List A → Type 0
  EachItem s xs = Each close closes apart room item next t V P one later s xs

  -- items that may stand there, at least one
  abbrev pub SomeItems : S → List A → Type 0
  SomeItems s [] = ⊥
  SomeItems s (x ∷ xs) = P s x × EachItem (next s x) xs

  pub some_codec : (s : S) → V s → room s ≡ true → Codec false false (some_items close room item next s) (listed close t) (SomeItems s)
  some_codec s v some =
      fronted_codec false false (item s) (λ a. items close room item next (next s a)) (listed close t) (SomeItems s)
      (made_codec (λ x. x.0 ∷ x.1) (both_at (item s) (λ a. items close room item next (next s a))) (λ x. t x.0 ++ until close t x.1) (λ x. P s x.0 × EachItem (next s x.0) x.1) (listed close t) (SomeItems s)
      (λ x is. refl) (λ x is. is) from false false
      (both_codec (item s) t (P s) (λ a. items close room item next (next s a)) (λ a. until close t) (λ a. EachItem (next s a)) false true true false refl (one s v some)
      (λ a is. items_codec close closes apart room item next t V P one later (next s a) (later s a v is))))
    where
      from : (xs : List A) → SomeItems s xs → (x : A × List A) × (P s x.0 × EachItem (next s x.0) x.1) × (x.0 ∷ x.1 ≡ xs)
      from [] is = absurd is
      from (x ∷ xs) is = ((x, xs), is, refl)

-- ---- the same part, for equal conditions and texts

pub agree : {A : Type 0} (b e : Bool) (p : Reader A) (t : A → List ℕ) (P Q : A → Type 0) → ((a : A) → P a → Q a) → ((a : A) → Q a → P a) → Codec b e p t P → Codec b e p t Q
agree b e p t P Q to from c = record {
  takes = λ n s x is. let h = c.takes n s x is in (h.0, to x.0 h.1);
  again = λ n a r is after le. c.again n a r (from a is) after le;
  enough = c.enough;
  goes = λ n k G N. c.goes n k (λ a is. G a (to a is)) (λ a is. N a (to a is));
  opens = agreed b c.opens;
}
  where
    agreed : (b : Bool) → Begins b p t P → Begins b p t Q
    agreed true o = record { rest = o.rest; text = λ a r is. o.text a r (from a is) }
    agreed false o = tt

-- the same part, where the texts are equal under the condition
pub respell_where : {A : Type 0} (b e : Bool) (p : Reader A) (t u : A → List ℕ) (P : A → Type 0) → ((a : A) → P a → u a ≡ t a) → Codec b e p t P → Codec b e p u P
respell_where b e p t u P same c = record {
  takes = λ n s x is. let h = c.takes n s x is in (h.0 ∙ ap (λ z. z ++ x.1) (sym (same x.0 h.1)), h.1);
  again = λ n a r is after le. ap (λ z. p n (z ++ r)) (same a is) ∙ c.again n a r is after (omega (arith, le, ap length (same a is)));
  enough = c.enough;
  goes = c.goes;
  opens = spelled b c.opens;
}
  where
    spelled : (b : Bool) → Begins b p t P → Begins b p u P
    spelled true o = record { rest = o.rest; text = λ a r is. subst (λ z. Ended (z ++ r)) (sym (same a is)) (o.text a r is) }
    spelled false o = tt

-- nothing was read before
pub front_none : {A : Type 0} (front : List A) (r : Read (List A)) → front ≡ [] → with_front front r ≡ r
front_none {A} front r e = ap (λ xs. with_front xs r) e ∙ none r
  where
    none : (r : Read (List A)) → with_front [] r ≡ r
    none (Ok x) = refl
    none (Err m) = refl
