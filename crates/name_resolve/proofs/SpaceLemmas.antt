-- Names by the levels of their binders.
use Rattle.std.proofs.Common.{◌≡◌, refl, sym, ap, subst, ◌∙◌, ℕ, ◌+◌, ◌-◌, ◌<◌, ◌≤◌, arith, Bool, true, false, List, [], ◌∷◌, ◌++◌, length, Option, Some, None, if◌then◌else◌, cond, nat_eq, length-append, Result, Ok, Err, OnOk, OnErr, drop, ◌^◌}
use Rattle.std.specs.Str.{bytes_eq}
use Rattle.std.specs.Result.{is_err}
use Rattle.std.proofs.lemmas.Bool.Decides.{nat_tests}
use Rattle.std.proofs.lemmas.Slice.Eq.{bytes_eq-Decides}
use Rattle.name_resolve.specs.declared.space.Bound.{Bound}
use Rattle.name_resolve.specs.Scopes.{number_of}
use Rattle.name_resolve.specs.Spaces.{names_onto, names_in, level_in, AreHidden}

abbrev one_more : Option ℕ → Option ℕ
one_more o = elim o [ Some k ↦ Some (k + 1) | None ↦ None ]

-- the number of a name is counted from the other end
pub some_level : (x : List ℕ) (ys : List (List ℕ)) (l : ℕ) → level_in x ys ≡ Some l → (l < length ys) × (number_of x ys ≡ Some (length ys - 1 - l))
some_level x [] l h = absurd (cc)
some_level x (y ∷ ys) l h = go (bytes_eq x y) h (some_level x ys l)
  where
    go : (b : Bool) → (if b then Some (length ys) else level_in x ys) ≡ Some l → (level_in x ys ≡ Some l → (l < length ys) × (number_of x ys ≡ Some (length ys - 1 - l))) →
        (l < length (y ∷ ys)) × ((if b then Some 0 else one_more (number_of x ys)) ≡ Some (length (y ∷ ys) - 1 - l))
    go true h ih = let e : length ys ≡ l = cc in (omega arith, ap Some (omega arith))
    go false h ih = let r = ih h in (omega (arith, r.0), ap one_more r.1 ∙ ap Some (omega (arith, r.0)))

pub no_level : (x : List ℕ) (ys : List (List ℕ)) → level_in x ys ≡ None → number_of x ys ≡ None
no_level x [] h = refl
no_level x (y ∷ ys) h = go (bytes_eq x y) h (no_level x ys)
  where
    go : (b : Bool) → (if b then Some (length ys) else level_in x ys) ≡ None → (level_in x ys ≡ None → number_of x ys ≡ None) → (if b then Some 0 else one_more (number_of x ys)) ≡ None
    go true h ih = absurd (cc)
    go false h ih = ap one_more (ih h)

-- as many names as binders
pub length_onto : (bs : List Bound) (ys : List (List ℕ)) → length (names_onto bs ys) ≡ length bs + length ys
length_onto [] ys = omega arith
length_onto (b ∷ bs) ys = length_onto bs (b.name.now ∷ ys) ∙ omega arith

-- a binder more is the innermost
pub names_push : (bs : List Bound) (b : Bound) (ys : List (List ℕ)) → names_onto (bs ++ b ∷ []) ys ≡ b.name.now ∷ names_onto bs ys
names_push [] b ys = refl
names_push (c ∷ bs) b ys = names_push bs b (c.name.now ∷ ys)

pub hidden_push : (bs : List Bound) (b : Bound) (ys : List (List ℕ)) → AreHidden bs ys → b.hidden ≡ level_in b.name.now (names_onto bs ys) → AreHidden (bs ++ b ∷ []) ys
hidden_push [] b ys h e = (e, tt)
hidden_push (c ∷ bs) b ys h e = (h.0, hidden_push bs b (c.name.now ∷ ys) h.1 e)

pub hidden_pop : (bs : List Bound) (b : Bound) (ys : List (List ℕ)) → AreHidden (bs ++ b ∷ []) ys → AreHidden bs ys × (b.hidden ≡ level_in b.name.now (names_onto bs ys))
hidden_pop [] b ys h = (tt, h.0)
hidden_pop (c ∷ bs) b ys h = let r = hidden_pop bs b (c.name.now ∷ ys) h.1 in ((h.0, r.0), r.1)

-- what is found in a table of n binders
module _ (x : List ℕ) (bs : List Bound) (l n : ℕ) (e : n ≡ length bs) (h : level_in x (names_in bs) ≡ Some l) where
  pub level_below : l < n
  level_below = omega (arith, e, (some_level x (names_in bs) l h).0, length_onto bs [])

  pub number_found : (now : List (List ℕ)) → names_in bs ≡ now → Some (n - 1 - l) ≡ number_of x now
  number_found now v =
      let k : n ≡ length (names_in bs) = omega (arith, e, length_onto bs []) in
      ap (λ m. Some (m - 1 - l)) k ∙ sym ((some_level x (names_in bs) l h).1) ∙ ap (number_of x) v

eq_sym : (a b : ℕ) → nat_eq a b ≡ nat_eq b a
eq_sym a b = grind (arith, nat_tests)

pub bytes_sym : (xs ys : List ℕ) → bytes_eq xs ys ≡ bytes_eq ys xs
bytes_sym [] [] = refl
bytes_sym [] (y ∷ ys) = refl
bytes_sym (x ∷ xs) [] = refl
bytes_sym (x ∷ xs) (y ∷ ys) = let e = eq_sym x y in let es = bytes_sym xs ys in cc

-- a table with one more name
pub level_push : (x name : List ℕ) (ys : List (List ℕ)) (n : ℕ) (old new : Option ℕ) → n ≡ length ys → old ≡ level_in x ys → new ≡ cond (bytes_eq name x) (Some n) old → new ≡ level_in x (name ∷ ys)
level_push x name ys n old new e h k = k ∙ go (bytes_eq name x) (bytes_eq x name) (bytes_sym name x)
  where
    go : (a b : Bool) → a ≡ b → cond a (Some n) old ≡ (if b then Some (length ys) else level_in x ys)
    go true true p = ap Some e
    go true false p = absurd (cc)
    go false true p = absurd (cc)
    go false false p = h

-- there is room for one more
pub room_push : (bs : List Bound) (b : Bound) (now : List (List ℕ)) (k : ℕ) → names_in bs ≡ now → length now < k → length (bs ++ b ∷ []) ≤ k
room_push bs b now k v h = omega (arith, length-append bs (b ∷ []), length_onto bs [], ap length v)

-- what holds where an answer is no error
pub on_ok : {A E : Type 0} (P : Type 0) (r : Result A E) → is_err r ≡ false → OnOk r P → P
on_ok P (Ok a) e h = h
on_ok P (Err x) e h = absurd (cc)

-- a table with the innermost name taken out: the name that it hid is back
pub level_pop : (x name : List ℕ) (ys : List (List ℕ)) (h old new : Option ℕ) → h ≡ level_in name ys → old ≡ level_in x (name ∷ ys) → new ≡ cond (bytes_eq name x) h old → new ≡ level_in x ys
level_pop x name ys h old new p q k = k ∙ go (bytes_eq name x) (bytes_eq x name) (bytes_sym name x) (bytes_eq-Decides name x).0 q
  where
    go : (a b : Bool) → a ≡ b → (a ≡ true → name ≡ x) → old ≡ (if b then Some (length ys) else level_in x ys) → cond a h old ≡ level_in x ys
    go true b e d r = p ∙ ap (λ z. level_in z ys) (d refl)
    go false true e d r = absurd (cc)
    go false false e d r = r

-- what an answer says in one case, where the other can't be
pub on_either : {A E : Type 0} (P Q : Type 0) (r : Result A E) → OnOk r P → OnErr r Q → ¬ Q → P
on_either P Q (Ok a) ok err never = ok
on_either P Q (Err x) ok err never = absurd (never err)

same_bytes : (x : List ℕ) → bytes_eq x x ≡ true
same_bytes x = (bytes_eq-Decides x x).1 refl

-- a table without its innermost name
module _ (old new : List Bound) (b : Bound) (e : old ≡ new ++ b ∷ []) where
  pub names_pop : names_in old ≡ b.name.now ∷ names_in new
  names_pop = ap names_in e ∙ names_push new b []

  pub drop_pop : (now : List (List ℕ)) → names_in old ≡ now → names_in new ≡ drop 1 now
  drop_pop now v = ap (λ ys. drop 1 ys) (sym names_pop ∙ v)

  pub hides_pop : AreHidden old [] → AreHidden new [] × (b.hidden ≡ level_in b.name.now (names_in new))
  hides_pop h = hidden_pop new b [] (subst (λ all. AreHidden all []) e h)

  -- the innermost name is in the table
  pub name_found : (o : Option ℕ) → o ≡ level_in b.name.now (names_in old) → ¬ (o ≡ None)
  name_found o p n = let q : (if bytes_eq b.name.now b.name.now then Some (length (names_in new)) else level_in b.name.now (names_in new)) ≡ o = sym (p ∙ ap (level_in b.name.now) names_pop) in
      go (bytes_eq b.name.now b.name.now) (same_bytes b.name.now) q
    where
      go : (t : Bool) → t ≡ true → (if t then Some (length (names_in new)) else level_in b.name.now (names_in new)) ≡ o → ⊥
      go true s q = absurd (cc)
      go false s q = absurd (cc)

  pub room_pop : length old ≤ 2 ^ 31 → length new ≤ 2 ^ 31
  room_pop h = omega (arith, h, ap length e, length-append new (b ∷ []))

  pub level_popped : (x : List ℕ) (h found left : Option ℕ) → h ≡ level_in b.name.now (names_in new) → found ≡ level_in x (names_in old) → left ≡ cond (bytes_eq b.name.now x) h found → left ≡ level_in x (names_in new)
  level_popped x h found left p q r = level_pop x b.name.now (names_in new) h found left p (q ∙ ap (level_in x) names_pop) r
