-- The numbers of names in a set that keeps their order.
use Rattle.std.proofs.Common.{◌≡◌, refl, ap, ◌∙◌, ℕ, suc, ◌+◌, arith, Bool, true, false, not, ◌||◌, cond, nat_lt, List, [], ◌∷◌, ◌++◌, map, length, Option, Some, None, if◌then◌else◌}
use Rattle.std.specs.Borrow.{Bor}
use Rattle.std.specs.List.{position, prefix_len, list_any}
use Rattle.std.specs.Str.{bytes_eq}
use Rattle.std.proofs.lemmas.Bool.Decides.{nat_tests}
use Rattle.name_resolve.specs.Scopes.{number_of}

abbrev pub now : List (Bor (List ℕ)) → List (List ℕ)
now ks = map (λ k. k.now) ks

abbrev one_later : Option ℕ → Option ℕ
one_later o = elim o [ Some k ↦ Some (k + 1) | None ↦ None ]

later_lt : (n m : ℕ) → nat_lt (1 + n) (suc m) ≡ nat_lt n m
later_lt n m = grind (arith, nat_tests)

first_lt : (m : ℕ) → nat_lt 0 (suc m) ≡ true
first_lt m = grind (arith, nat_tests)

one_later-cond : (t : Bool) (n : ℕ) → cond t (Some (1 + n)) None ≡ one_later (cond t (Some n) None)
one_later-cond true n = ap Some (omega arith)
one_later-cond false n = refl

-- the place of a name is its number
pub position_number : (x : List ℕ) (ks : List (Bor (List ℕ))) → position (λ k. bytes_eq x k.now) ks ≡ number_of x (now ks)
position_number x [] = refl
position_number x (k ∷ ks) = go (bytes_eq x k.now) (position_number x ks)
  where
    n : ℕ
    n = prefix_len (λ k. not (bytes_eq x k.now)) ks

    go : (b : Bool) → cond (nat_lt n (length ks)) (Some n) None ≡ number_of x (now ks) →
        cond (nat_lt (cond (not b) (1 + n) 0) (suc (length ks))) (Some (cond (not b) (1 + n) 0)) None ≡ (if b then Some 0 else one_later (number_of x (now ks)))
    go true h = ap (λ t. cond t (Some 0) None) (first_lt (length ks))
    go false h = ap (λ t. cond t (Some (1 + n)) None) (later_lt n (length ks)) ∙ one_later-cond (nat_lt n (length ks)) n ∙ ap one_later h

-- a name that has no number isn't in the set
pub not_any : (x : List ℕ) (ks : List (Bor (List ℕ))) → number_of x (now ks) ≡ None → list_any (λ k. bytes_eq x k.now) ks ≡ false
not_any x [] h = refl
not_any x (k ∷ ks) h = go (bytes_eq x k.now) h (not_any x ks)
  where
    go : (b : Bool) → (if b then Some 0 else one_later (number_of x (now ks))) ≡ None → (number_of x (now ks) ≡ None → list_any (λ k. bytes_eq x k.now) ks ≡ false) → (b || list_any (λ k. bytes_eq x k.now) ks) ≡ false
    go true h ih = absurd (cc)
    go false h ih = ih (none (number_of x (now ks)) h)
      where
        none : (o : Option ℕ) → one_later o ≡ None → o ≡ None
        none None e = refl
        none (Some k) e = absurd (cc)

-- the names behind one more
pub now_push : (ks : List (Bor (List ℕ))) (k : Bor (List ℕ)) → now (ks ++ k ∷ []) ≡ now ks ++ k.now ∷ []
now_push [] k = refl
now_push (j ∷ ks) k = ap (λ ys. j.now ∷ ys) (now_push ks k)

pub names_insert : (ks new : List (Bor (List ℕ))) (k : Bor (List ℕ)) (names : List (List ℕ)) → now ks ≡ names → number_of k.now names ≡ None →
    new ≡ (if list_any (λ j. bytes_eq k.now j.now) ks then ks else ks ++ k ∷ []) → now new ≡ names ++ k.now ∷ []
names_insert ks new k names v h e =
    ap now (e ∙ ap (λ (b : Bool). if b then ks else ks ++ k ∷ []) (not_any k.now ks (ap (number_of k.now) v ∙ h))) ∙ now_push ks k ∙ ap (λ ys. ys ++ k.now ∷ []) v
