-- Frames of values: prefixes, the greatest frame, and what stands in front of a cell.
use Rattle.std.proofs.Common.{◌≡◌, refl, ◌∙◌, ap, subst, ℕ, zero, suc, arith, List, [], ◌∷◌, ◌++◌, Option, Some, None, Bool, true, false}
use Rattle.std.specs.Prelude.{slice_get, ◌==◌, ◌&&◌, option_map}
use Rattle.std.proofs.lemmas.List.{append-nil}
use Rattle.std.proofs.lemmas.Bool.Decides.{nat_tests}
use Rattle.core_syntax.specs.Lists.{onto, Each, after_prefix, same_numbers}
use Rattle.core_syntax.specs.Arrays.{frame_before, is_prefix, all_prefixes, greatest_of, greatest, all_frames_are}
use Rattle.core_syntax.proofs.Unique.{prefixes_agree, some_is}

pub equal_test : (m n : ℕ) → (m == n) ≡ true → m ≡ n
equal_test m n e = grind (arith, nat_tests)

test_equal : (m : ℕ) → (m == m) ≡ true
test_equal m = grind (arith, nat_tests)

pub both : (a b : Bool) → (a && b) ≡ true → (a ≡ true) × (b ≡ true)
both true b e = (refl, e)
both false b e = absurd (cc)

pub and_both : (a b : Bool) → a ≡ true → b ≡ true → (a && b) ≡ true
and_both true b e f = f
and_both false b e f = absurd (cc)

-- ---- reversal

pub onto_onto : {A : Type 0} (xs ys zs : List A) → onto (onto xs ys) zs ≡ onto ys (xs ++ zs)
onto_onto [] ys zs = refl
onto_onto (x ∷ xs) ys zs = onto_onto xs (x ∷ ys) zs

pub onto-append : {A : Type 0} (xs ys zs : List A) → onto (xs ++ ys) zs ≡ onto ys (onto xs zs)
onto-append [] ys zs = refl
onto-append (x ∷ xs) ys zs = onto-append xs ys (x ∷ zs)

pub onto_split : {A : Type 0} (xs ys zs : List A) → onto xs (ys ++ zs) ≡ onto xs ys ++ zs
onto_split [] ys zs = refl
onto_split (x ∷ xs) ys zs = onto_split xs (x ∷ ys) zs

-- ---- prefixes

pub after_prefix-append : (xs ys : List ℕ) → after_prefix xs (xs ++ ys) ≡ Some ys
after_prefix-append [] ys = refl
after_prefix-append (x ∷ xs) ys = by (x == x) (test_equal x) (after_prefix-append xs ys)
  where
    by : (b : Bool) → b ≡ true → after_prefix xs (xs ++ ys) ≡ Some ys → (elim b as (λ b. Option (List ℕ)) [ true ↦ after_prefix xs (xs ++ ys) | false ↦ None ]) ≡ Some ys
    by true e h = h
    by false e h = absurd (cc)

-- the frame in front of a cell's dims
pub frame_before_cell : (p c : List ℕ) → frame_before c (p ++ c) ≡ Some p
frame_before_cell p c =
    ap (λ xs. option_map (λ f. onto f []) (after_prefix (onto c []) xs)) (onto-append p c [] ∙ onto_split c [] (onto p []))
    ∙ ap (option_map (λ f. onto f [])) (after_prefix-append (onto c []) (onto p []))
    ∙ ap Some (onto_onto p [] [] ∙ append-nil p)

pub is_prefix-append : (xs ys : List ℕ) → is_prefix xs (xs ++ ys) ≡ true
is_prefix-append [] ys = refl
is_prefix-append (x ∷ xs) ys = and_both (x == x) (is_prefix xs (xs ++ ys)) (test_equal x) (is_prefix-append xs ys)

pub prefix_rest : (xs ys : List ℕ) → is_prefix xs ys ≡ true → (r : List ℕ) × (after_prefix xs ys ≡ Some r) × (xs ++ r ≡ ys)
prefix_rest [] ys e = (ys, refl, refl)
prefix_rest (x ∷ xs) [] e = absurd (cc)
prefix_rest (x ∷ xs) (y ∷ ys) e =
    let t = both (x == y) (is_prefix xs ys) e in
    let same = equal_test x y t.0 in
    let r = prefix_rest xs ys t.1 in
    (r.0, subst (λ zs. after_prefix (x ∷ xs) zs ≡ Some r.0) (λ i. same i ∷ r.2 i) (after_prefix-append (x ∷ xs) r.0), λ i. same i ∷ r.2 i)

prefixes_same : (xs ys : List ℕ) → is_prefix xs ys ≡ true → is_prefix ys xs ≡ true → xs ≡ ys
prefixes_same xs ys e f = prefixes_agree xs ys (prefix_rest xs ys e).0 (prefix_rest ys xs f).0 (prefix_rest xs ys e).2 (prefix_rest ys xs f).2

-- ---- the greatest frame

pub prefix_at : (fs : List (List ℕ)) (F : List ℕ) (k : ℕ) (g : List ℕ) → all_prefixes fs F ≡ true → slice_get fs k ≡ Some g → is_prefix g F ≡ true
prefix_at [] F k g e at = absurd (cc)
prefix_at (f ∷ fs) F zero g e at = subst (λ h. is_prefix h F ≡ true) (some_is f g at) (both (is_prefix f F) (all_prefixes fs F) e).0
prefix_at (f ∷ fs) F (suc k) g e at = prefix_at fs F k g (both (is_prefix f F) (all_prefixes fs F) e).1 at

pub all_prefix : (fs : List (List ℕ)) (F : List ℕ) → Each (λ g. is_prefix g F ≡ true) fs → all_prefixes fs F ≡ true
all_prefix [] F h = refl
all_prefix (f ∷ fs) F h = and_both (is_prefix f F) (all_prefixes fs F) h.0 (all_prefix fs F h.1)

found : (all fs : List (List ℕ)) (k : ℕ) (F : List ℕ) → slice_get fs k ≡ Some F → all_prefixes all F ≡ true
    → (G : List ℕ) × (greatest_of all fs ≡ Some G) × (all_prefixes all G ≡ true) × ((j : ℕ) × (slice_get fs j ≡ Some G))
found all [] k F at e = absurd (cc)
found all (f ∷ fs) k F at e = by (all_prefixes all f) refl k at (λ k at. found all fs k F at e)
  where
    by : (b : Bool) → all_prefixes all f ≡ b → (k : ℕ) → slice_get (f ∷ fs) k ≡ Some F
        → ((k : ℕ) → slice_get fs k ≡ Some F → (G : List ℕ) × (greatest_of all fs ≡ Some G) × (all_prefixes all G ≡ true) × ((j : ℕ) × (slice_get fs j ≡ Some G)))
        → (G : List ℕ) × ((elim b as (λ b. Option (List ℕ)) [ true ↦ Some f | false ↦ greatest_of all fs ]) ≡ Some G) × (all_prefixes all G ≡ true) × ((j : ℕ) × (slice_get (f ∷ fs) j ≡ Some G))
    by true q k at h = (f, refl, q, (0, refl))
    by false q zero at h = absurd (let same : f ≡ F = some_is f F at in let other : all_prefixes all f ≡ true = (ap (all_prefixes all) same ∙ e) in cc)
    by false q (suc k) at h = let r = h k at in (r.0, r.1, r.2, (suc r.3.0, r.3.1))

-- a frame of the list that has all others as prefixes is the greatest
pub greatest_is : (fs : List (List ℕ)) (k : ℕ) (F : List ℕ) → slice_get fs k ≡ Some F → all_prefixes fs F ≡ true → greatest fs ≡ Some F
greatest_is fs k F at e =
    let r = found fs fs k F at e in
    r.1 ∙ ap Some (prefixes_same r.0 F (prefix_at fs F r.3.0 r.0 e r.3.1) (prefix_at fs r.0 k F r.2 at))

-- ---- all frames are one

same_test : (xs ys : List ℕ) → same_numbers xs ys ≡ true → xs ≡ ys
same_test [] [] e = refl
same_test [] (y ∷ ys) e = absurd (cc)
same_test (x ∷ xs) [] e = absurd (cc)
same_test (x ∷ xs) (y ∷ ys) e = let t = both (x == y) (same_numbers xs ys) e in λ i. equal_test x y t.0 i ∷ same_test xs ys t.1 i

pub frames_are : (F : List ℕ) (fs : List (List ℕ)) → all_frames_are F fs ≡ true → Each (λ f. F ≡ f) fs
frames_are F [] e = tt
frames_are F (f ∷ fs) e = let t = both (same_numbers F f) (all_frames_are F fs) e in (same_test F f t.0, frames_are F fs t.1)
