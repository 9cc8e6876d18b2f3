-- The greatest of frames is the longest of them.
use Rattle.std.proofs.Common.{◌≡◌, refl, sym, ap, subst, ◌∙◌, ℕ, ◌<◌, ◌≤◌, ◌==◌, ◌&&◌, ◌⊎◌, inl, inr, nat_lt, Bool, true, false, List, [], ◌∷◌, length, Option, Some, None, arith}
use Rattle.std.proofs.lemmas.Bool.{eqb-true}
use Rattle.std.proofs.lemmas.Bool.Decides.{nat_tests}
use Rattle.core_syntax.specs.Arrays.{is_prefix, all_prefixes, greatest_of, greatest}
use Rattle.core_syntax.specs.Lists.{Each}
use Rattle.machine.specs.Longest.{longer, longest}

left_true : (a b : Bool) → (a && b) ≡ true → a ≡ true
left_true true b e = refl
left_true false b e = e

right_true : (a b : Bool) → (a && b) ≡ true → b ≡ true
right_true true b e = e
right_true false b e = absurd (cc)

-- a prefix is as long at most
prefix_length : (f g : List ℕ) → is_prefix f g ≡ true → length f ≤ length g
prefix_length [] g e = omega arith
prefix_length (x ∷ f) [] e = absurd (cc)
prefix_length (x ∷ f) (y ∷ g) e = let h : length f ≤ length g = prefix_length f g (right_true (x == y) (is_prefix f g) e) in omega (arith, h)

-- a prefix that is as long is all of it
long_prefix : (f g : List ℕ) → is_prefix f g ≡ true → length g ≤ length f → f ≡ g
long_prefix [] [] e le = refl
long_prefix [] (y ∷ g) e le = absurd (omega (arith, le))
long_prefix (x ∷ f) [] e le = absurd (cc)
long_prefix (x ∷ f) (y ∷ g) e le =
    λ i. eqb-true x y (left_true (x == y) (is_prefix f g) e) i ∷ long_prefix f g (right_true (x == y) (is_prefix f g) e) (omega (arith, le)) i

-- one of the frames
abbrev Among : List ℕ → List (List ℕ) → Type 0
Among F [] = ⊥
Among F (f ∷ fs) = (F ≡ f) ⊎ Among F fs

prefix_among : (F G : List ℕ) (fs : List (List ℕ)) → all_prefixes fs G ≡ true → Among F fs → is_prefix F G ≡ true
prefix_among F G [] e at = absurd at
prefix_among F G (f ∷ fs) e (inl is) = subst (λ h. is_prefix h G ≡ true) (sym is) (left_true (is_prefix f G) (all_prefixes fs G) e)
prefix_among F G (f ∷ fs) e (inr more) = prefix_among F G fs (right_true (is_prefix f G) (all_prefixes fs G) e) more

-- frames that are as long as this one at most
abbrev Within : List ℕ → List (List ℕ) → Type 0
Within F fs = Each (λ f. length f ≤ length F) fs

-- a frame F that is among all, which are as long at most
module _ (all : List (List ℕ)) (F : List ℕ) (among : Among F all) where
  same_frame : (f : List ℕ) → all_prefixes all f ≡ true → length f ≤ length F → F ≡ f
  same_frame f e le = long_prefix F f (prefix_among F f all e among) le

  found : all_prefixes all F ≡ true → (fs : List (List ℕ)) → Within F fs → Among F fs → greatest_of all fs ≡ Some F
  found whole [] within at = absurd at
  found whole (f ∷ fs) within at = by (all_prefixes all f) refl at (found whole fs within.1)
    where
      by : (b : Bool) → all_prefixes all f ≡ b → (F ≡ f) ⊎ Among F fs → (Among F fs → greatest_of all fs ≡ Some F) → (elim b as (λ b. Option (List ℕ)) [ true ↦ Some f | false ↦ greatest_of all fs ]) ≡ Some F
      by true e h rest = ap Some (sym (same_frame f e within.0))
      by false e (inl is) rest = absurd (apart (sym e ∙ ap (all_prefixes all) (sym is) ∙ whole))
        where
          apart : false ≡ true → ⊥
          apart e = cc
      by false e (inr more) rest = rest more

  none : all_prefixes all F ≡ false → (fs : List (List ℕ)) → Within F fs → greatest_of all fs ≡ None
  none other [] within = refl
  none other (f ∷ fs) within = by (all_prefixes all f) refl (none other fs within.1)
    where
      by : (b : Bool) → all_prefixes all f ≡ b → greatest_of all fs ≡ None → (elim b as (λ b. Option (List ℕ)) [ true ↦ Some f | false ↦ greatest_of all fs ]) ≡ None
      by true e rest = absurd (apart (sym other ∙ ap (all_prefixes all) (same_frame f e within.0) ∙ e))
        where
          apart : false ≡ true → ⊥
          apart e = cc
      by false e rest = rest

-- ---- the longest is among the frames, which are as long at most

longer_bounds : (f g : List ℕ) → (length f ≤ length (longer f g)) × (length g ≤ length (longer f g))
longer_bounds f g = by (nat_lt (length f) (length g)) refl
  where
    by : (b : Bool) → nat_lt (length f) (length g) ≡ b → (length f ≤ length (elim b as (λ b. List ℕ) [ true ↦ g | false ↦ f ])) × (length g ≤ length (elim b as (λ b. List ℕ) [ true ↦ g | false ↦ f ]))
    by true e = let lt : length f < length g = grind (arith, nat_tests) in (omega (arith, lt), omega arith)
    by false e = let le : length g ≤ length f = grind (arith, nat_tests) in (omega arith, le)

longest_first : (f : List ℕ) (gs : List (List ℕ)) → length f ≤ length (longest f gs)
longest_first f [] = omega arith
longest_first f (g ∷ gs) = let a : length f ≤ length (longer f g) = (longer_bounds f g).0 in let b : length (longer f g) ≤ length (longest (longer f g) gs) = longest_first (longer f g) gs in omega (arith, a, b)

longest_within : (f : List ℕ) (gs : List (List ℕ)) → Within (longest f gs) gs
longest_within f [] = tt
longest_within f (g ∷ gs) =
    let a : length g ≤ length (longer f g) = (longer_bounds f g).1 in
    let b : length (longer f g) ≤ length (longest (longer f g) gs) = longest_first (longer f g) gs in
    (omega (arith, a, b), longest_within (longer f g) gs)

longest_among : (f : List ℕ) (gs : List (List ℕ)) → Among (longest f gs) (f ∷ gs)
longest_among f [] = inl refl
longest_among f (g ∷ gs) = by (nat_lt (length f) (length g)) refl (longest_among (longer f g) gs)
  where
    by : (b : Bool) → nat_lt (length f) (length g) ≡ b → Among (longest (longer f g) gs) (longer f g ∷ gs) → Among (longest (longer f g) gs) (f ∷ g ∷ gs)
    by b e (inr more) = inr (inr more)
    by true e (inl is) = inr (inl (is ∙ ap (λ (b : Bool). elim b as (λ b. List ℕ) [ true ↦ g | false ↦ f ]) e))
    by false e (inl is) = inl (is ∙ ap (λ (b : Bool). elim b as (λ b. List ℕ) [ true ↦ g | false ↦ f ]) e)

-- the longest frame is the greatest, if it has all of them as prefixes
pub greatest_is : (f : List ℕ) (gs : List (List ℕ)) → all_prefixes (f ∷ gs) (longest f gs) ≡ true → greatest (f ∷ gs) ≡ Some (longest f gs)
greatest_is f gs e = found (f ∷ gs) (longest f gs) (longest_among f gs) e (f ∷ gs) (longest_first f gs, longest_within f gs) (longest_among f gs)

-- else there is none
pub no_greatest : (f : List ℕ) (gs : List (List ℕ)) → all_prefixes (f ∷ gs) (longest f gs) ≡ false → greatest (f ∷ gs) ≡ None
no_greatest f gs e = none (f ∷ gs) (longest f gs) (longest_among f gs) e (f ∷ gs) (longest_first f gs, longest_within f gs)

-- with the tests of a prefix that were made
module _ (f r : List ℕ) (gs : List (List ℕ)) (at : r ≡ longest f gs) where
  all_are : (b : Bool) → (is_prefix f r && all_prefixes gs r) ≡ b → all_prefixes (f ∷ gs) (longest f gs) ≡ b
  all_are b e = ap (all_prefixes (f ∷ gs)) (sym at) ∙ e

  pub greatest_found : is_prefix f r ≡ true → all_prefixes gs r ≡ true → greatest (f ∷ gs) ≡ Some r
  greatest_found first others = greatest_is f gs (all_are true (ap (λ (b : Bool). b && all_prefixes gs r) first ∙ others)) ∙ ap Some (sym at)

  pub other_first : is_prefix f r ≡ false → greatest (f ∷ gs) ≡ None
  other_first first = no_greatest f gs (all_are false (ap (λ (b : Bool). b && all_prefixes gs r) first))

  pub other_later : is_prefix f r ≡ true → all_prefixes gs r ≡ false → greatest (f ∷ gs) ≡ None
  other_later first others = no_greatest f gs (all_are false (ap (λ (b : Bool). b && all_prefixes gs r) first ∙ others))
