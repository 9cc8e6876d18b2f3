-- The greatest of frames is the longest, if all are its prefixes.
use Rattle.std.proofs.Common.{◌≡◌, ℕ, ◌≤◌, ◌<◌, inl, inr, ◌⊎◌, List, [], ◌∷◌, ◌++◌, length, take, drop, eqb, Bool, true, false, ◌&&◌, Option, Some, None, ap, sym, subst, ◌∙◌, refl, arith, ⊎_elim, length-append}
use Rattle.std.proofs.lemmas.Bool.{false≢true}
use Rattle.std.proofs.lemmas.Bool.Decides.{Decides-eqb}
use Rattle.std.proofs.lemmas.List.{append-nil, nil_from_length}
use Rattle.std.proofs.lemmas.Slice.Eq.{starts_is}
use Rattle.core_syntax.specs.Arrays.{is_prefix, all_prefixes, greatest_of, greatest}
use Rattle.std.specs.Cmp.Lexicographic.{pointwise}
use Rattle.typed_step.specs.Frames.{IsOneOf, IsLongest}

pub true_or_false : (b : Bool) → (b ≡ true) ⊎ (b ≡ false)
true_or_false true = inl refl
true_or_false false = inr refl

as_pointwise : (f g : List ℕ) → is_prefix f g ≡ pointwise eqb f (take (length f) g)
as_pointwise [] g = refl
as_pointwise (x ∷ xs) [] = refl
as_pointwise (x ∷ xs) (y ∷ ys) = ap (λ (b : Bool). eqb x y && b) (as_pointwise xs ys)

prefix_is : (f g : List ℕ) → is_prefix f g ≡ true → g ≡ f ++ drop (length f) g
prefix_is f g e = (starts_is Decides-eqb g f (is_prefix f g) (as_pointwise f g)).0 e

-- what a test of a slice says
pub starts_prefix : (r : Bool) (f g : List ℕ) → r ≡ pointwise eqb f (take (length f) g) → r ≡ is_prefix f g
starts_prefix r f g e = e ∙ sym (as_pointwise f g)

-- one that is a prefix of one that isn't longer is the same
prefix_same : (f g : List ℕ) → is_prefix f g ≡ true → length g ≤ length f → g ≡ f
prefix_same f g p le =
    let a = prefix_is f g p in
    let none : drop (length f) g ≡ [] = nil_from_length _ (omega (arith, ap length a, length-append f (drop (length f) g), le)) in
    a ∙ ap (λ l. f ++ l) none ∙ append-nil f

and_left : (a b : Bool) → (a && b) ≡ true → a ≡ true
and_left true b e = refl
and_left false b e = e

and_right : (a b : Bool) → (a && b) ≡ true → b ≡ true
and_right true b e = e
and_right false b e = absurd (false≢true e)

and_both : (a b : Bool) → a ≡ true → b ≡ true → (a && b) ≡ true
and_both a b p q = ap (λ (x : Bool). x && b) p ∙ q

all_at : (gs : List (List ℕ)) (f g : List ℕ) → all_prefixes gs f ≡ true → IsOneOf g gs → is_prefix g f ≡ true
all_at [] f g e i = absurd i
all_at (h ∷ gs) f g e (inl p) = ap (λ (l : List ℕ). is_prefix l f) p ∙ and_left (is_prefix h f) (all_prefixes gs f) e
all_at (h ∷ gs) f g e (inr i) = all_at gs f g (and_right (is_prefix h f) (all_prefixes gs f) e) i

abbrev found : List (List ℕ) → List ℕ → List (List ℕ) → Bool → Option (List ℕ)
found all f fs b = elim b [ true ↦ Some f | false ↦ greatest_of all fs ]

-- one of these that has all as prefixes is the longest
is_longest : (all : List (List ℕ)) (best f : List ℕ) → IsLongest best all → IsOneOf f all → all_prefixes all f ≡ true → f ≡ best
is_longest all best f long i t = prefix_same best f (all_at all f best t long.0) (long.1 f i)

longest_is : (all fs : List (List ℕ)) (best : List ℕ) → all_prefixes all best ≡ true → IsLongest best all → IsOneOf best fs → ((g : List ℕ) → IsOneOf g fs → IsOneOf g all) → greatest_of all fs ≡ Some best
longest_is all [] best e long i sub = absurd i
longest_is all (f ∷ fs) best e long i sub =
    ⊎_elim
    (λ t. ap (found all f fs) t ∙ ap (λ (l : List ℕ). Some l) (is_longest all best f long (sub f (inl refl)) t))
    (λ t.
    let other : best ≡ f → ⊥ = λ same. false≢true (sym t ∙ ap (all_prefixes all) (sym same) ∙ e) in
    ap (found all f fs) t ∙ longest_is all fs best e long (⊎_elim (λ p. absurd (other p)) (λ q. q) i) (λ g j. sub g (inr j)))
    (true_or_false (all_prefixes all f))

none_is : (all fs : List (List ℕ)) (best : List ℕ) → all_prefixes all best ≡ false → IsLongest best all → ((g : List ℕ) → IsOneOf g fs → IsOneOf g all) → greatest_of all fs ≡ None
none_is all [] best e long sub = refl
none_is all (f ∷ fs) best e long sub =
    ⊎_elim
    (λ t. absurd (false≢true (sym e ∙ ap (all_prefixes all) (sym (is_longest all best f long (sub f (inl refl)) t)) ∙ t)))
    (λ t. ap (found all f fs) t ∙ none_is all fs best e long (λ g j. sub g (inr j)))
    (true_or_false (all_prefixes all f))

-- the longest is the greatest where all are its prefixes, and else there is none
pub greatest_found : (all : List (List ℕ)) (best : List ℕ) → IsLongest best all → all_prefixes all best ≡ true → greatest all ≡ Some best
greatest_found all best long e = longest_is all all best e long long.0 (λ g i. i)

pub greatest_none : (all : List (List ℕ)) (best : List ℕ) → IsLongest best all → all_prefixes all best ≡ false → greatest all ≡ None
greatest_none all best long e = none_is all all best e long (λ g i. i)

-- the first alone
pub longest_first : (f : List ℕ) → IsLongest f (f ∷ [])
longest_first f = (inl refl, λ g i. ⊎_elim (λ p. omega (arith, ap length p)) (λ (n : ⊥). absurd n) i)

one_more : (f g : List ℕ) (gs : List (List ℕ)) → IsOneOf f gs → IsOneOf f (gs ++ g ∷ [])
one_more f g [] i = absurd i
one_more f g (h ∷ gs) (inl p) = inl p
one_more f g (h ∷ gs) (inr i) = inr (one_more f g gs i)

last_one : (g : List ℕ) (gs : List (List ℕ)) → IsOneOf g (gs ++ g ∷ [])
last_one g [] = inl refl
last_one g (h ∷ gs) = inr (last_one g gs)

either_one : (f g : List ℕ) (gs : List (List ℕ)) → IsOneOf f (gs ++ g ∷ []) → IsOneOf f gs ⊎ (f ≡ g)
either_one f g [] (inl p) = inr p
either_one f g [] (inr i) = absurd i
either_one f g (h ∷ gs) (inl p) = inl (inl p)
either_one f g (h ∷ gs) (inr i) = ⊎_elim (λ j. inl (inr j)) (λ p. inr p) (either_one f g gs i)

-- one more, which is longer or isn't
pub longest_more : (f g : List ℕ) (gs : List (List ℕ)) → length f < length g → IsLongest f gs → IsLongest g (gs ++ g ∷ [])
longest_more f g gs lt long =
    (last_one g gs, λ h i. ⊎_elim (λ j. let le = long.1 h j in omega (arith, le, lt)) (λ p. omega (arith, ap length p)) (either_one h g gs i))

pub longest_stays : (f g : List ℕ) (gs : List (List ℕ)) → length g ≤ length f → IsLongest f gs → IsLongest f (gs ++ g ∷ [])
longest_stays f g gs le long =
    (one_more f g gs long.0, λ h i. ⊎_elim (λ j. long.1 h j) (λ p. omega (arith, ap length p, le)) (either_one h g gs i))

-- the same where the list goes on by a frame
pub longer_next : (f g h d : List ℕ) (gs next : List (List ℕ)) → g ≡ h → next ≡ gs ++ h ∷ [] → length f < length g → IsLongest f (d ∷ gs) → IsLongest g (d ∷ next)
longer_next f g h d gs next e n lt long =
    subst (λ l. IsLongest g (d ∷ l)) (sym n) (subst (λ x. IsLongest g ((d ∷ gs) ++ x ∷ [])) e (longest_more f g (d ∷ gs) lt long))

pub stays_next : (f g h d : List ℕ) (gs next : List (List ℕ)) → g ≡ h → next ≡ gs ++ h ∷ [] → length g ≤ length f → IsLongest f (d ∷ gs) → IsLongest f (d ∷ next)
stays_next f g h d gs next e n le long =
    subst (λ l. IsLongest f (d ∷ l)) (sym n) (subst (λ x. IsLongest f ((d ∷ gs) ++ x ∷ [])) e (longest_stays f g (d ∷ gs) le long))

-- a test whether one slice starts with another
pub is_front : (r : Bool) (g d f : List ℕ) → r ≡ pointwise eqb g (take (length g) f) → g ≡ d → is_prefix d f ≡ r
is_front r g d f e s = ap (λ (h : List ℕ). is_prefix h f) (sym s) ∙ as_pointwise g f ∙ sym e
