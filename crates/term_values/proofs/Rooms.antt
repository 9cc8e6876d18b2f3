-- Where an array has room for the dims of a frame and those of its first cell.
use Rattle.std.proofs.Common.{◌≡◌, refl, sym, ◌∙◌, ap, ℕ, suc, ◌+◌, ◌*◌, ◌^◌, ◌<◌, ◌≤◌, min, Bool, true, List, [], ◌∷◌, ◌++◌, length, arith, length-append, ⊎_elim}
use Rattle.std.proofs.lemmas.Bool.{cases_lt, le-leb, lt-leb, lt-ltb}
use Rattle.std.proofs.Math.Nat.{mul_comm}
use Rattle.std.specs.Prelude.{◌&&◌, nat_le, slice_index_or}
use Rattle.core_syntax.specs.declared.term.TermExpr.{TermExpr}
use Rattle.core_syntax.specs.Fits.{all_below, forms}
use Rattle.core_syntax.specs.Lists.{product}
use Rattle.core_syntax.specs.RefineTerms.{term_of, terms_of}
use Rattle.core_syntax.specs.Rules.{dims_of}
use Rattle.core_syntax.specs.Typed.{typed_rules}
use Rattle.term_values.specs.Rooms.{FirstHasRoom}
use Rattle.term_values.proofs.Products.{product_joined, capped}

-- each item is below a number
abbrev pub EachBelow : ℕ → List ℕ → Type 0
EachBelow n ds = (i : ℕ) → slice_index_or ds i 0 < n

below_is : (n : ℕ) (ds : List ℕ) → EachBelow n ds → all_below n ds ≡ true
below_is n [] f = refl
below_is n (d ∷ ds) f = ap (λ (b : Bool). b && all_below n ds) (lt-ltb d n (f 0)) ∙ below_is n ds (λ i. f (suc i))

joined_below : (n : ℕ) (ds es : List ℕ) → EachBelow n ds → EachBelow n es → all_below n (ds ++ es) ≡ true
joined_below n [] es f g = below_is n es g
joined_below n (d ∷ ds) es f g = ap (λ (b : Bool). b && all_below n (ds ++ es)) (lt-ltb d n (f 0)) ∙ joined_below n ds es (λ i. f (suc i)) g

-- numbers that a cap above a bound doesn't tell apart keep to the bound together
same_bound : (x y c : ℕ) → min x (c + 1) ≡ min y (c + 1) → nat_le x c ≡ nat_le y c
same_bound x y c e = ⊎_elim above below (cases_lt c x)
  where
    above : c < x → nat_le x c ≡ nat_le y c
    above lt = lt-leb x c lt ∙ sym (lt-leb y c (omega (arith, lt, e)))

    below : x ≤ c → nat_le x c ≡ nat_le y c
    below le = le-leb x c le ∙ sym (le-leb y c (omega (arith, le, e)))

-- a cap on both factors changes nothing of the capped product
both_capped : (p q c : ℕ) → min (min p c * min q c) c ≡ min (p * q) c
both_capped p q c =
    capped p c (min q c)
    ∙ ap (λ n. min n c) (mul_comm p (min q c))
    ∙ capped q c p
    ∙ ap (λ n. min n c) (mul_comm q p)

-- the test of the dims of a frame and of a cell
pub joined_forms : (frame cell : List ℕ) (n m : ℕ) → EachBelow (2 ^ 32) frame → EachBelow (2 ^ 32) cell → length frame + length cell ≤ 64
    → n ≡ min (product frame) (2 ^ 24 + 1) → m ≡ min (product cell) (2 ^ 24 + 1) → nat_le (n * m) (2 ^ 24) ≡ forms (frame ++ cell)
joined_forms frame cell n m f g le e h =
    let same : min (product (frame ++ cell)) (2 ^ 24 + 1) ≡ min (n * m) (2 ^ 24 + 1) =
    ap (λ x. min x (2 ^ 24 + 1)) (product_joined frame cell) ∙ sym (both_capped (product frame) (product cell) (2 ^ 24 + 1)) ∙ sym (λ i. min (e i * h i) (2 ^ 24 + 1)) in
    let long : length (frame ++ cell) ≤ 64 = let same' = length-append frame cell in omega (arith, le, same') in
    sym
    (ap (λ (b : Bool). b && nat_le (length (frame ++ cell)) 64 && nat_le (product (frame ++ cell)) (2 ^ 24)) (joined_below (2 ^ 32) frame cell f g)
    ∙ ap (λ (b : Bool). b && nat_le (product (frame ++ cell)) (2 ^ 24)) (le-leb (length (frame ++ cell)) 64 long)
    ∙ same_bound (product (frame ++ cell)) (n * m) (2 ^ 24) same)

-- what the test says of a frame and its first cell
pub first_has_room : (frame cell : List ℕ) (cells : List TermExpr) (first : TermExpr) (b : Bool) → 1 ≤ length cells → first ≡ slice_index_or cells 0 first → cell ≡ dims_of typed_rules (term_of first) → b ≡ forms (frame ++ cell)
    → FirstHasRoom frame (terms_of cells) b
first_has_room frame cell [] first b le at d e = absurd (omega (arith, le))
first_has_room frame cell (t ∷ ts) first b le at d e = e ∙ ap (λ x. forms (frame ++ x)) (d ∙ ap (λ x. dims_of typed_rules (term_of x)) at)
