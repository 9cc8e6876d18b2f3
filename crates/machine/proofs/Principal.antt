-- The arithmetic of frames.
use Rattle.std.proofs.Common.{◌≡◌, ℕ, zero, suc, ◌*◌, ◌/◌, ◌<◌, ◌&&◌, ◌==◌, refl, ap, sym, subst, ◌∙◌, List, [], ◌∷◌, ◌++◌, length, take, drop, Bool, true, false, Option, Some, None, slice_get, arith}
use Rattle.std.specs.Prelude.{MatchOption}
use Rattle.std.proofs.lemmas.Bool.Decides.{nat_tests}
use Rattle.std.proofs.Math.Nat.{mul_comm}
use Rattle.core_syntax.specs.Lists.{Each, product}
use Rattle.core_syntax.specs.Arrays.{array, is_prefix, all_prefixes, greatest_of}
use Rattle.array_values.specs.Values.{Array}
use Rattle.machine_table.specs.Values.{cells_at}
use Rattle.machine.proofs.Placed.{spread_at}
use Rattle.machine.proofs.Results.{cells_product}
use Rattle.machine.proofs.Rooms.{cells_append}

test_equal : (m : ℕ) → (m == m) ≡ true
test_equal m = grind (arith, nat_tests)

prefix_front : (xs ys : List ℕ) → is_prefix xs (xs ++ ys) ≡ true
prefix_front [] ys = refl
prefix_front (x ∷ xs) ys = ap (λ (b : Bool). b && is_prefix xs (xs ++ ys)) (test_equal x) ∙ prefix_front xs ys

some_places : (m n j : ℕ) → j < m * n → 0 < n
some_places m zero j lt = absurd (omega (arith, lt))
some_places m (suc n) j lt = omega arith

-- the cell at a place of a frame that goes on from the array's own
pub cell_at_place : (f rest c : List ℕ) (a : Array) (j : ℕ) → length a.atoms ≡ product f * product c → j < product (f ++ rest)
    → slice_get (cells_at (f ++ rest) f c a) j ≡ Some (array c (take (product c) (drop (j / product rest * product c) a.atoms)))
cell_at_place f rest c a j full lt =
    let parts : product (f ++ rest) ≡ product f * product rest = sym (cells_product (f ++ rest)) ∙ cells_append f rest ∙ (λ i. cells_product f i * cells_product rest i) in
    spread_at f c (f ++ rest) a.atoms (product rest) (product (f ++ rest)) full (mul_comm (product rest) (product f) ∙ sym parts) refl
    (some_places (product f) (product rest) j (subst (λ n. j < n) parts lt)) (prefix_front f rest) (omega (arith, lt)) j lt

-- the first of frames that has all of these as prefixes
pub first_greatest : (all fs : List (List ℕ)) → MatchOption (greatest_of all fs) (Each (λ F. all_prefixes all F ≡ false) fs) (λ F. ((k : ℕ) × (slice_get fs k ≡ Some F)) × (all_prefixes all F ≡ true))
first_greatest all [] = tt
first_greatest all (f ∷ fs) = by (all_prefixes all f) refl (first_greatest all fs)
  where
    more : (o : Option (List ℕ)) → all_prefixes all f ≡ false → MatchOption o (Each (λ F. all_prefixes all F ≡ false) fs) (λ F. ((k : ℕ) × (slice_get fs k ≡ Some F)) × (all_prefixes all F ≡ true))
        → MatchOption o (Each (λ F. all_prefixes all F ≡ false) (f ∷ fs)) (λ F. ((k : ℕ) × (slice_get (f ∷ fs) k ≡ Some F)) × (all_prefixes all F ≡ true))
    more None e others = (e, others)
    more (Some F) e found = ((suc found.0.0, found.0.1), found.1)

    by : (b : Bool) → all_prefixes all f ≡ b → MatchOption (greatest_of all fs) (Each (λ F. all_prefixes all F ≡ false) fs) (λ F. ((k : ℕ) × (slice_get fs k ≡ Some F)) × (all_prefixes all F ≡ true))
        → MatchOption (elim b as (λ b. Option (List ℕ)) [ true ↦ Some f | false ↦ greatest_of all fs ]) (Each (λ F. all_prefixes all F ≡ false) (f ∷ fs)) (λ F. ((k : ℕ) × (slice_get (f ∷ fs) k ≡ Some F)) × (all_prefixes all F ≡ true))
    by true e rest = ((0, refl), e)
    by false e rest = more (greatest_of all fs) e rest
