-- An array can't have the dims of a frame and of a cell of which one is no number of 32 bits.
use Rattle.std.proofs.Common.{◌≡◌, refl, sym, ap, ℕ, ◌^◌, Bool, true, false, List, [], ◌∷◌, ◌++◌, length, Option, Some, None}
use Rattle.std.specs.Prelude.{◌&&◌, nat_lt, nat_le}
use Rattle.core_syntax.specs.declared.errors.TrapKind.TheVariants as trap
use Rattle.core_syntax.specs.Fits.{all_below, forms}
use Rattle.core_syntax.specs.Lists.{product}
use Rattle.core_syntax.specs.Move.{Move, Goes, Trapped}
use Rattle.core_syntax.specs.Rules.{goes_empty}
use Rattle.core_syntax.specs.Syntax.{Ty}
use Rattle.core_syntax.specs.Terms.{TNoAtoms}
use Rattle.core_syntax.specs.Typed.{typed_rules, TypedTerm}
use Rattle.term_values.specs.Indices.{small}

none_small : (b : Bool) (ns : List ℕ) → None ≡ elim b as (λ b. Option (List ℕ)) [ true ↦ Some ns | false ↦ None ] → b ≡ false
none_small true ns e = absurd (cc)
none_small false ns e = refl

and_false : (a b : Bool) → b ≡ false → (a && b) ≡ false
and_false true b e = e
and_false false b e = refl

-- a large number among the last dims is one among all
large_joined : (n : ℕ) (xs ys : List ℕ) → all_below n ys ≡ false → all_below n (xs ++ ys) ≡ false
large_joined n [] ys e = e
large_joined n (x ∷ xs) ys e = and_false (nat_lt x n) (all_below n (xs ++ ys)) (large_joined n xs ys e)

no_forms : (dims : List ℕ) → all_below (2 ^ 32) dims ≡ false → forms dims ≡ false
no_forms dims e = ap (λ (b : Bool). b && nat_le (length dims) 64 && nat_le (product dims) (2 ^ 24)) e

abbrev empty_if : Bool → List ℕ → Ty → Move TypedTerm
empty_if b dims n = elim b [ true ↦ Goes (TNoAtoms dims n) | false ↦ Trapped trap.Size ]

pub empty_large : (frame cell : List ℕ) (n : Ty) → None ≡ small cell → Trapped trap.Size ≡ goes_empty typed_rules (frame ++ cell) n
empty_large frame cell n e =
    sym (ap (λ (b : Bool). empty_if b (frame ++ cell) n) (no_forms (frame ++ cell) (large_joined (2 ^ 32) frame cell (none_small (all_below (2 ^ 32) cell) cell e))))
