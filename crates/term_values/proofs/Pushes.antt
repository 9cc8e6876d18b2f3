-- Dims of closed indices, pushed one after another.
use Rattle.std.proofs.Common.{◌≡◌, refl, sym, ap, ◌∙◌, ℕ, ◌+◌, ◌-◌, ◌^◌, ◌<◌, ◌≤◌, min, Bool, true, false, ◌&&◌, nat_lt, List, [], ◌∷◌, ◌++◌, length, drop, slice_index_or, Some, None, append_assoc, append-nil, arith}
use Rattle.std.proofs.lemmas.Bool.{false≢true, lt-ltb}
use Rattle.std.proofs.lemmas.List.{drop_all}
use Rattle.core_syntax.specs.declared.index.Index.{Index as Tree}
use Rattle.core_syntax.specs.Fits.{all_below}
use Rattle.core_syntax.specs.Refine.{index_of, indices_of}
use Rattle.core_syntax.specs.Syntax.{Index, Indices, end, more}
use Rattle.core_syntax.proofs.TreeRows.{indices_behind}
use Rattle.term_values.specs.Indices.{Pushed, small}

and_true : (a b : Bool) → a ≡ true → (a && b) ≡ b
and_true a b e = ap (λ (x : Bool). x && b) e

left_true : (a b : Bool) → (a && b) ≡ true → a ≡ true
left_true true b e = refl
left_true false b e = e

right_true : (a b : Bool) → (a && b) ≡ true → b ≡ true
right_true true b e = e
right_true false b e = absurd (false≢true e)

-- the first of two lists is small, so the second tells
below_front : (n : ℕ) (xs ys : List ℕ) → all_below n xs ≡ true → all_below n (xs ++ ys) ≡ all_below n ys
below_front n [] ys e = refl
below_front n (x ∷ xs) ys e =
    and_true (nat_lt x n) (all_below n (xs ++ ys)) (left_true (nat_lt x n) (all_below n xs) e)
    ∙ below_front n xs ys (right_true (nat_lt x n) (all_below n xs) e)

both_false : (a b c : Bool) → (b ≡ false → c ≡ false) → (a && b) ≡ false → (a && c) ≡ false
both_false true b c f e = f e
both_false false b c f e = refl

-- a list with a large number in front is large
above_front : (n : ℕ) (xs ys : List ℕ) → all_below n xs ≡ false → all_below n (xs ++ ys) ≡ false
above_front n [] ys e = absurd (false≢true (sym e))
above_front n (x ∷ xs) ys e = both_false (nat_lt x n) (all_below n xs) (all_below n (xs ++ ys)) (above_front n xs ys) e

-- what is pushed, with what is still behind, is the whole, which is small where that is
abbrev pub Pushing : (Indices → List ℕ) → List ℕ → List ℕ → List Tree → ℕ → Type 0
Pushing F before now xs k =
    (before ++ F (indices_of xs) ≡ now ++ F (indices_of (drop k xs))) × (all_below (2 ^ 32) (F (indices_of xs)) ≡ all_below (2 ^ 32) (F (indices_of (drop k xs))))

-- lists that are joined from one a part
module _ (f : Index → List ℕ) (F : Indices → List ℕ) (none : F end ≡ []) (some : (i : Index) (is : Indices) → F (more i is) ≡ f i ++ F is) where
  behind : (xs : List Tree) (k : ℕ) (d : Tree) → k < length xs → d ≡ slice_index_or xs k d → F (indices_of (drop k xs)) ≡ f (index_of d) ++ F (indices_of (drop (k + 1) xs))
  behind xs k d lt at =
      ap F (indices_behind k xs d lt) ∙ some (index_of (slice_index_or xs k d)) (indices_of (drop (k + 1) xs))
      ∙ ap (λ x. f (index_of x) ++ F (indices_of (drop (k + 1) xs))) (sym at)

  pub pushing_more : (xs : List Tree) (k : ℕ) (d : Tree) (before now next : List ℕ) → k < length xs → d ≡ slice_index_or xs k d → next ≡ now ++ f (index_of d) → all_below (2 ^ 32) (f (index_of d)) ≡ true
      → Pushing F before now xs k → Pushing F before next xs (k + 1)
  pushing_more xs k d before now next lt at e low p =
      let rest = F (indices_of (drop (k + 1) xs)) in (
        p.0 ∙ ap (λ ys. now ++ ys) (behind xs k d lt at) ∙ sym (append_assoc now (f (index_of d)) rest) ∙ ap (λ ys. ys ++ rest) (sym e),
        p.1 ∙ ap (all_below (2 ^ 32)) (behind xs k d lt at) ∙ below_front (2 ^ 32) (f (index_of d)) rest low,
      )

  pub pushing_stops : (xs : List Tree) (k : ℕ) (d : Tree) (before now : List ℕ) → k < length xs → d ≡ slice_index_or xs k d → all_below (2 ^ 32) (f (index_of d)) ≡ false
      → Pushing F before now xs k → all_below (2 ^ 32) (F (indices_of xs)) ≡ false
  pushing_stops xs k d before now lt at high p =
      p.1 ∙ ap (all_below (2 ^ 32)) (behind xs k d lt at) ∙ above_front (2 ^ 32) (f (index_of d)) (F (indices_of (drop (k + 1) xs))) high

  pub pushing_ends : (xs : List Tree) (k : ℕ) (before now : List ℕ) → length xs ≤ k → Pushing F before now xs k → Pushed true before now (F (indices_of xs))
  pushing_ends xs k before now le p =
      let over : F (indices_of (drop k xs)) ≡ [] = ap (λ ys. F (indices_of ys)) (drop_all k xs le) ∙ none in
      (sym (p.0 ∙ ap (λ ys. now ++ ys) over ∙ append-nil now), p.1 ∙ ap (all_below (2 ^ 32)) over)

-- all dims are pushed
pub small_all : (dims ns : List ℕ) → Pushed true [] dims ns → Some dims ≡ small ns
small_all dims ns p = ap (λ (l : List ℕ). Some l) p.0 ∙ sym (ap (λ (b : Bool). elim b [ true ↦ Some ns | false ↦ None ]) p.1)

pub small_none : (dims ns : List ℕ) → Pushed false [] dims ns → None ≡ small ns
small_none dims ns p = sym (ap (λ (b : Bool). elim b [ true ↦ Some ns | false ↦ None ]) p)

-- a small number that a machine's stands for
pub small_value : (d n v : ℕ) → d < 2 ^ 32 → d ≡ n → n ≡ min v (2 ^ 64 - 1) → d ≡ v
small_value d n v small same is = omega (arith, small, same, is)

pub small_one : (d v : ℕ) → d < 2 ^ 32 → d ≡ v → all_below (2 ^ 32) (v ∷ []) ≡ true
small_one d v small is = let low : v < 2 ^ 32 = omega (arith, small, is) in ap (λ (b : Bool). b && true) (lt-ltb v (2 ^ 32) low)
