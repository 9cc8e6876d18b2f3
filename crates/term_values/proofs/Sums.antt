-- Sums of closed indices, one after another up to a cap.
use Rattle.std.proofs.Common.{◌≡◌, ℕ, zero, suc, ◌+◌, ◌<◌, ◌≤◌, min, List, [], ◌∷◌, length, take, ap, ◌∙◌, arith}
use Rattle.std.specs.Prelude.{slice_index_or}
use Rattle.std.proofs.lemmas.List.{take_all}
use Rattle.core_syntax.specs.declared.index.Index.{Index}
use Rattle.core_syntax.specs.Refine.{index_of, indices_of}
use Rattle.core_syntax.specs.Typed.{closed}
use Rattle.core_syntax.specs.Value.{dim_val, dim_sum}

sum_more : (xs : List Index) (k : ℕ) (d : Index) → k < length xs → dim_sum closed (indices_of (take (k + 1) xs)) ≡ dim_sum closed (indices_of (take k xs)) + dim_val closed (index_of (slice_index_or xs k d))
sum_more [] k d lt = absurd (omega (arith, lt))
sum_more (x ∷ xs) zero d lt = omega arith
sum_more (x ∷ xs) (suc k) d lt =
    let step = sum_more xs k d (omega (arith, lt)) in
    let at : suc k + 1 ≡ suc (k + 1) = omega arith in
    ap (λ n. dim_sum closed (indices_of (take n (x ∷ xs)))) at ∙ ap (λ (n : ℕ). dim_val closed (index_of x) + n) step ∙ omega arith

pub summed_more : (xs : List Index) (k c sum : ℕ) (x : Index) → k < length xs → x ≡ slice_index_or xs k x → sum ≡ min (dim_sum closed (indices_of (take k xs))) c
    → min (sum + min (dim_val closed (index_of x)) c) c ≡ min (dim_sum closed (indices_of (take (k + 1) xs))) c
summed_more xs k c sum x lt at is =
    let more = sum_more xs k x lt in
    let item : dim_val closed (index_of x) ≡ dim_val closed (index_of (slice_index_or xs k x)) = ap (λ y. dim_val closed (index_of y)) at in
    omega (arith, more, item, is)

pub summed_all : (xs : List Index) (k c sum : ℕ) → length xs ≤ k → sum ≡ min (dim_sum closed (indices_of (take k xs))) c → sum ≡ min (dim_sum closed (indices_of xs)) c
summed_all xs k c sum le is = is ∙ ap (λ l. min (dim_sum closed (indices_of l)) c) (take_all k xs le)
