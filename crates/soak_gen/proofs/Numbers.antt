-- Writing something for each number below another.
use Rattle.std.proofs.Common.{◌≡◌, ℕ, suc, ◌+◌, ◌-◌, ◌<◌, ◌≤◌, List, [], ◌∷◌, ◌++◌, ap, sym, ◌∙◌, arith, append_assoc}
use Rattle.std.specs.List.{range_with_len}
use Rattle.std.proofs.lemmas.List.{append-nil}

-- the numbers from i on, below n
abbrev pub from : ℕ → ℕ → List ℕ
from i n = range_with_len i (n - i)

one_more : (i n : ℕ) → i < n → from i n ≡ i ∷ from (i + 1) n
one_more i n lt =
    let left : n - i ≡ suc (n - (i + 1)) = omega (arith, lt) in
    ap (range_with_len i) left

module _ (text : ℕ → List ℕ) (all : List ℕ → List ℕ) (more : (k : ℕ) (ks : List ℕ) → all (k ∷ ks) ≡ text k ++ all ks) where
  -- what is written of one number
  pub one_put : (i n : ℕ) (old new whole : List ℕ) → i < n → new ≡ old ++ text i → old ++ all (from i n) ≡ whole → new ++ all (from (i + 1) n) ≡ whole
  one_put i n old new whole lt e so_far =
      ap (λ z. z ++ all (from (i + 1) n)) e
      ∙ append_assoc old (text i) (all (from (i + 1) n))
      ∙ ap (λ z. old ++ z) (sym (more i (from (i + 1) n)))
      ∙ ap (λ (ks : List ℕ). old ++ all ks) (sym (one_more i n lt))
      ∙ so_far

  -- what is written of all
  pub all_put : all [] ≡ [] → (i n : ℕ) (new whole : List ℕ) → n ≤ i → new ++ all (from i n) ≡ whole → new ≡ whole
  all_put none i n new whole le so_far =
      let empty : n - i ≡ 0 = omega (arith, le) in
      sym (append-nil new) ∙ ap (λ z. new ++ z) (sym none) ∙ ap (λ (m : ℕ). new ++ all (range_with_len i m)) (sym empty) ∙ so_far
