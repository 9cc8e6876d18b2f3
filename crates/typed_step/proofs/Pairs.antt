-- Terms that are made of arguments and their ranks, one after another.
use Rattle.std.proofs.Common.{◌≡◌, refl, sym, ap, ◌∙◌, ℕ, zero, suc, ◌+◌, ◌<◌, ◌≤◌, List, [], ◌∷◌, ◌++◌, length, take, drop, get_or, slice_index_or, arith}
use Rattle.std.proofs.lemmas.List.{take_all}
use Rattle.core_syntax.specs.declared.term.TermExpr.{TermExpr}
use Rattle.core_syntax.specs.Lists.{each}
use Rattle.core_syntax.specs.RefineTerms.{term_of}
use Rattle.core_syntax.specs.Rules.{dims_of, lifted, all_lifted}
use Rattle.core_syntax.specs.Typed.{typed_rules, TypedTerm}
use Rattle.typed_step.specs.Frames.{fronts, backs, one_at, cells_at}
use Rattle.naturality.proofs.Eaches.{each_append}

abbrev pub pairs : (ℕ → TermExpr → TypedTerm) → List ℕ → List TermExpr → List TypedTerm
pairs h (k ∷ ks) (t ∷ ts) = h k t ∷ pairs h ks ts
pairs h _ _ = []

module _ (h : ℕ → TermExpr → TypedTerm) where
  pairs_more : (ks : List ℕ) (ts : List TermExpr) (k : ℕ) (t : TermExpr) → length ks ≡ length ts → k < length ts → t ≡ slice_index_or ts k t
      → take (k + 1) (pairs h ks ts) ≡ take k (pairs h ks ts) ++ h (get_or ks k 0) t ∷ []
  pairs_more ks [] k t same lt at = absurd (omega (arith, lt))
  pairs_more [] (u ∷ ts) k t same lt at = absurd (omega (arith, same))
  pairs_more (x ∷ ks) (u ∷ ts) zero t same lt at = ap (λ v. h x v ∷ []) (sym at)
  pairs_more (x ∷ ks) (u ∷ ts) (suc k) t same lt at =
      let next : suc k + 1 ≡ suc (k + 1) = omega arith in
      ap (λ n. take n (pairs h (x ∷ ks) (u ∷ ts))) next ∙ ap (λ l. h x u ∷ l) (pairs_more ks ts k t (omega (arith, same)) (omega (arith, lt)) at)

  pairs_length : (ks : List ℕ) (ts : List TermExpr) → length ks ≡ length ts → length (pairs h ks ts) ≡ length ts
  pairs_length [] [] same = refl
  pairs_length [] (u ∷ ts) same = absurd (omega (arith, same))
  pairs_length (x ∷ ks) [] same = absurd (omega (arith, same))
  pairs_length (x ∷ ks) (u ∷ ts) same = ap (λ n. suc n) (pairs_length ks ts (omega (arith, same)))

  pub pairs_made : (ks : List ℕ) (ts made next : List TermExpr) (k : ℕ) (t x : TermExpr) → length ks ≡ length ts → k < length ts → t ≡ slice_index_or ts k t → next ≡ made ++ x ∷ []
      → term_of x ≡ h (get_or ks k 0) t → each term_of made ≡ take k (pairs h ks ts) → each term_of next ≡ take (k + 1) (pairs h ks ts)
  pairs_made ks ts made next k t x same lt at e one before =
      ap (each term_of) e ∙ sym (each_append term_of made (x ∷ [])) ∙ (λ i. before i ++ one i ∷ []) ∙ sym (pairs_more ks ts k t same lt at)

  pub pairs_end : (ks : List ℕ) (ts : List TermExpr) (k : ℕ) → length ks ≡ length ts → length ts ≤ k → take k (pairs h ks ts) ≡ pairs h ks ts
  pairs_end ks ts k same le = let long = pairs_length ks ts same in take_all k (pairs h ks ts) (omega (arith, long, le))

pub cells_are : (place : ℕ) (ks : List ℕ) (ts : List TermExpr) → pairs (λ k t. one_at place k (term_of t)) ks ts ≡ cells_at place ks (each term_of ts)
cells_are place [] ts = refl
cells_are place (k ∷ ks) [] = refl
cells_are place (k ∷ ks) (t ∷ ts) = ap (λ us. one_at place k (term_of t) ∷ us) (cells_are place ks ts)

-- a value replicated, where its frame has this rank
abbrev pub lifted_at : List ℕ → ℕ → TermExpr → TypedTerm
lifted_at F k t = lifted typed_rules F (take k (dims_of typed_rules (term_of t))) (drop k (dims_of typed_rules (term_of t))) (term_of t)

pub lifts_are : (F ks : List ℕ) (ts : List TermExpr) → pairs (lifted_at F) ks ts
    ≡ all_lifted typed_rules F (fronts ks (each (λ a. dims_of typed_rules (term_of a)) ts)) (backs ks (each (λ a. dims_of typed_rules (term_of a)) ts)) (each term_of ts)
lifts_are F [] ts = refl
lifts_are F (k ∷ ks) [] = refl
lifts_are F (k ∷ ks) (t ∷ ts) = ap (λ us. lifted_at F k t ∷ us) (lifts_are F ks ts)
