-- The frames of arguments, one argument after another.
use Rattle.std.proofs.Common.{◌≡◌, refl, sym, ap, ◌∙◌, ℕ, zero, suc, ◌+◌, ◌<◌, ◌≤◌, List, [], ◌∷◌, ◌++◌, length, take, drop, get_or, slice_index_or, arith}
use Rattle.std.proofs.lemmas.List.{drop_all, take_all}
use Rattle.core_syntax.specs.declared.term.TermExpr.{TermExpr}
use Rattle.core_syntax.specs.Lists.{each}
use Rattle.core_syntax.specs.RefineTerms.{term_of}
use Rattle.core_syntax.specs.Rules.{dims_of}
use Rattle.core_syntax.specs.Typed.{typed_rules}
use Rattle.typed_step.specs.Frames.{fronts}

abbrev D : TermExpr → List ℕ
D t = dims_of typed_rules (term_of t)

abbrev pub fronts_of : List ℕ → List TermExpr → List (List ℕ)
fronts_of ks ts = fronts ks (each (λ a. dims_of typed_rules (term_of a)) ts)

pub fronts_behind : (ks : List ℕ) (ts : List TermExpr) (k : ℕ) (t : TermExpr) → length ks ≡ length ts → k < length ts → t ≡ slice_index_or ts k t
    → drop k (fronts_of ks ts) ≡ take (get_or ks k 0) (D t) ∷ drop (k + 1) (fronts_of ks ts)
fronts_behind ks [] k t same lt at = absurd (omega (arith, lt))
fronts_behind [] (u ∷ ts) k t same lt at = absurd (omega (arith, same))
fronts_behind (x ∷ ks) (u ∷ ts) zero t same lt at = ap (λ v. take x (D v) ∷ fronts_of ks ts) (sym at)
fronts_behind (x ∷ ks) (u ∷ ts) (suc k) t same lt at =
    let next : suc k + 1 ≡ suc (k + 1) = omega arith in
    fronts_behind ks ts k t (omega (arith, same)) (omega (arith, lt)) at ∙ ap (λ n. take (get_or ks k 0) (D t) ∷ drop n (fronts_of (x ∷ ks) (u ∷ ts))) (sym next)

pub fronts_length : (ks : List ℕ) (ts : List TermExpr) → length ks ≡ length ts → length (fronts_of ks ts) ≡ length ts
fronts_length [] [] same = refl
fronts_length [] (u ∷ ts) same = absurd (omega (arith, same))
fronts_length (x ∷ ks) [] same = absurd (omega (arith, same))
fronts_length (x ∷ ks) (u ∷ ts) same = ap (λ n. suc n) (fronts_length ks ts (omega (arith, same)))

pub fronts_over : (ks : List ℕ) (ts : List TermExpr) (k : ℕ) → length ks ≡ length ts → length ts ≤ k → drop k (fronts_of ks ts) ≡ []
fronts_over ks ts k same le = let long = fronts_length ks ts same in drop_all k (fronts_of ks ts) (omega (arith, long, le))

-- and one more taken
pub fronts_more : (ks : List ℕ) (ts : List TermExpr) (k : ℕ) (t : TermExpr) → length ks ≡ length ts → k < length ts → t ≡ slice_index_or ts k t
    → take (k + 1) (fronts_of ks ts) ≡ take k (fronts_of ks ts) ++ take (get_or ks k 0) (D t) ∷ []
fronts_more ks [] k t same lt at = absurd (omega (arith, lt))
fronts_more [] (u ∷ ts) k t same lt at = absurd (omega (arith, same))
fronts_more (x ∷ ks) (u ∷ ts) zero t same lt at = ap (λ v. take x (D v) ∷ []) (sym at)
fronts_more (x ∷ ks) (u ∷ ts) (suc k) t same lt at =
    let next : suc k + 1 ≡ suc (k + 1) = omega arith in
    ap (λ n. take n (fronts_of (x ∷ ks) (u ∷ ts))) next ∙ ap (λ l. take x (D u) ∷ l) (fronts_more ks ts k t (omega (arith, same)) (omega (arith, lt)) at)

pub fronts_all : (ks : List ℕ) (ts : List TermExpr) (k : ℕ) → length ks ≡ length ts → length ts ≤ k → take k (fronts_of ks ts) ≡ fronts_of ks ts
fronts_all ks ts k same le = let long = fronts_length ks ts same in take_all k (fronts_of ks ts) (omega (arith, long, le))
