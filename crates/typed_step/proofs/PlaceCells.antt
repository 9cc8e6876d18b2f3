-- The columns of the cells of arguments are their cells place by place.
use Rattle.std.proofs.Common.{◌≡◌, refl, ap, ◌∙◌, ℕ, zero, suc, ◌+◌, ◌*◌, List, [], ◌∷◌, drop, arith}
use Rattle.std.proofs.lemmas.List.{drop-drop}
use Rattle.core_syntax.specs.declared.term.TermExpr.{TermExpr}
use Rattle.core_syntax.specs.Arrays.{array, runs, firsts, rests, columns}
use Rattle.core_syntax.specs.Lists.{each, product}
use Rattle.core_syntax.specs.RefineTerms.{term_of}
use Rattle.core_syntax.specs.Rules.{dims_of, atoms_of, part_of, all_cells}
use Rattle.core_syntax.specs.Typed.{typed_rules, TypedTerm}
use Rattle.typed_step.specs.Frames.{backs, one_at, cells_at, columns_at}

abbrev row : ℕ → ℕ → ℕ → TypedTerm → List TypedTerm
row from n k t =
    let cell = drop k (dims_of typed_rules t) in
    each (part_of typed_rules t) (each (array cell) (runs n (product cell) (drop (from * product cell) (atoms_of typed_rules t))))

abbrev rows : ℕ → ℕ → List ℕ → List TypedTerm → List (List TypedTerm)
rows from n (k ∷ ks) (t ∷ ts) = row from n k t ∷ rows from n ks ts
rows from n _ _ = []

next_run : {A : Type 0} (from size : ℕ) (xs : List A) → drop size (drop (from * size) xs) ≡ drop (suc from * size) xs
next_run from size xs = drop-drop size (from * size) xs ∙ ap (λ k. drop k xs) (at from size)
  where
    at : (from size : ℕ) → from * size + size ≡ suc from * size
    at from size = grind arith

rows_first : (from n : ℕ) (ks : List ℕ) (ts : List TypedTerm) → firsts (rows from (suc n) ks ts) ≡ cells_at from ks ts
rows_first from n [] ts = refl
rows_first from n (k ∷ ks) [] = refl
rows_first from n (k ∷ ks) (t ∷ ts) = ap (λ us. one_at from k t ∷ us) (rows_first from n ks ts)

rows_rest : (from n : ℕ) (ks : List ℕ) (ts : List TypedTerm) → rests (rows from (suc n) ks ts) ≡ rows (suc from) n ks ts
rows_rest from n [] ts = refl
rows_rest from n (k ∷ ks) [] = refl
rows_rest from n (k ∷ ks) (t ∷ ts) =
    let cell = drop k (dims_of typed_rules t) in
    (λ i. each (part_of typed_rules t) (each (array cell) (runs n (product cell) (next_run from (product cell) (atoms_of typed_rules t) i))) ∷ rows_rest from n ks ts i)

rows_columns : (from n : ℕ) (ks : List ℕ) (ts : List TypedTerm) → columns n (rows from n ks ts) ≡ columns_at from n ks ts
rows_columns from zero ks ts = refl
rows_columns from (suc n) ks ts =
    (λ i. rows_first from n ks ts i ∷ columns n (rows_rest from n ks ts i)) ∙ ap (λ us. cells_at from ks ts ∷ us) (rows_columns (suc from) n ks ts)

rows_are : (F ks : List ℕ) (ts : List TermExpr) → all_cells typed_rules F (backs ks (each (λ a. dims_of typed_rules (term_of a)) ts)) (each term_of ts) ≡ rows 0 (product F) ks (each term_of ts)
rows_are F [] ts = refl
rows_are F (k ∷ ks) [] = refl
rows_are F (k ∷ ks) (t ∷ ts) =
    let cell = drop k (dims_of typed_rules (term_of t)) in
    let none : 0 ≡ 0 * product cell = omega arith in
    (λ i. each (part_of typed_rules (term_of t)) (each (array cell) (runs (product F) (product cell) (drop (none i) (atoms_of typed_rules (term_of t))))) ∷ rows_are F ks ts i)

pub columns_are : (F ks : List ℕ) (ts : List TermExpr)
    → columns (product F) (all_cells typed_rules F (backs ks (each (λ a. dims_of typed_rules (term_of a)) ts)) (each term_of ts)) ≡ columns_at 0 (product F) ks (each term_of ts)
columns_are F ks ts = ap (columns (product F)) (rows_are F ks ts) ∙ rows_columns 0 (product F) ks (each term_of ts)
