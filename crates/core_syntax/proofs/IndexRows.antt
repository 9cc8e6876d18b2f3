-- Rows of indices, by computation: m is variable 1, n is variable 0.
use Rattle.std.proofs.Common.{◌≡◌, refl, ℕ, zero, suc, List, [], ◌∷◌, Some, None, codes, arith}
use Rattle.std.proofs.lemmas.Fmt.{decimal_digit}
use Rattle.core_syntax.specs.declared.index.Sort.TheVariants as sort
use Rattle.core_syntax.specs.declared.span.Span.{Span}
use Rattle.core_syntax.specs.Syntax.{Index, Sum, Var, end, more}
use Rattle.core_syntax.specs.Nodes.{number, var, total, vector, joined_shape}
use Rattle.core_syntax.specs.Sorts.{inner_blame}
use Rattle.core_syntax.specs.Value.{Valuation, SameDim, SameShape, IndexEqual, IsPrefix}
use Rattle.core_syntax.specs.Norm.{norm_dim, norm_word, word_tree, index_text, measure_at}

abbrev m : Index
m = var 1

abbrev n : Index
n = var 0

-- m + n and n + m are equal, m + m and n + m aren't
sums : SameDim (total (n ∷ m ∷ [])) (total (m ∷ n ∷ []))
sums v = omega arith

sum_norms : norm_dim (total (n ∷ m ∷ [])) ≡ norm_dim (total (m ∷ n ∷ []))
sum_norms = refl

-- m is 1 and n is 2
abbrev pick : ℕ → ℕ
pick zero = 2
pick (suc k) = 1

abbrev one_two : Valuation
one_two = record { dim = pick; shape = λ k. [] }

apart : {xs ys : List ℕ} → 1 ∷ xs ≡ 2 ∷ ys → ⊥
apart e = grind arith

no_sums : ¬ SameDim (total (m ∷ m ∷ [])) (total (n ∷ m ∷ []))
no_sums h = let e : ◌≡◌ {A = ℕ} 2 3 = h one_two in omega arith

-- the order of dims counts
no_swap : ¬ SameShape (vector (m ∷ n ∷ [])) (vector (n ∷ m ∷ []))
no_swap h = apart (h one_two)

-- nothing in front of (shape 2) gives (shape 2 3), and (shape 2) does in front of (shape 3)
split : IndexEqual [] sort.Shape (joined_shape (vector (number 2 ∷ []) ∷ vector (number 3 ∷ []) ∷ [])) (vector (number 2 ∷ number 3 ∷ []))
split = ((refl, ((refl, (refl, tt)), ((refl, (refl, tt)), tt))), (refl, (refl, (refl, tt))), λ v. refl)

-- (shape) is a prefix of (shape 2)
empty_prefix : IsPrefix [] (vector []) (vector (number 2 ∷ []))
empty_prefix = (vector (number 2 ∷ []), ((refl, ((refl, tt), ((refl, (refl, tt)), tt))), (refl, (refl, tt)), λ v. refl))

-- runs of dims stand together, and constants last
tree_text : index_text 2 (word_tree (norm_word (joined_shape (vector (total (number 2 ∷ m ∷ number 1 ∷ m ∷ []) ∷ number 0 ∷ []) ∷ vector [] ∷ n ∷ [])))) ≡ codes "(++ (shape (+ i0 i0 3) 0) i1)"
tree_text = rw (decimal_digit 0 (omega arith), decimal_digit 1 (omega arith), decimal_digit 3 (omega arith)) refl

-- the limit itself is no refusal, one more is
too_large : measure_at sort.Shape (vector (number 1099511627777 ∷ [])) ≡ Some 13
too_large = refl

large_enough : measure_at sort.Shape (vector (number 1099511627776 ∷ [])) ≡ None
large_enough = refl

-- the sorts of all parts of a node come before what is inside them: the blame of `(+ (+ s) s)` is at the second part
abbrev at_column : ℕ → Span
at_column c = record { from = c; to = c; line = 1; col = c }

outer_first : inner_blame (sort.Shape ∷ []) (Sum (at_column 1) (more (Sum (at_column 4) (more (Var (at_column 7) 0) end)) (more (Var (at_column 10) 0) end))) ≡ Some (14, at_column 10)
outer_first = refl
