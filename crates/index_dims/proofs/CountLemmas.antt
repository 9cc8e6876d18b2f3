-- What counting variables keeps, and that it comes to the normal form.
use Rattle.std.proofs.Common.{◌≡◌, ℕ, ◌+◌, List, [], ◌∷◌, ◌++◌, length, sum_by, refl, sym, ap, ◌∙◌, arith}
use Rattle.std.specs.List.{flat_map}
use Rattle.std.specs.List.Sorted.{IsPermutation}
use Rattle.std.proofs.lemmas.List.Sorted.{IsPermutation-refl, sum_by-IsPermutation}
use Rattle.std.proofs.lemmas.List.Sums.{sum_by-cons}
use Rattle.core_syntax.specs.declared.index.Index.{Index as Tree}
use Rattle.core_syntax.specs.declared.norm.Coef.{Coef}
use Rattle.core_syntax.specs.Syntax.{Index, Num, Var, Sum, Dims, Join, Indices, end, more}
use Rattle.core_syntax.specs.Refine.{index_of, indices_of}
use Rattle.core_syntax.specs.Value.{Valuation}
use Rattle.core_syntax.specs.NormValue.{coefs_value}
use Rattle.core_syntax.specs.Linear.{IsAscending, coefs_total, dim_size}
use Rattle.core_syntax.specs.Norm.{add_coef, norm_dim, norm_sum}
use Rattle.core_syntax.proofs.LinearLemmas.{same_coefs}
use Rattle.core_syntax.proofs.NormLemmas.{IsAscending-add_coef, coefs_total-add_coef, IsNormal-norm}
use Rattle.core_syntax.proofs.NormValues.{add_coef_value, add_coefs_value}
use Rattle.index_dims.specs.Counting.{variables_of, variables_in, count_all}

-- the values of the variables, added up
abbrev total_value : Valuation → List ℕ → ℕ
total_value v [] = 0
total_value v (k ∷ ks) = v.dim k + total_value v ks

total_value-sum_by : (v : Valuation) (ks : List ℕ) → total_value v ks ≡ sum_by v.dim ks
total_value-sum_by v [] = refl
total_value-sum_by v (k ∷ ks) = ap (λ n. v.dim k + n) (total_value-sum_by v ks) ∙ sym (sum_by-cons v.dim k ks)

-- in any order
total_value-permutation : (v : Valuation) (ks ls : List ℕ) → IsPermutation ks ls → total_value v ls ≡ total_value v ks
total_value-permutation v ks ls p = total_value-sum_by v ls ∙ sum_by-IsPermutation v.dim ks ls p ∙ sym (total_value-sum_by v ks)

total_value-append : (v : Valuation) (xs ys : List ℕ) → total_value v (xs ++ ys) ≡ total_value v xs + total_value v ys
total_value-append v [] ys = omega arith
total_value-append v (x ∷ xs) ys = omega (arith, total_value-append v xs ys)

coefs_value-count_all : (v : Valuation) (ks : List ℕ) (cs : List Coef) →
    coefs_value v (count_all ks cs) ≡ total_value v ks + coefs_value v cs
coefs_value-count_all v [] cs = omega arith
coefs_value-count_all v (k ∷ ks) cs = omega (arith, coefs_value-count_all v ks (add_coef k 1 cs), add_coef_value v k 1 cs)

mutual
  variables_value : (v : Valuation) (i : Index) → coefs_value v (norm_dim i).coefs ≡ total_value v (variables_of i)
  variables_value v (Num at n) = refl
  variables_value v (Var at k) = omega arith
  variables_value v (Sum at is) = variables_in_value v is
  variables_value v (Dims at is) = refl
  variables_value v (Join at is) = refl

  variables_in_value : (v : Valuation) (is : Indices) → coefs_value v (norm_sum is).coefs ≡ total_value v (variables_in is)
  variables_in_value v end = refl
  variables_in_value v (more i is) =
      omega (arith, add_coefs_value v (norm_dim i).coefs (norm_sum is).coefs, variables_value v i, variables_in_value v is, total_value-append v (variables_of i) (variables_in is))

pub IsAscending-count_all : (ks : List ℕ) (cs : List Coef) → IsAscending 0 cs → IsAscending 0 (count_all ks cs)
IsAscending-count_all [] cs h = h
IsAscending-count_all (k ∷ ks) cs h = IsAscending-count_all ks (add_coef k 1 cs) (IsAscending-add_coef 0 k 1 cs (omega arith) (omega arith) h)

-- the variables, counted in any order, are the coefficients of the normal form
pub counted : (i : Index) (ks : List ℕ) → IsPermutation (variables_of i) ks → count_all ks [] ≡ (norm_dim i).coefs
counted i ks p =
    same_coefs 0 _ _ (IsAscending-count_all ks [] tt) (IsNormal-norm i)
    (λ v. omega (arith, coefs_value-count_all v ks [], variables_value v i, total_value-permutation v (variables_of i) ks p))

pub coefs_total-count_all : (ks : List ℕ) (cs : List Coef) → coefs_total (count_all ks cs) ≡ length ks + coefs_total cs
coefs_total-count_all [] cs = omega arith
coefs_total-count_all (k ∷ ks) cs = omega (arith, coefs_total-count_all ks (add_coef k 1 cs), coefs_total-add_coef k 1 cs)

-- the size counts the variables
pub dim_size-norm : (i : Index) → dim_size (norm_dim i) ≡ 1 + length (variables_of i)
dim_size-norm i = omega (arith, coefs_total-count_all (variables_of i) [], ap coefs_total (counted i (variables_of i) (IsPermutation-refl (variables_of i))))

abbrev pub tree_variables : Tree → List ℕ
tree_variables j = variables_of (index_of j)

pub variables_parts : (parts : List Tree) → variables_in (indices_of parts) ≡ flat_map tree_variables parts
variables_parts [] = refl
variables_parts (j ∷ js) = ap (λ ks. variables_of (index_of j) ++ ks) (variables_parts js)
