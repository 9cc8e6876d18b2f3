-- The measures of an index in which indices are put.
use Rattle.std.proofs.Common.{◌≡◌, ◌∙◌, refl, sym, ap, ℕ, zero, suc, ◌+◌, arith, List, [], ◌∷◌, ◌++◌, Bool, true, false, ◌||◌, nat_lt}
use mathlib.Core.Path.{fun_ext}
use Rattle.core_syntax.specs.declared.norm.Letter.{Letter}
use Rattle.core_syntax.specs.Syntax.{Index, Num, Var, Sum, Dims, Join, Indices, end, more}
use Rattle.core_syntax.specs.Limits.{largest_number}
use Rattle.core_syntax.specs.Linear.{coefs_total}
use Rattle.core_syntax.specs.Word.{letter_size, letters_size}
use Rattle.core_syntax.specs.Norm.{norm_dim, norm_sum, norm_word, norm_letters, norm_words, has_large, is_large}
use Rattle.core_syntax.specs.Subst.{Fate, Keep, Put, Fates, moved, under, under_n, in_place, index_renamed, indices_renamed, index_under, index_put, indices_put, indices_under, same}
use Rattle.core_syntax.proofs.NormLemmas.{coefs_total-add_coefs}
use Rattle.type_equal.specs.declared.counting.Count.{Count}
use Rattle.type_equal.specs.Counted.{count_of, kept_count, as_it_is, put_constant, put_constants, put_variables, put_all_variables, put_dims, put_letters, put_all_letters, put_large_dims, put_large, put_any_large}

letters_append : (a b : List Letter) → letters_size (a ++ b) ≡ letters_size a + letters_size b
letters_append [] b = omega arith
letters_append (l ∷ a) b = plus (letter_size l) _ _ _ (letters_append a b)
  where
    plus : (n x y z : ℕ) → x ≡ y + z → n + x ≡ (n + y) + z
    plus n x y z e = omega (arith, e)

or_assoc : (a b c : Bool) → (a || (b || c)) ≡ ((a || b) || c)
or_assoc true b c = refl
or_assoc false b c = refl

large_append : (a b : List Letter) → has_large (a ++ b) ≡ (has_large a || has_large b)
large_append [] b = refl
large_append (Rattle.core_syntax.specs.declared.norm.Letter.TheVariants.Dim d ∷ a) b = ap (λ x. is_large d || x) (large_append a b) ∙ or_assoc (is_large d) (has_large a) (has_large b)
large_append (Rattle.core_syntax.specs.declared.norm.Letter.TheVariants.Var k ∷ a) b = large_append a b

-- the count of what is put
abbrev pub counted : Fate Index → Fate Count
counted (Keep k) = Keep k
counted (Put i) = Put (count_of i)

abbrev pub each_count : Fates Index → ℕ → Count
each_count σ k = in_place kept_count (counted (σ k))

module _ (σ : Fates Index) where
  at_constant : (at : _) (f : Fate Index) → (norm_dim (in_place (Var at) f)).constant ≡ (in_place kept_count (counted f)).constant
  at_constant at (Keep k) = refl
  at_constant at (Put i) = refl

  mutual
    constant_put : (i : Index) → (norm_dim (index_put σ i)).constant ≡ put_constant (each_count σ) i
    constant_put (Num at n) = refl
    constant_put (Var at k) = at_constant at (σ k)
    constant_put (Sum at is) = constants_put is
    constant_put (Dims at is) = refl
    constant_put (Join at is) = refl

    constants_put : (is : Indices) → (norm_sum (indices_put σ is)).constant ≡ put_constants (each_count σ) is
    constants_put end = refl
    constants_put (more i is) = λ j. constant_put i j + constants_put is j

  at_variables : (at : _) (f : Fate Index) → coefs_total (norm_dim (in_place (Var at) f)).coefs ≡ (in_place kept_count (counted f)).variables
  at_variables at (Keep k) = refl
  at_variables at (Put i) = refl

  mutual
    variables_put : (i : Index) → coefs_total (norm_dim (index_put σ i)).coefs ≡ put_variables (each_count σ) i
    variables_put (Num at n) = refl
    variables_put (Var at k) = at_variables at (σ k)
    variables_put (Sum at is) = all_variables_put is
    variables_put (Dims at is) = refl
    variables_put (Join at is) = refl

    all_variables_put : (is : Indices) → coefs_total (norm_sum (indices_put σ is)).coefs ≡ put_all_variables (each_count σ) is
    all_variables_put end = refl
    all_variables_put (more i is) =
        coefs_total-add_coefs (norm_dim (index_put σ i)).coefs (norm_sum (indices_put σ is)).coefs ∙ λ j. variables_put i j + all_variables_put is j

  dims_put : (is : Indices) → letters_size (norm_letters (indices_put σ is)) ≡ put_dims (each_count σ) is
  dims_put end = refl
  dims_put (more i is) = λ j. (1 + variables_put i j) + dims_put is j

  at_letters : (at : _) (f : Fate Index) → letters_size (norm_word (in_place (Var at) f)) ≡ (in_place kept_count (counted f)).letters
  at_letters at (Keep k) = refl
  at_letters at (Put i) = refl

  mutual
    pub letters_put : (i : Index) → letters_size (norm_word (index_put σ i)) ≡ put_letters (each_count σ) i
    letters_put (Num at n) = refl
    letters_put (Var at k) = at_letters at (σ k)
    letters_put (Sum at is) = refl
    letters_put (Dims at is) = dims_put is
    letters_put (Join at is) = all_letters_put is

    all_letters_put : (is : Indices) → letters_size (norm_words (indices_put σ is)) ≡ put_all_letters (each_count σ) is
    all_letters_put end = refl
    all_letters_put (more i is) = letters_append (norm_word (index_put σ i)) (norm_words (indices_put σ is)) ∙ λ j. letters_put i j + all_letters_put is j

  large_dims_put : (is : Indices) → has_large (norm_letters (indices_put σ is)) ≡ put_large_dims (each_count σ) is
  large_dims_put end = refl
  large_dims_put (more i is) = λ j. nat_lt largest_number (constant_put i j) || large_dims_put is j

  at_large : (at : _) (f : Fate Index) → has_large (norm_word (in_place (Var at) f)) ≡ (in_place kept_count (counted f)).large
  at_large at (Keep k) = refl
  at_large at (Put i) = refl

  mutual
    pub large_put : (i : Index) → has_large (norm_word (index_put σ i)) ≡ put_large (each_count σ) i
    large_put (Num at n) = refl
    large_put (Var at k) = at_large at (σ k)
    large_put (Sum at is) = refl
    large_put (Dims at is) = large_dims_put is
    large_put (Join at is) = any_large_put is

    any_large_put : (is : Indices) → has_large (norm_words (indices_put σ is)) ≡ put_any_large (each_count σ) is
    any_large_put end = refl
    any_large_put (more i is) = large_append (norm_word (index_put σ i)) (norm_words (indices_put σ is)) ∙ λ j. large_put i j || any_large_put is j

  -- the count of an index in which indices are put
  count_put : (i : Index) → count_of (index_put σ i) ≡ record { constant = put_constant (each_count σ) i; variables = put_variables (each_count σ) i; letters = put_letters (each_count σ) i; large = put_large (each_count σ) i }
  count_put i = λ j. record { constant = constant_put i j; variables = variables_put i j; letters = letters_put i j; large = large_put i j }

-- ---- renaming counts nothing else

mutual
  put_as_renamed : (ρ : ℕ → ℕ) (i : Index) → index_renamed ρ i ≡ index_put (λ k. Keep (ρ k)) i
  put_as_renamed ρ (Num at n) = refl
  put_as_renamed ρ (Var at k) = refl
  put_as_renamed ρ (Sum at is) = ap (Sum at) (all_as_renamed ρ is)
  put_as_renamed ρ (Dims at is) = ap (Dims at) (all_as_renamed ρ is)
  put_as_renamed ρ (Join at is) = ap (Join at) (all_as_renamed ρ is)

  all_as_renamed : (ρ : ℕ → ℕ) (is : Indices) → indices_renamed ρ is ≡ indices_put (λ k. Keep (ρ k)) is
  all_as_renamed ρ end = refl
  all_as_renamed ρ (more i is) = λ j. more (put_as_renamed ρ i j) (all_as_renamed ρ is j)

mutual
  pub renamed_same : (i : Index) → index_renamed same i ≡ i
  renamed_same (Num at n) = refl
  renamed_same (Var at k) = refl
  renamed_same (Sum at is) = ap (Sum at) (all_renamed_same is)
  renamed_same (Dims at is) = ap (Dims at) (all_renamed_same is)
  renamed_same (Join at is) = ap (Join at) (all_renamed_same is)

  all_renamed_same : (is : Indices) → indices_renamed same is ≡ is
  all_renamed_same end = refl
  all_renamed_same (more i is) = λ j. more (renamed_same i j) (all_renamed_same is j)

pub count_renamed : (ρ : ℕ → ℕ) (i : Index) → count_of (index_renamed ρ i) ≡ count_of i
count_renamed ρ i =
    ap count_of (put_as_renamed ρ i) ∙ count_put (λ k. Keep (ρ k)) i ∙ sym (count_put (λ k. Keep (same k)) i) ∙ ap count_of (sym (put_as_renamed same i))
    ∙ ap count_of (renamed_same i)

-- ---- under binders

counted_moved : (f : Fate Index) → counted (moved index_under f) ≡ moved as_it_is (counted f)
counted_moved (Keep k) = refl
counted_moved (Put i) = ap Put (count_renamed suc i)

counted_under : (σ : Fates Index) (k : ℕ) → counted (under index_under σ k) ≡ under as_it_is (λ j. counted (σ j)) k
counted_under σ zero = refl
counted_under σ (suc k) = counted_moved (σ k)

pub counted_under_n : (n : ℕ) (σ : Fates Index) → (λ (k : ℕ). counted (indices_under n σ k)) ≡ under_n n as_it_is (λ k. counted (σ k))
counted_under_n zero σ = refl
counted_under_n (suc n) σ = fun_ext (counted_under (indices_under n σ)) ∙ ap (under as_it_is) (counted_under_n n σ)
