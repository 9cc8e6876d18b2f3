-- A normal form has the value of its index, under every valuation.
use Rattle.std.proofs.Common.{◌≡◌, refl, sym, ◌∙◌, ap, ℕ, ◌+◌, ◌*◌, Bool, true, false, cond, ◌==◌, nat_lt, arith, List, [], ◌∷◌, ◌++◌}
use Rattle.std.proofs.lemmas.Bool.Decides.{nat_tests}
use Rattle.std.proofs.lemmas.List.{append_assoc, append-nil}
use Rattle.core_syntax.specs.declared.norm.Coef.{Coef}
use Rattle.core_syntax.specs.Linear.{Linear}
use Rattle.core_syntax.specs.NormValue.{coefs_value, form_value, word_value_under}
use Rattle.core_syntax.specs.declared.norm.Letter.{Letter}
use Rattle.core_syntax.specs.declared.norm.Letter.TheVariants as letter
use Rattle.core_syntax.specs.Syntax.{Index, Num, Var, Sum, Dims, Join, Indices, end, more}
use Rattle.core_syntax.specs.Value.{Valuation, dim_val, dim_sum, dim_vals, shape_val, shape_join, SameDim, SameShape}
use Rattle.core_syntax.specs.Norm.{coef, add_coef, add_coefs, add, norm_dim, norm_sum, norm_letters, norm_word, norm_words}

pub add_coef_value : (v : Valuation) (j n : ℕ) (cs : List Coef) → coefs_value v (add_coef j n cs) ≡ n * v.dim j + coefs_value v cs
add_coef_value v j n [] = refl
add_coef_value v j n (c ∷ cs) = go (nat_lt j c.var) (j == c.var) refl refl (add_coef_value v j n cs)
  where
    go : (lt eq : Bool) → nat_lt j c.var ≡ lt → (j == c.var) ≡ eq → coefs_value v (add_coef j n cs) ≡ n * v.dim j + coefs_value v cs
        → coefs_value v (cond lt (coef j n ∷ c ∷ cs) (cond eq (coef j (n + c.times) ∷ cs) (c ∷ add_coef j n cs))) ≡ n * v.dim j + (c.times * v.dim c.var + coefs_value v cs)
    go true eq lt' eq' ih = refl
    go false true lt' eq' ih = let i : j ≡ c.var = grind (arith, nat_tests) in rw i (omega arith)
    go false false lt' eq' ih = omega arith

pub add_coefs_value : (v : Valuation) (cs ds : List Coef) → coefs_value v (add_coefs cs ds) ≡ coefs_value v cs + coefs_value v ds
add_coefs_value v [] ds = omega arith
add_coefs_value v (c ∷ cs) ds = add_coef_value v c.var c.times (add_coefs cs ds) ∙ (let ih = add_coefs_value v cs ds in omega arith)

add_value : (v : Valuation) (a b : Linear) → form_value v (add a b) ≡ form_value v a + form_value v b
add_value v a b = let e = add_coefs_value v a.coefs b.coefs in omega arith

mutual
  pub norm_dim_value : (v : Valuation) (i : Index) → form_value v (norm_dim i) ≡ dim_val v i
  norm_dim_value v (Num at n) = omega arith
  norm_dim_value v (Var at k) = omega arith
  norm_dim_value v (Sum at is) = norm_sum_value v is
  norm_dim_value v (Dims at is) = refl
  norm_dim_value v (Join at is) = refl

  pub norm_sum_value : (v : Valuation) (is : Indices) → form_value v (norm_sum is) ≡ dim_sum v is
  norm_sum_value v end = refl
  norm_sum_value v (more i is) = rw (add_value v (norm_dim i) (norm_sum is), norm_dim_value v i, norm_sum_value v is) refl

norm_letters_value : (v : Valuation) (is : Indices) → word_value_under v (norm_letters is) ≡ dim_vals v is
norm_letters_value v end = refl
norm_letters_value v (more i is) = rw (norm_dim_value v i, norm_letters_value v is) refl

word_append : (v : Valuation) (ls ms : List Letter) → word_value_under v (ls ++ ms) ≡ word_value_under v ls ++ word_value_under v ms
word_append v [] ms = refl
word_append v (letter.Dim d ∷ ls) ms = ap (λ ns. form_value v d ∷ ns) (word_append v ls ms)
word_append v (letter.Var k ∷ ls) ms = ap (λ ns. v.shape k ++ ns) (word_append v ls ms) ∙ sym (append_assoc (v.shape k) (word_value_under v ls) (word_value_under v ms))

mutual
  pub norm_word_value : (v : Valuation) (i : Index) → word_value_under v (norm_word i) ≡ shape_val v i
  norm_word_value v (Num at n) = refl
  norm_word_value v (Var at k) = append-nil (v.shape k)
  norm_word_value v (Sum at is) = refl
  norm_word_value v (Dims at is) = norm_letters_value v is
  norm_word_value v (Join at is) = norm_words_value v is

  pub norm_words_value : (v : Valuation) (is : Indices) → word_value_under v (norm_words is) ≡ shape_join v is
  norm_words_value v end = refl
  norm_words_value v (more i is) = rw (word_append v (norm_word i) (norm_words is), norm_word_value v i, norm_words_value v is) refl

-- indices with one normal form are equal
pub same_norm_dims : (i j : Index) → norm_dim i ≡ norm_dim j → SameDim i j
same_norm_dims i j e v = sym (norm_dim_value v i) ∙ ap (form_value v) e ∙ norm_dim_value v j

pub same_norm_words : (i j : Index) → norm_word i ≡ norm_word j → SameShape i j
same_norm_words i j e v = sym (norm_word_value v i) ∙ ap (word_value_under v) e ∙ norm_word_value v j
