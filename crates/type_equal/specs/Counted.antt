-- How large the normal form is once indices and types are put in the places of variables.
use Rattle.std.specs.Prelude.{◌≡◌, ℕ, zero, suc, ◌+◌, ◌-◌, ◌^◌, min, Bool, false, ◌||◌, nat_lt, List, [], ◌∷◌, length}
use Rattle.core_syntax.specs.declared.norm.Letter.{Letter}
use Rattle.core_syntax.specs.declared.norm.Letter.TheVariants as letter
use Rattle.core_syntax.specs.declared.ty.Ty.{Ty as Tree}
use Rattle.core_syntax.specs.Syntax.{Index, Num, Var, Sum, Dims, Join, Indices, end, more, Ty, BaseTy, TyVar, Fun, Forall, Pi, Sigma, Arr, Tys, no_tys, more_tys}
use Rattle.core_syntax.specs.Limits.{largest_number}
use Rattle.core_syntax.specs.Linear.{coefs_total}
use Rattle.core_syntax.specs.Word.{letters_size}
use Rattle.core_syntax.specs.Norm.{norm_dim, norm_word, has_large}
use Rattle.core_syntax.specs.NormTypes.{ty_has_large}
use Rattle.core_syntax.specs.Refine.{ty_of}
use Rattle.core_syntax.specs.Subst.{Fates, in_place, put_all, under_n}
use Rattle.type_equal.specs.declared.counting.Count.{Count}

-- what an index adds
abbrev pub count_of : Index → Count
count_of i =
    record { constant = (norm_dim i).constant; variables = coefs_total (norm_dim i).coefs; letters = letters_size (norm_word i); large = has_large (norm_word i) }

-- what a variable that is kept adds
abbrev pub kept_count : ℕ → Count
kept_count k = record { constant = 0; variables = 1; letters = 1; large = false }

-- what each variable adds
abbrev pub counts_of : Fates Count → ℕ → Count
counts_of σ k = in_place kept_count (σ k)

-- the same under a binder
abbrev pub as_it_is : {A : Type 0} → A → A
as_it_is a = a

-- what is put in the places of a binder's variables, seen under n binders inside
abbrev pub put_under : {A : Type 0} → ℕ → List A → Fates A
put_under n xs = under_n n as_it_is (put_all xs)

-- the constant of the normal form, of sort Dim
abbrev mutual
  pub put_constant : (ℕ → Count) → Index → ℕ
  put_constant σ (Num at n) = n
  put_constant σ (Var at k) = (σ k).constant
  put_constant σ (Sum at is) = put_constants σ is
  put_constant σ (Dims at is) = 0
  put_constant σ (Join at is) = 0

  -- and of those of a list, added up
  pub put_constants : (ℕ → Count) → Indices → ℕ
  put_constants σ end = 0
  put_constants σ (more i is) = put_constant σ i + put_constants σ is

-- how many variables are added in it
abbrev mutual
  pub put_variables : (ℕ → Count) → Index → ℕ
  put_variables σ (Num at n) = 0
  put_variables σ (Var at k) = (σ k).variables
  put_variables σ (Sum at is) = put_all_variables σ is
  put_variables σ (Dims at is) = 0
  put_variables σ (Join at is) = 0

  -- and in those of a list
  pub put_all_variables : (ℕ → Count) → Indices → ℕ
  put_all_variables σ end = 0
  put_all_variables σ (more i is) = put_variables σ i + put_all_variables σ is

-- the size of the letters that indices of sort Dim come to
abbrev pub put_dims : (ℕ → Count) → Indices → ℕ
put_dims σ end = 0
put_dims σ (more i is) = (1 + put_variables σ i) + put_dims σ is

-- and of those of an index of sort Shape
abbrev mutual
  pub put_letters : (ℕ → Count) → Index → ℕ
  put_letters σ (Num at n) = 0
  put_letters σ (Var at k) = (σ k).letters
  put_letters σ (Sum at is) = 0
  put_letters σ (Dims at is) = put_dims σ is
  put_letters σ (Join at is) = put_all_letters σ is

  -- and of those of a list
  pub put_all_letters : (ℕ → Count) → Indices → ℕ
  put_all_letters σ end = 0
  put_all_letters σ (more i is) = put_letters σ i + put_all_letters σ is

-- some constant of these indices of sort Dim is too large
abbrev pub put_large_dims : (ℕ → Count) → Indices → Bool
put_large_dims σ end = false
put_large_dims σ (more i is) = nat_lt largest_number (put_constant σ i) || put_large_dims σ is

-- and some in an index of sort Shape
abbrev mutual
  pub put_large : (ℕ → Count) → Index → Bool
  put_large σ (Num at n) = false
  put_large σ (Var at k) = (σ k).large
  put_large σ (Sum at is) = false
  put_large σ (Dims at is) = put_large_dims σ is
  put_large σ (Join at is) = put_any_large σ is

  -- and in those of a list
  pub put_any_large : (ℕ → Count) → Indices → Bool
  put_any_large σ end = false
  put_any_large σ (more i is) = put_large σ i || put_any_large σ is

-- the size of a normal type, where sizes are known of the types that are put and counts of the indices
abbrev mutual
  pub put_size : Fates ℕ → Fates Count → Ty → ℕ
  put_size τ σ (BaseTy at b) = 1
  put_size τ σ (TyVar at k) = in_place (λ _. 1) (τ k)
  put_size τ σ (Fun at ts r) = 1 + (put_sizes τ σ ts + put_size τ σ r)
  put_size τ σ (Forall at n t) = 1 + (n + put_size (under_n n as_it_is τ) σ t)
  put_size τ σ (Pi at ss t) = 1 + (length ss + put_size τ (under_n (length ss) as_it_is σ) t)
  put_size τ σ (Sigma at ss t) = 1 + (length ss + put_size τ (under_n (length ss) as_it_is σ) t)
  put_size τ σ (Arr at t i) = 1 + (put_size τ σ t + (1 + put_letters (counts_of σ) i))

  -- and of those of a list, added up
  pub put_sizes : Fates ℕ → Fates Count → Tys → ℕ
  put_sizes τ σ no_tys = 0
  put_sizes τ σ (more_tys t ts) = put_size τ σ t + put_sizes τ σ ts

-- some constant in a shape is too large, where none is in the types that are put
abbrev mutual
  pub put_large_ty : Fates Count → Ty → Bool
  put_large_ty σ (BaseTy at b) = false
  put_large_ty σ (TyVar at k) = false
  put_large_ty σ (Fun at ts r) = put_large_tys σ ts || put_large_ty σ r
  put_large_ty σ (Forall at n t) = put_large_ty σ t
  put_large_ty σ (Pi at ss t) = put_large_ty (under_n (length ss) as_it_is σ) t
  put_large_ty σ (Sigma at ss t) = put_large_ty (under_n (length ss) as_it_is σ) t
  put_large_ty σ (Arr at t i) = put_large_ty σ t || put_large (counts_of σ) i

  -- and in a shape of a list's types
  pub put_large_tys : Fates Count → Tys → Bool
  put_large_tys σ no_tys = false
  put_large_tys σ (more_tys t ts) = put_large_ty σ t || put_large_tys σ ts

-- a count whose sizes are at most the largest number of 64 bits
abbrev pub clipped : Count → Count
clipped c = record { constant = c.constant; variables = min c.variables (2 ^ 64 - 1); letters = min c.letters (2 ^ 64 - 1); large = c.large }

-- 1 where the only letter is a variable
abbrev pub lone_letter : List Letter → ℕ
lone_letter [] = 0
lone_letter (letter.Dim d ∷ ls) = 0
lone_letter (letter.Var k ∷ []) = 1
lone_letter (letter.Var k ∷ l ∷ ls) = 0

-- 1 where a linear form with this constant and so many variables is a variable alone
abbrev pub lone_sum : ℕ → ℕ → ℕ
lone_sum zero zero = 0
lone_sum zero (suc zero) = 1
lone_sum zero (suc (suc n)) = 0
lone_sum (suc c) n = 0

-- no constant in a tree is too large
abbrev pub IsNoneLarge : Tree → Type 0
IsNoneLarge t = ty_has_large (ty_of t) ≡ false
