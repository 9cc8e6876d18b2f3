-- Clipped counts measure as the counts do.
use Rattle.std.proofs.Common.{◌≡◌, ◌∙◌, refl, sym, ap, ℕ, zero, suc, ◌+◌, ◌-◌, ◌^◌, ◌<◌, ◌≤◌, min, arith, List, [], ◌∷◌, length, Bool, true, false, ◌||◌, nat_lt, Option, None, ◌⊎◌, inl, inr}
use Rattle.std.proofs.lemmas.Bool.{cases_lt}
use mathlib.Core.Path.{fun_ext}
use Rattle.core_syntax.specs.declared.norm.NormIndex.{NormIndex}
use Rattle.core_syntax.specs.declared.ty.Ty.{Ty as Tree}
use Rattle.core_syntax.specs.Syntax.{Index, Num, Var, Sum, Dims, Join, Indices, end, more, Ty, BaseTy, TyVar, Fun, Forall, Pi, Sigma, Arr, Tys, no_tys, more_tys}
use Rattle.core_syntax.specs.Limits.{largest_number}
use Rattle.core_syntax.specs.Lists.{onto, each, Each}
use Rattle.core_syntax.specs.Norm.{measured}
use Rattle.core_syntax.specs.NormTypes.{ty_size, ty_has_large}
use Rattle.core_syntax.specs.Refine.{ty_of}
use Rattle.core_syntax.specs.Subst.{Fate, Keep, Put, Fates, put_first, put_all, moved, under, under_n, in_place}
use Rattle.type_equal.specs.declared.counting.Count.{Count}
use Rattle.type_equal.specs.Counted.{count_of, kept_count, counts_of, as_it_is, put_under, put_constant, put_constants, put_variables, put_all_variables, put_dims, put_letters, put_all_letters, put_large_dims, put_large, put_any_large, put_size, put_sizes, put_large_ty, put_large_tys, clipped, IsNoneLarge}
use Rattle.type_equal.specs.Put.{index_tree, put_in}
use Rattle.type_equal.proofs.CountLemmas.{counted}
use Rattle.type_equal.proofs.MeasureLemmas.{measured_large, measured_size}
use Rattle.type_equal.proofs.TyCountLemmas.{sized, size_put, fate_large, large_put_ty}

-- ---- clipped counts of variables

module _ (κ : ℕ → Count) where
  mutual
    constant_same : (i : Index) → put_constant (λ k. clipped (κ k)) i ≡ put_constant κ i
    constant_same (Num at n) = refl
    constant_same (Var at k) = refl
    constant_same (Sum at is) = constants_same is
    constant_same (Dims at is) = refl
    constant_same (Join at is) = refl

    constants_same : (is : Indices) → put_constants (λ k. clipped (κ k)) is ≡ put_constants κ is
    constants_same end = refl
    constants_same (more i is) = λ j. constant_same i j + constants_same is j

  mutual
    variables_same : (i : Index) → min (put_variables (λ k. clipped (κ k)) i) (2 ^ 64 - 1) ≡ min (put_variables κ i) (2 ^ 64 - 1)
    variables_same (Num at n) = refl
    variables_same (Var at k) = omega arith
    variables_same (Sum at is) = all_variables_same is
    variables_same (Dims at is) = refl
    variables_same (Join at is) = refl

    all_variables_same : (is : Indices) → min (put_all_variables (λ k. clipped (κ k)) is) (2 ^ 64 - 1) ≡ min (put_all_variables κ is) (2 ^ 64 - 1)
    all_variables_same end = refl
    all_variables_same (more i is) = omega (arith, variables_same i, all_variables_same is)

  dims_same : (is : Indices) → min (put_dims (λ k. clipped (κ k)) is) (2 ^ 64 - 1) ≡ min (put_dims κ is) (2 ^ 64 - 1)
  dims_same end = refl
  dims_same (more i is) = omega (arith, variables_same i, dims_same is)

  mutual
    letters_same : (i : Index) → min (put_letters (λ k. clipped (κ k)) i) (2 ^ 64 - 1) ≡ min (put_letters κ i) (2 ^ 64 - 1)
    letters_same (Num at n) = refl
    letters_same (Var at k) = omega arith
    letters_same (Sum at is) = refl
    letters_same (Dims at is) = dims_same is
    letters_same (Join at is) = all_letters_same is

    all_letters_same : (is : Indices) → min (put_all_letters (λ k. clipped (κ k)) is) (2 ^ 64 - 1) ≡ min (put_all_letters κ is) (2 ^ 64 - 1)
    all_letters_same end = refl
    all_letters_same (more i is) = omega (arith, letters_same i, all_letters_same is)

  large_dims_same : (is : Indices) → put_large_dims (λ k. clipped (κ k)) is ≡ put_large_dims κ is
  large_dims_same end = refl
  large_dims_same (more i is) = λ j. nat_lt largest_number (constant_same i j) || large_dims_same is j

  mutual
    large_same : (i : Index) → put_large (λ k. clipped (κ k)) i ≡ put_large κ i
    large_same (Num at n) = refl
    large_same (Var at k) = refl
    large_same (Sum at is) = refl
    large_same (Dims at is) = large_dims_same is
    large_same (Join at is) = any_large_same is

    any_large_same : (is : Indices) → put_any_large (λ k. clipped (κ k)) is ≡ put_any_large κ is
    any_large_same end = refl
    any_large_same (more i is) = λ j. large_same i j || any_large_same is j

-- ---- and of fates

abbrev pub map_fate : {A B : Type 0} → (A → B) → Fate A → Fate B
map_fate h (Keep k) = Keep k
map_fate h (Put a) = Put (h a)

abbrev clip : Fates Count → Fates Count
clip σ k = map_fate clipped (σ k)

kept_clip : (f : Fate Count) → in_place kept_count (map_fate clipped f) ≡ clipped (in_place kept_count f)
kept_clip (Keep k) = refl
kept_clip (Put c) = refl

clip_counts : (σ : Fates Count) → counts_of (clip σ) ≡ (λ (k : ℕ). clipped (counts_of σ k))
clip_counts σ = fun_ext (λ k. kept_clip (σ k))

moved_clip : (f : Fate Count) → moved as_it_is (map_fate clipped f) ≡ map_fate clipped (moved as_it_is f)
moved_clip (Keep k) = refl
moved_clip (Put c) = refl

under_clip : (σ : Fates Count) (k : ℕ) → under as_it_is (clip σ) k ≡ clip (under as_it_is σ) k
under_clip σ zero = refl
under_clip σ (suc k) = moved_clip (σ k)

clip_under : (n : ℕ) (σ : Fates Count) → under_n n as_it_is (clip σ) ≡ clip (under_n n as_it_is σ)
clip_under zero σ = refl
clip_under (suc n) σ = ap (under as_it_is) (clip_under n σ) ∙ fun_ext (under_clip (under_n n as_it_is σ))

inside : (τ : Fates ℕ) (σ : Fates Count) (n : ℕ) (t : Ty) → min (put_size τ (clip (under_n n as_it_is σ)) t) (2 ^ 64 - 1) ≡ min (put_size τ (under_n n as_it_is σ) t) (2 ^ 64 - 1) →
    min (1 + (n + put_size τ (under_n n as_it_is (clip σ)) t)) (2 ^ 64 - 1) ≡ min (1 + (n + put_size τ (under_n n as_it_is σ) t)) (2 ^ 64 - 1)
inside τ σ n t h =
    let e : put_size τ (under_n n as_it_is (clip σ)) t ≡ put_size τ (clip (under_n n as_it_is σ)) t = ap (λ υ. put_size τ υ t) (clip_under n σ) in
    omega (arith, e, h)

mutual
  size_same : (τ : Fates ℕ) (σ : Fates Count) (t : Ty) → min (put_size τ (clip σ) t) (2 ^ 64 - 1) ≡ min (put_size τ σ t) (2 ^ 64 - 1)
  size_same τ σ (BaseTy at b) = refl
  size_same τ σ (TyVar at k) = refl
  size_same τ σ (Fun at ts r) = omega (arith, sizes_same τ σ ts, size_same τ σ r)
  size_same τ σ (Forall at n t) = omega (arith, size_same (under_n n as_it_is τ) σ t)
  size_same τ σ (Pi at ss t) = inside τ σ (length ss) t (size_same τ (under_n (length ss) as_it_is σ) t)
  size_same τ σ (Sigma at ss t) = inside τ σ (length ss) t (size_same τ (under_n (length ss) as_it_is σ) t)
  size_same τ σ (Arr at t i) =
      let e : put_letters (counts_of (clip σ)) i ≡ put_letters (λ k. clipped (counts_of σ k)) i = ap (λ κ. put_letters κ i) (clip_counts σ) in
      omega (arith, size_same τ σ t, e, letters_same (counts_of σ) i)

  sizes_same : (τ : Fates ℕ) (σ : Fates Count) (ts : Tys) → min (put_sizes τ (clip σ) ts) (2 ^ 64 - 1) ≡ min (put_sizes τ σ ts) (2 ^ 64 - 1)
  sizes_same τ σ no_tys = refl
  sizes_same τ σ (more_tys t ts) = omega (arith, size_same τ σ t, sizes_same τ σ ts)

mutual
  large_ty_same : (σ : Fates Count) (t : Ty) → put_large_ty (clip σ) t ≡ put_large_ty σ t
  large_ty_same σ (BaseTy at b) = refl
  large_ty_same σ (TyVar at k) = refl
  large_ty_same σ (Fun at ts r) = λ j. large_tys_same σ ts j || large_ty_same σ r j
  large_ty_same σ (Forall at n t) = large_ty_same σ t
  large_ty_same σ (Pi at ss t) = ap (λ υ. put_large_ty υ t) (clip_under (length ss) σ) ∙ large_ty_same (under_n (length ss) as_it_is σ) t
  large_ty_same σ (Sigma at ss t) = ap (λ υ. put_large_ty υ t) (clip_under (length ss) σ) ∙ large_ty_same (under_n (length ss) as_it_is σ) t
  large_ty_same σ (Arr at t i) = λ j. large_ty_same σ t j || (ap (λ κ. put_large κ i) (clip_counts σ) ∙ large_same (counts_of σ) i) j

  large_tys_same : (σ : Fates Count) (ts : Tys) → put_large_tys (clip σ) ts ≡ put_large_tys σ ts
  large_tys_same σ no_tys = refl
  large_tys_same σ (more_tys t ts) = λ j. large_ty_same σ t j || large_tys_same σ ts j

-- ---- what is put, by its counts

first_mapped : {A B : Type 0} (h : A → B) (xs : List A) (k : ℕ) → put_first (each h xs) k ≡ map_fate h (put_first xs k)
first_mapped h [] k = refl
first_mapped h (x ∷ xs) zero = refl
first_mapped h (x ∷ xs) (suc k) = first_mapped h xs k

each_onto : {A B : Type 0} (h : A → B) (xs ys : List A) → each h (onto xs ys) ≡ onto (each h xs) (each h ys)
each_onto h [] ys = refl
each_onto h (x ∷ xs) ys = each_onto h xs (x ∷ ys)

all_mapped : {A B : Type 0} (h : A → B) (xs : List A) (k : ℕ) → put_all (each h xs) k ≡ map_fate h (put_all xs k)
all_mapped h xs k = ap (λ l. put_first l k) (sym (each_onto h xs [])) ∙ first_mapped h (onto xs []) k

each_each : {A B C : Type 0} (f : B → C) (g : A → B) (xs : List A) → each (λ x. f (g x)) xs ≡ each f (each g xs)
each_each f g [] = refl
each_each f g (x ∷ xs) = ap (λ l. f (g x) ∷ l) (each_each f g xs)

counted_map : (f : Fate Index) → map_fate count_of f ≡ counted f
counted_map (Keep k) = refl
counted_map (Put i) = refl

sized_map : (f : Fate Ty) → map_fate ty_size f ≡ sized f
sized_map (Keep k) = refl
sized_map (Put t) = refl

abbrev clipped_count : Index → Count
clipped_count i = clipped (count_of i)

abbrev table : List NormIndex → List Count
table is = each (λ i. clipped (count_of (index_tree i))) is

clip_map : (f : Fate Index) → map_fate clipped_count f ≡ map_fate clipped (counted f)
clip_map (Keep k) = refl
clip_map (Put i) = refl

table_fates : (is : List NormIndex) → put_all (table is) ≡ clip (λ k. counted (put_all (each index_tree is) k))
table_fates is = fun_ext (λ k. ap (λ l. put_all l k) (each_each clipped_count index_tree is) ∙ all_mapped clipped_count (each index_tree is) k ∙ clip_map (put_all (each index_tree is) k))

size_fates : (ts : List Tree) → put_all (each (λ t. ty_size (ty_of t)) ts) ≡ (λ (k : ℕ). sized (put_all (each ty_of ts) k))
size_fates ts = fun_ext (λ k. ap (λ l. put_all l k) (each_each ty_size ty_of ts) ∙ all_mapped ty_size (each ty_of ts) k ∙ sized_map (put_all (each ty_of ts) k))

abbrev IsNone : Ty → Type 0
IsNone t = ty_has_large t ≡ false

none_first : (ts : List Ty) → Each IsNone ts → (k : ℕ) → fate_large (put_first ts k) ≡ false
none_first [] h k = refl
none_first (t ∷ ts) h zero = h.0
none_first (t ∷ ts) h (suc k) = none_first ts h.1 k

none_onto : (ts : List Tree) (us : List Ty) → Each IsNoneLarge ts → Each IsNone us → Each IsNone (onto (each ty_of ts) us)
none_onto [] us h g = g
none_onto (t ∷ ts) us h g = none_onto ts (ty_of t ∷ us) h.1 (h.0, g)

module _ (ts : List Tree) (is : List NormIndex) (t : Ty) where
  pub large_by_table : Each IsNoneLarge ts → put_large_ty (put_under 0 (table is)) t ≡ ty_has_large (put_in ts is t)
  large_by_table h =
      ap (λ υ. put_large_ty υ t) (table_fates is) ∙ large_ty_same (λ k. counted (put_all (each index_tree is) k)) t
      ∙ sym (large_put_ty (put_all (each index_tree is)) (put_all (each ty_of ts)) t (none_first (onto (each ty_of ts) []) (none_onto ts [] h tt)))

  pub size_by_table : min (put_size (put_under 0 (each (λ u. ty_size (ty_of u)) ts)) (put_under 0 (table is)) t) (2 ^ 64 - 1) ≡ min (ty_size (put_in ts is t)) (2 ^ 64 - 1)
  size_by_table =
      (λ j. min (put_size (size_fates ts j) (table_fates is j) t) (2 ^ 64 - 1))
      ∙ size_same (λ k. sized (put_all (each ty_of ts) k)) (λ k. counted (put_all (each index_tree is) k)) t
      ∙ ap (λ n. min n (2 ^ 64 - 1)) (sym (size_put (put_all (each index_tree is)) (put_all (each ty_of ts)) t))

-- a refusal by the size alone is the one of the measure
pub refused_early : (r : Option ℕ) (large large' : Bool) (size size' depth : ℕ) → r ≡ measured large size 0 → large ≡ large' → min size (2 ^ 64 - 1) ≡ min size' (2 ^ 64 - 1) →
    (r ≡ None) ⊎ (r ≡ measured large' size' depth)
refused_early r true large' size size' depth e l s = inr (e ∙ measured_large large' size' depth (sym l))
refused_early r false large' size size' depth e l s = by (cases_lt 16384 size)
  where
    by : (16384 < size) ⊎ (size ≤ 16384) → (r ≡ None) ⊎ (r ≡ measured large' size' depth)
    by (inl lt) = inr (e ∙ sym (measured_size false size 0 refl lt) ∙ measured_size large' size' depth (sym l) (omega (arith, lt, s)))
    by (inr le) = inl (e ∙ sym (Rattle.type_equal.proofs.MeasureLemmas.measured_none false size 0 refl le (omega arith)))
