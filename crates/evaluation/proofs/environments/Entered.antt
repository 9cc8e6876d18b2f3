-- A closure or a box that is entered: what a step puts in the place of the variables of its body is the body with the environment in place that evaluation makes.
use Rattle.std.proofs.Common.{◌≡◌, refl, sym, ◌∙◌, ap, subst, ℕ, zero, suc, ◌+◌, arith, false, List, [], ◌∷◌, length}
use Rattle.core_syntax.specs.Lists.{onto, each, Each}
use Rattle.core_syntax.specs.Subst.{Fate, Keep, Put, Fates, kept, put_first, put_all, moved, under_n}
use Rattle.core_syntax.specs.Terms.{IndexValue, Cell}
use Rattle.core_syntax.specs.TermPut.{term_put, terms_under}
use Rattle.erasure.specs.Erased.{erased, ErasedTerm, erased_rules}
use Rattle.core_syntax.specs.Arrays.{Arrayed}
use Rattle.machine_table.specs.Values.{Env, with_arrays, with_indices}
use Rattle.lowering.specs.Lower.{Body}
use Rattle.evaluation.specs.Plugged.{val_term, env_terms, plugged}
use Rattle.evaluation.specs.Scoped.{bound, with_values, Scoped}
use Rattle.evaluation.specs.Lawful.{IsClosed, FitArray, FitEnv}
use Rattle.evaluation.proofs.environments.FormPuts.{later, Follow}
use Rattle.evaluation.proofs.environments.Puts.{same_value, AllClosed, closed_under, put_later}

later_kept : {A : Type 0} (f : Fate A) → later kept f ≡ f
later_kept (Keep k) = refl
later_kept (Put a) = refl

pub follow_kept : {A : Type 0} (σ : Fates A) → Follow kept σ σ
follow_kept σ k = sym (later_kept (σ k))

later_none : {A : Type 0} (f : Fate A) → later (put_first []) f ≡ f
later_none (Keep k) = refl
later_none (Put a) = refl

-- one more that is put, behind a binder more
later_more : {A : Type 0} (x : A) (ys : List A) (f : Fate A) → later (put_first (x ∷ ys)) (moved same_value f) ≡ later (put_first ys) f
later_more x ys (Keep k) = refl
later_more x ys (Put a) = refl

-- all has the fates of ys put in front of those of ρ
abbrev InFront : {A : Type 0} → List A → Fates A → Fates A → Type 0
InFront ys ρ all = Follow (put_first ys) (under_n (length ys) same_value ρ) all

in_front_more : {A : Type 0} (x : A) (ys : List A) (ρ all more : Fates A) → InFront ys ρ all → more zero ≡ Put x → ((k : ℕ) → more (suc k) ≡ all k) → InFront (x ∷ ys) ρ more
in_front_more x ys ρ all more f e g zero = e
in_front_more x ys ρ all more f e g (suc k) = g k ∙ f k ∙ sym (later_more x ys (under_n (length ys) same_value ρ k))

pub length_onto : {A : Type 0} (xs ys : List A) → length (onto xs ys) ≡ length (onto xs []) + length ys
length_onto [] ys = omega arith
length_onto (x ∷ xs) ys =
    let a = length_onto xs (x ∷ ys) in
    let b = length_onto xs (x ∷ []) in
    omega arith

pub length_all : {A : Type 0} (xs : List A) → length (onto xs []) ≡ length xs
length_all [] = refl
length_all (x ∷ xs) =
    let a = length_onto xs (x ∷ []) in
    let b = length_all xs in
    omega arith

pub length_each : {A B : Type 0} (f : A → B) (xs : List A) → length (each f xs) ≡ length xs
length_each f [] = refl
length_each f (x ∷ xs) = ap suc (length_each f xs)

-- ---- what is put in front of what was put

first_onto : {A : Type 0} (js ys all is : List A) → InFront ys (put_first is) (put_first all) → InFront (onto js ys) (put_first is) (put_first (onto js all))
first_onto [] ys all is f = f
first_onto (j ∷ js) ys all is f = first_onto js (j ∷ ys) (j ∷ all) is (in_front_more j ys (put_first is) (put_first all) (put_first (j ∷ all)) f refl (λ k. refl))

pub follow_all : {A : Type 0} (n : ℕ) (js is : List A) → n ≡ length js → Follow (put_all js) (under_n n same_value (put_first is)) (put_first (onto js is))
follow_all n js is e =
    subst (λ m. Follow (put_all js) (under_n m same_value (put_first is)) (put_first (onto js is))) (length_all js ∙ sym e) (first_onto js [] is is (λ k. sym (later_none (put_first is k))))

pub each_onto : {A B : Type 0} (f : A → B) (xs ys : List A) → each f (onto xs ys) ≡ onto (each f xs) (each f ys)
each_onto f [] ys = refl
each_onto f (x ∷ xs) ys = each_onto f xs (x ∷ ys)

module _ {A : Type 0} (bodies : List Body) (cell : A → Cell erased) (fits : A → Type 0) where
  follow_arrays : (n : ℕ) (vs rest : List (Arrayed A)) → n ≡ length vs
      → Follow (put_all (each (val_term cell) vs)) (under_n n same_value (put_first (each (val_term cell) rest))) (put_first (each (val_term cell) (onto vs rest)))
  follow_arrays n vs rest e =
      subst (λ ts. Follow (put_all (each (val_term cell) vs)) (under_n n same_value (put_first (each (val_term cell) rest))) (put_first ts)) (sym (each_onto (val_term cell) vs rest))
      (follow_all n (each (val_term cell) vs) (each (val_term cell) rest) (e ∙ sym (length_each (val_term cell) vs)))

  arrays_closed : (vs : List (Arrayed A)) → Each (λ a. FitArray bodies cell fits a × IsClosed (val_term cell a)) vs → AllClosed (put_first (each (val_term cell) vs))
  arrays_closed [] h k = tt
  arrays_closed (v ∷ vs) h zero = h.0.1
  arrays_closed (v ∷ vs) h (suc k) = arrays_closed vs h.1 k

  -- ---- a `fn` on its arguments, a `tfn`, an `ifn` on indices, and the body of an `unbox`

  pub enters_fn : (n : ℕ) (vs : List (Arrayed A)) (env : Env A) (t : ErasedTerm) → n ≡ length vs → FitEnv bodies cell fits env → Scoped false (with_values env.indices) t
      → term_put erased_rules kept (put_all (each (val_term cell) vs)) (term_put erased_rules (put_first env.indices) (terms_under n (env_terms cell env)) t) ≡ plugged cell (with_arrays vs env) t
  enters_fn n vs env t e h s =
      put_later false (with_values env.indices) kept (put_first env.indices) (put_first env.indices) (put_all (each (val_term cell) vs)) (terms_under n (env_terms cell env)) (env_terms cell (with_arrays vs env))
      (follow_kept (put_first env.indices)) (follow_arrays n vs env.arrays e) (closed_under n (env_terms cell env) (arrays_closed env.arrays h)) t s

  pub enters_types : (env : Env A) (t : ErasedTerm) → FitEnv bodies cell fits env → Scoped false (with_values env.indices) t → term_put erased_rules kept kept (plugged cell env t) ≡ plugged cell env t
  enters_types env t h s =
      put_later false (with_values env.indices) kept (put_first env.indices) (put_first env.indices) kept (env_terms cell env) (env_terms cell env)
      (follow_kept (put_first env.indices)) (follow_kept (env_terms cell env)) (arrays_closed env.arrays h) t s

  pub enters_indices : (n : ℕ) (js : List IndexValue) (env : Env A) (t : ErasedTerm) → n ≡ length js → FitEnv bodies cell fits env → Scoped false (bound n (with_values env.indices)) t
      → term_put erased_rules (put_all js) kept (term_put erased_rules (erased_rules.under_sorts n (put_first env.indices)) (env_terms cell env) t) ≡ plugged cell (with_indices js env) t
  enters_indices n js env t e h s =
      put_later false (bound n (with_values env.indices)) (put_all js) (under_n n same_value (put_first env.indices)) (put_first (onto js env.indices)) kept (env_terms cell env) (env_terms cell env)
      (follow_all n js env.indices e) (follow_kept (env_terms cell env)) (arrays_closed env.arrays h) t s

  pub enters_box : (n : ℕ) (js : List IndexValue) (v : Arrayed A) (env : Env A) (t : ErasedTerm) → n ≡ length js → FitEnv bodies cell fits env → Scoped false (bound n (with_values env.indices)) t
      → term_put erased_rules (put_all js) (put_first (val_term cell v ∷ [])) (term_put erased_rules (erased_rules.under_sorts n (put_first env.indices)) (terms_under 1 (env_terms cell env)) t)
      ≡ plugged cell (with_arrays (v ∷ []) (with_indices js env)) t
  enters_box n js v env t e h s =
      put_later false (bound n (with_values env.indices)) (put_all js) (under_n n same_value (put_first env.indices)) (put_first (onto js env.indices)) (put_first (val_term cell v ∷ [])) (terms_under 1 (env_terms cell env))
      (env_terms cell (with_arrays (v ∷ []) (with_indices js env)))
      (follow_all n js env.indices e) (follow_arrays 1 (v ∷ []) env.arrays refl) (closed_under 1 (env_terms cell env) (arrays_closed env.arrays h)) t s
