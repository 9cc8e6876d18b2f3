-- The fates of variables under binders.
use Rattle.std.proofs.Common.{◌≡◌, ◌∙◌, refl, sym, ap, ℕ, zero, suc, ◌+◌, ◌-◌, ◌<◌, ◌≤◌, arith, ◌⊎◌, inl, inr, List, [], ◌∷◌, length, get_or}
use Rattle.std.proofs.lemmas.Bool.{cases_lt}
use mathlib.Core.Path.{fun_ext}
use Rattle.core_syntax.specs.declared.index.Index.{Index as IndexTree}
use Rattle.core_syntax.specs.declared.ty.Ty.{Ty as Tree}
use Rattle.core_syntax.specs.declared.term.TermExpr.{TermExpr}
use Rattle.core_syntax.specs.Syntax.{Index, Ty}
use Rattle.core_syntax.specs.Lists.{onto, each}
use Rattle.core_syntax.specs.Refine.{index_of, ty_of}
use Rattle.core_syntax.specs.RefineTerms.{term_of}
use Rattle.core_syntax.specs.Subst.{Fate, Keep, Put, Fates, kept, put_first, put_all, moved, under, under_n, past, past_n, index_renamed, index_under, indices_under, same, ty_renamed, ty_under_type, ty_under_index, fate_under_index, fates_under_index}
use Rattle.core_syntax.specs.TermPut.{terms_under}
use Rattle.core_syntax.specs.Typed.{typed_rules}
use Rattle.type_substitution.specs.Putting.{up, moved_from, indices_at, types_at, puts_at, terms_at}
use Rattle.reduction_laws.proofs.putting.Indices.{index_renamed_twice, index_renamed_same}
use Rattle.reduction_laws.proofs.putting.Types.{ty_renamed_twice, ty_renamed_same}

-- ---- moved variables

-- a bound variable stays, and a free one is moved
pub past_bound : (ρ : ℕ → ℕ) (n k : ℕ) → k < n → past_n n ρ k ≡ k
past_bound ρ zero k lt = absurd (omega arith)
past_bound ρ (suc n) zero lt = refl
past_bound ρ (suc n) (suc k) lt = ap suc (past_bound ρ n k (omega arith))

pub moved_free : (by n k : ℕ) → n ≤ k → moved_from by n k ≡ by + k
moved_free by zero k le = refl
moved_free by (suc n) zero le = absurd (omega arith)
moved_free by (suc n) (suc k) le = let e : suc (by + k) ≡ by + suc k = omega arith in ap suc (moved_free by n k (omega arith)) ∙ e

-- binders under binders
pub past_more : (ρ : ℕ → ℕ) (n m : ℕ) → past_n n (past_n m ρ) ≡ past_n (m + n) ρ
past_more ρ zero m = let e : m ≡ m + 0 = omega arith in ap (λ k. past_n k ρ) e
past_more ρ (suc n) m = let e : suc (m + n) ≡ m + suc n = omega arith in ap past (past_more ρ n m) ∙ ap (λ k. past_n k ρ) e

-- ---- what is put first, and what is put for a binder's list

module _ {A : Type 0} where
  first_put : (xs : List A) (k : ℕ) (d : A) → k < length xs → put_first xs k ≡ Put (get_or xs k d)
  first_put [] k d lt = absurd (omega arith)
  first_put (x ∷ xs) zero d lt = refl
  first_put (x ∷ xs) (suc k) d lt = first_put xs k d (omega arith)

  first_kept : (xs : List A) (k : ℕ) → length xs ≤ k → put_first xs k ≡ Keep (k - length xs)
  first_kept [] k le = let e : k ≡ k - 0 = omega arith in ap Keep e
  first_kept (x ∷ xs) zero le = absurd (omega arith)
  first_kept (x ∷ xs) (suc k) le = let e : k - length xs ≡ suc k - length (x ∷ xs) = omega arith in first_kept xs k (omega arith) ∙ ap Keep e

  onto_length : (xs ys : List A) → length (onto xs ys) ≡ length xs + length ys
  onto_length [] ys = omega arith
  onto_length (x ∷ xs) ys = omega (arith, onto_length xs (x ∷ ys))

  onto_behind : (xs ys : List A) (j : ℕ) (d : A) → get_or (onto xs ys) (length xs + j) d ≡ get_or ys j d
  onto_behind [] ys j d = let e : 0 + j ≡ j = omega arith in ap (λ n. get_or ys n d) e
  onto_behind (x ∷ xs) ys j d =
      let e : length (x ∷ xs) + j ≡ length xs + suc j = omega arith in
      ap (λ n. get_or (onto xs (x ∷ ys)) n d) e ∙ onto_behind xs (x ∷ ys) (suc j) d

  onto_at : (xs ys : List A) (k : ℕ) (d : A) → k < length xs → get_or (onto xs ys) k d ≡ get_or xs (length xs - 1 - k) d
  onto_at [] ys k d lt = absurd (omega arith)
  onto_at (x ∷ xs) ys k d lt = by (cases_lt k (length xs)) (λ small. onto_at xs (x ∷ ys) k d small)
    where
      by : (k < length xs) ⊎ (length xs ≤ k) → (k < length xs → get_or (onto xs (x ∷ ys)) k d ≡ get_or xs (length xs - 1 - k) d) →
          get_or (onto xs (x ∷ ys)) k d ≡ get_or (x ∷ xs) (length (x ∷ xs) - 1 - k) d
      by (inl small) at =
          let e : suc (length xs - 1 - k) ≡ length (x ∷ xs) - 1 - k = omega arith in
          at small ∙ ap (λ n. get_or (x ∷ xs) n d) e
      by (inr le) at =
          let e : k ≡ length xs + 0 = omega arith in
          let f : 0 ≡ length (x ∷ xs) - 1 - k = omega arith in
          ap (λ n. get_or (onto xs (x ∷ ys)) n d) e ∙ onto_behind xs (x ∷ ys) 0 d ∙ ap (λ n. get_or (x ∷ xs) n d) f

  pub all_put : (xs : List A) (k : ℕ) (d : A) → k < length xs → put_all xs k ≡ Put (get_or xs (length xs - 1 - k) d)
  all_put xs k d lt =
      let e : length (onto xs []) ≡ length xs = omega (arith, onto_length xs (let none : List A = [] in none)) in
      first_put (onto xs []) k d (omega (arith, e)) ∙ ap Put (onto_at xs [] k d lt)

  pub all_kept : (xs : List A) (k : ℕ) → length xs ≤ k → put_all xs k ≡ Keep (k - length xs)
  all_kept xs k le =
      let e : length (onto xs []) ≡ length xs = omega (arith, onto_length xs (let none : List A = [] in none)) in
      first_kept (onto xs []) k (omega (arith, e)) ∙ ap (λ (n : ℕ). Keep (k - n)) e

-- ---- under n binders

module _ {A : Type 0} (f : A → A) where
  pub under_bound : (σ : Fates A) (n k : ℕ) → k < n → under_n n f σ k ≡ Keep k
  under_bound σ zero k lt = absurd (omega arith)
  under_bound σ (suc n) zero lt = refl
  under_bound σ (suc n) (suc k) lt = ap (moved f) (under_bound σ n k (omega arith))

  pub under_kept : (σ : Fates A) (n k j : ℕ) → n ≤ k → σ (k - n) ≡ Keep j → under_n n f σ k ≡ Keep (n + j)
  under_kept σ zero k j le e =
      let a : k ≡ k - 0 = omega arith in
      let b : j ≡ 0 + j = omega arith in
      ap σ a ∙ e ∙ ap Keep b
  under_kept σ (suc n) zero j le e = absurd (omega arith)
  under_kept σ (suc n) (suc k) j le e =
      let a : k - n ≡ suc k - suc n = omega arith in
      let b : suc (n + j) ≡ suc n + j = omega arith in
      ap (moved f) (under_kept σ n k j (omega arith) (ap σ a ∙ e)) ∙ ap Keep b

  -- where f n times is g n
  pub under_put : (g : ℕ → A → A) → ((a : A) → g 0 a ≡ a) → ((n : ℕ) (a : A) → f (g n a) ≡ g (suc n) a) →
      (σ : Fates A) (n k : ℕ) (a : A) → n ≤ k → σ (k - n) ≡ Put a → under_n n f σ k ≡ Put (g n a)
  under_put g start step σ zero k a le e = let b : k ≡ k - 0 = omega arith in ap σ b ∙ e ∙ ap Put (sym (start a))
  under_put g start step σ (suc n) zero a le e = absurd (omega arith)
  under_put g start step σ (suc n) (suc k) a le e =
      let b : k - n ≡ suc k - suc n = omega arith in
      ap (moved f) (under_put g start step σ n k a (omega arith) (ap σ b ∙ e)) ∙ ap Put (step n a)

up_none : ◌≡◌ {A = ℕ → ℕ} (up 0) (λ k. k)
up_none = fun_ext (λ k. at k)
  where
    at : (k : ℕ) → 0 + k ≡ k
    at k = omega arith

up_more : (n : ℕ) → (λ (k : ℕ). suc (up n k)) ≡ up (suc n)
up_more n = fun_ext (λ k. at k)
  where
    at : (k : ℕ) → suc (n + k) ≡ suc n + k
    at k = omega arith

pub each_length : {A B : Type 0} (f : A → B) (xs : List A) → length (each f xs) ≡ length xs
each_length f [] = refl
each_length f (x ∷ xs) = ap suc (each_length f xs)

each_at : {A B : Type 0} (f : A → B) (xs : List A) (k : ℕ) (d : A) (e : B) → k < length xs → get_or (each f xs) k e ≡ f (get_or xs k d)
each_at f [] k d e lt = absurd (omega arith)
each_at f (x ∷ xs) zero d e lt = refl
each_at f (x ∷ xs) (suc k) d e lt = each_at f xs k d e (omega arith)

-- what stands in the place of a binder's variable
module _ {A B : Type 0} (f : A → B) (xs : List A) (n k : ℕ) (le : n ≤ k) where
  pub each_kept : length xs ≤ k - n → put_all (each f xs) (k - n) ≡ Keep ((k - n) - length xs)
  each_kept past = all_kept (each f xs) (k - n) (omega (arith, each_length f xs)) ∙ ap (λ (m : ℕ). Keep ((k - n) - m)) (each_length f xs)

  pub each_put : (x : A) → k - n < length xs → x ≡ get_or xs (length xs - 1 - (k - n)) x → put_all (each f xs) (k - n) ≡ Put (f x)
  each_put x lt is =
      all_put (each f xs) (k - n) (f x) (omega (arith, each_length f xs))
      ∙ ap Put (ap (λ (m : ℕ). get_or (each f xs) (m - 1 - (k - n)) (f x)) (each_length f xs) ∙ each_at f xs (length xs - 1 - (k - n)) x (f x) (omega arith) ∙ ap f (sym is))

-- ---- index variables

pub index_bound : (is : List IndexTree) (n k : ℕ) → k < n → indices_at n is k ≡ Keep k
index_bound is n k lt = under_bound index_under (put_all (each index_of is)) n k lt

pub index_kept : (is : List IndexTree) (n k : ℕ) → n ≤ k → length is ≤ k - n → indices_at n is k ≡ Keep (k - length is)
index_kept is n k le past =
    let e : n + ((k - n) - length is) ≡ k - length is = omega arith in
    under_kept index_under (put_all (each index_of is)) n k ((k - n) - length is) le (each_kept index_of is n k le past) ∙ ap Keep e

index_start : (i : Index) → index_renamed (up 0) i ≡ i
index_start i = ap (λ ρ. index_renamed ρ i) up_none ∙ index_renamed_same i

index_step : (n : ℕ) (i : Index) → index_under (index_renamed (up n) i) ≡ index_renamed (up (suc n)) i
index_step n i = index_renamed_twice suc (up n) i ∙ ap (λ ρ. index_renamed ρ i) (up_more n)

pub index_put_at : (is : List IndexTree) (n k : ℕ) (x : IndexTree) → n ≤ k → k - n < length is → x ≡ get_or is (length is - 1 - (k - n)) x → indices_at n is k ≡ Put (index_renamed (up n) (index_of x))
index_put_at is n k x le lt at =
    under_put index_under (λ m. index_renamed (up m)) index_start index_step (put_all (each index_of is)) n k (index_of x) le (each_put index_of is n k le x lt at)

-- ---- term variables

pub term_bound : (ts : List TermExpr) (n k : ℕ) → k < n → terms_at n ts k ≡ Keep k
term_bound ts n k lt = under_bound (λ a. a) (put_all (each term_of ts)) n k lt

pub term_kept : (ts : List TermExpr) (n k : ℕ) → n ≤ k → length ts ≤ k - n → terms_at n ts k ≡ Keep (k - length ts)
term_kept ts n k le past =
    let e : n + ((k - n) - length ts) ≡ k - length ts = omega arith in
    under_kept (λ a. a) (put_all (each term_of ts)) n k ((k - n) - length ts) le (each_kept term_of ts n k le past) ∙ ap Keep e

pub term_put_at : (ts : List TermExpr) (n k : ℕ) (x : TermExpr) → n ≤ k → k - n < length ts → x ≡ get_or ts (length ts - 1 - (k - n)) x → terms_at n ts k ≡ Put (term_of x)
term_put_at ts n k x le lt at =
    under_put (λ a. a) (λ _ a. a) (λ a. refl) (λ m a. refl) (put_all (each term_of ts)) n k (term_of x) le (each_put term_of ts n k le x lt at)

-- ---- type variables

under_indices_kept : (m : ℕ) (τ : Fates Ty) (k j : ℕ) → τ k ≡ Keep j → fates_under_index m τ k ≡ Keep j
under_indices_kept zero τ k j e = e
under_indices_kept (suc m) τ k j e = ap fate_under_index (under_indices_kept m τ k j e)

ty_step : (m n : ℕ) (t : Ty) → ty_under_index (ty_renamed (up m) (up n) t) ≡ ty_renamed (up (suc m)) (up n) t
ty_step m n t = ty_renamed_twice suc same (up m) (up n) t ∙ ap (λ ρ. ty_renamed ρ (up n) t) (up_more m)

under_indices_put : (m : ℕ) (τ : Fates Ty) (k n : ℕ) (t : Ty) → τ k ≡ Put (ty_renamed (up 0) (up n) t) → fates_under_index m τ k ≡ Put (ty_renamed (up m) (up n) t)
under_indices_put zero τ k n t e = e
under_indices_put (suc m) τ k n t e = ap fate_under_index (under_indices_put m τ k n t e) ∙ ap Put (ty_step m n t)

ty_start : (t : Ty) → ty_renamed (up 0) (up 0) t ≡ t
ty_start t = (λ i. ty_renamed (up_none i) (up_none i) t) ∙ ty_renamed_same t

ty_type_step : (n : ℕ) (t : Ty) → ty_under_type (ty_renamed (up 0) (up n) t) ≡ ty_renamed (up 0) (up (suc n)) t
ty_type_step n t = ty_renamed_twice same suc (up 0) (up n) t ∙ ap (λ τ. ty_renamed (up 0) τ t) (up_more n)

pub type_bound : (ts : List Tree) (n m k : ℕ) → k < n → types_at n m ts k ≡ Keep k
type_bound ts n m k lt =
    under_indices_kept m (under_n n ty_under_type (put_all (each ty_of ts))) k k (under_bound ty_under_type (put_all (each ty_of ts)) n k lt)

pub type_kept : (ts : List Tree) (n m k : ℕ) → n ≤ k → length ts ≤ k - n → types_at n m ts k ≡ Keep (k - length ts)
type_kept ts n m k le past =
    let e : n + ((k - n) - length ts) ≡ k - length ts = omega arith in
    under_indices_kept m (under_n n ty_under_type (put_all (each ty_of ts))) k (k - length ts)
    (under_kept ty_under_type (put_all (each ty_of ts)) n k ((k - n) - length ts) le (each_kept ty_of ts n k le past) ∙ ap Keep e)

pub type_put_at : (ts : List Tree) (n m k : ℕ) (x : Tree) → n ≤ k → k - n < length ts → x ≡ get_or ts (length ts - 1 - (k - n)) x → types_at n m ts k ≡ Put (ty_renamed (up m) (up n) (ty_of x))
type_put_at ts n m k x le lt at =
    under_indices_put m (under_n n ty_under_type (put_all (each ty_of ts))) k n (ty_of x)
    (under_put ty_under_type (λ j. ty_renamed (up 0) (up j)) ty_start ty_type_step (put_all (each ty_of ts)) n k (ty_of x) le (each_put ty_of ts n k le x lt at))

-- ---- binders more

pub under_more : {A : Type 0} (f : A → A) (j n : ℕ) (σ : Fates A) → under_n j f (under_n n f σ) ≡ under_n (n + j) f σ
under_more f zero n σ = let e : n ≡ n + 0 = omega arith in ap (λ m. under_n m f σ) e
under_more f (suc j) n σ = let e : suc (n + j) ≡ n + suc j = omega arith in ap (under f) (under_more f j n σ) ∙ ap (λ m. under_n m f σ) e

indices_more : (j m : ℕ) (τ : Fates Ty) → fates_under_index j (fates_under_index m τ) ≡ fates_under_index (m + j) τ
indices_more zero m τ = let e : m ≡ m + 0 = omega arith in ap (λ n. fates_under_index n τ) e
indices_more (suc j) m τ = let e : suc (m + j) ≡ m + suc j = omega arith in ap (λ υ k. fate_under_index (υ k)) (indices_more j m τ) ∙ ap (λ n. fates_under_index n τ) e

-- a binder of each sort, in either order
swapped : (f : Fate Ty) → moved ty_under_type (fate_under_index f) ≡ fate_under_index (moved ty_under_type f)
swapped (Keep k) = refl
swapped (Put t) = ap Put (ty_renamed_twice same suc suc same t ∙ sym (ty_renamed_twice suc same same suc t))

swapped_at : (τ : Fates Ty) (k : ℕ) → under ty_under_type (λ j. fate_under_index (τ j)) k ≡ fate_under_index (under ty_under_type τ k)
swapped_at τ zero = refl
swapped_at τ (suc k) = swapped (τ k)

swapped_all : (m : ℕ) (τ : Fates Ty) → under ty_under_type (fates_under_index m τ) ≡ fates_under_index m (under ty_under_type τ)
swapped_all zero τ = refl
swapped_all (suc m) τ = fun_ext (swapped_at (fates_under_index m τ)) ∙ ap (λ υ k. fate_under_index (υ k)) (swapped_all m τ)

types_out : (j m : ℕ) (τ : Fates Ty) → under_n j ty_under_type (fates_under_index m τ) ≡ fates_under_index m (under_n j ty_under_type τ)
types_out zero m τ = refl
types_out (suc j) m τ = ap (under ty_under_type) (types_out j m τ) ∙ swapped_all m (under_n j ty_under_type τ)

pub types_at_forall : (ts : List Tree) (j n m : ℕ) → under_n j ty_under_type (types_at n m ts) ≡ types_at (n + j) m ts
types_at_forall ts j n m = types_out j m (under_n n ty_under_type (put_all (each ty_of ts))) ∙ ap (fates_under_index m) (under_more ty_under_type j n (put_all (each ty_of ts)))

pub types_at_pi : (ts : List Tree) (j n m : ℕ) → fates_under_index j (types_at n m ts) ≡ types_at n (m + j) ts
types_at_pi ts j n m = indices_more j m (under_n n ty_under_type (put_all (each ty_of ts)))

pub indices_at_pi : (is : List IndexTree) (j m : ℕ) → indices_under j (indices_at m is) ≡ indices_at (m + j) is
indices_at_pi is j m = under_more index_under j m (put_all (each index_of is))

pub terms_at_fn : (ts : List TermExpr) (j n : ℕ) → terms_under j (terms_at n ts) ≡ terms_at (n + j) ts
terms_at_fn ts j n = under_more (λ a. a) j n (put_all (each term_of ts))

-- ---- outside, where some kinds of variables are kept

nothing_put : {A : Type 0} → ◌≡◌ {A = Fates A} (put_all []) (λ k. Keep k)
nothing_put = fun_ext (λ k. refl)

pub no_indices : indices_at 0 [] ≡ kept
no_indices = nothing_put

pub no_types : types_at 0 0 [] ≡ kept
no_types = nothing_put

pub no_terms_at : terms_at 0 [] ≡ kept
no_terms_at = nothing_put

pub put_nothing : puts_at 0 0 [] [] ≡ typed_rules.put_none
put_nothing = λ i. record { indices = no_indices i; types = no_types i }

pub put_types_only : (ts : List Tree) → puts_at 0 0 [] ts ≡ typed_rules.put_types (each ty_of ts)
put_types_only ts = λ i. record { indices = no_indices i; types = types_at 0 0 ts }

pub put_indices_only : (is : List IndexTree) → puts_at 0 0 is [] ≡ record { indices = put_all (each index_of is); types = kept }
put_indices_only is = λ i. record { indices = indices_at 0 is; types = no_types i }
