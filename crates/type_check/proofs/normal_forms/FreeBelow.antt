-- The numbers of free variables of a type whose variables are renamed.
use Rattle.std.proofs.Common.{◌≡◌, refl, sym, ap, subst, ℕ, zero, suc, ◌+◌, ◌-◌, ◌<◌, ◌^◌, arith, List, [], ◌∷◌, length, Some}
use Rattle.std.specs.Prelude.{slice_get}
use Rattle.core_syntax.specs.declared.index.Sort.{Sort}
use Rattle.core_syntax.specs.declared.index.Sort.TheVariants as sort
use Rattle.core_syntax.specs.Syntax.{Index, Num, Var, Sum, Dims, Join, Indices, end, more, Ty, BaseTy, TyVar, Fun, Forall, Pi, Sigma, Arr, Tys, no_tys, more_tys}
use Rattle.core_syntax.specs.Lists.{onto}
use Rattle.core_syntax.specs.Kinds.{IsWellFormed, AreWellFormed}
use Rattle.core_syntax.specs.Made.{IndexMade, IndicesMade}
use Rattle.core_syntax.specs.Sorts.{IsSorted, AreSorted}
use Rattle.core_syntax.specs.Subst.{past, past_n, index_renamed, indices_renamed, ty_renamed, tys_renamed}
use Rattle.type_equal.specs.Moved.{IsFreeBelow, AreFreeBelow}
use Rattle.type_check.specs.State.{further}
use Rattle.type_check.proofs.contexts.Binding.{onto_length}
use Rattle.type_check.proofs.substitution.Renamed.{further_none}

-- a number whose new number is below m is below a
abbrev Reflects : (ℕ → ℕ) → ℕ → ℕ → Type 0
Reflects ρ m a = (k : ℕ) → ρ k < m → k < a

reflects_past : (n : ℕ) (ρ : ℕ → ℕ) (m a : ℕ) → Reflects ρ m a → Reflects (past_n n ρ) (n + m) (n + a)
reflects_past zero ρ m a h k lt = let g = h k (omega arith) in omega (arith, g)
reflects_past (suc n) ρ m a h zero lt = omega arith
reflects_past (suc n) ρ m a h (suc k) lt = let g = reflects_past n ρ m a h k (omega arith) in omega (arith, g)

found_below : (ss : List Sort) (k : ℕ) (s : Sort) → slice_get ss k ≡ Some s → k < length ss
found_below [] k s e = absurd (cc)
found_below (r ∷ rs) zero s e = omega arith
found_below (r ∷ rs) (suc k) s e = let h = found_below rs k s e in omega (arith, h)

mutual
  index_below : (ρ : ℕ → ℕ) (ss : List Sort) (b : ℕ) → Reflects ρ (length ss) b → (s : Sort) (i : Index) → IsSorted ss s (index_renamed ρ i) → IndexMade b i
  index_below ρ ss b r s (Num at n) h = tt
  index_below ρ ss b r s (Var at k) h = r k (found_below ss (ρ k) s h)
  index_below ρ ss b r s (Sum at is) h = indices_below ρ ss b r sort.Dim is h.1
  index_below ρ ss b r s (Dims at is) h = indices_below ρ ss b r sort.Dim is h.1
  index_below ρ ss b r s (Join at is) h = indices_below ρ ss b r sort.Shape is h.1

  indices_below : (ρ : ℕ → ℕ) (ss : List Sort) (b : ℕ) → Reflects ρ (length ss) b → (s : Sort) (is : Indices) → AreSorted ss s (indices_renamed ρ is) → IndicesMade b is
  indices_below ρ ss b r s end h = tt
  indices_below ρ ss b r s (more i is) h = (index_below ρ ss b r s i h.0, indices_below ρ ss b r s is h.1)

under_onto : (qs ss : List Sort) (ρ : ℕ → ℕ) (b : ℕ) → Reflects ρ (length ss) b → Reflects (past_n (length qs) ρ) (length (onto qs ss)) (length qs + b)
under_onto qs ss ρ b r = subst (λ m. Reflects (past_n (length qs) ρ) m (length qs + b)) (sym (onto_length qs ss)) (reflects_past (length qs) ρ (length ss) b r)

mutual
  free_below : (ρ τ : ℕ → ℕ) (m a : ℕ) (ss : List Sort) (b : ℕ) → Reflects τ m a → Reflects ρ (length ss) b → (t : Ty) → IsWellFormed m ss (ty_renamed ρ τ t) → IsFreeBelow a b t
  free_below ρ τ m a ss b q r (BaseTy at c) h = tt
  free_below ρ τ m a ss b q r (TyVar at k) h = q k h
  free_below ρ τ m a ss b q r (Fun at ts u) h = (all_free_below ρ τ m a ss b q r ts h.0, free_below ρ τ m a ss b q r u h.1)
  free_below ρ τ m a ss b q r (Forall at n t) h = free_below ρ (past_n n τ) (n + m) (n + a) ss b (reflects_past n τ m a q) r t h
  free_below ρ τ m a ss b q r (Pi at qs t) h = free_below (past_n (length qs) ρ) τ m a (onto qs ss) (length qs + b) q (under_onto qs ss ρ b r) t h
  free_below ρ τ m a ss b q r (Sigma at qs t) h = free_below (past_n (length qs) ρ) τ m a (onto qs ss) (length qs + b) q (under_onto qs ss ρ b r) t h
  free_below ρ τ m a ss b q r (Arr at t i) h = (free_below ρ τ m a ss b q r t h.2, index_below ρ ss b r sort.Shape i h.1)

  all_free_below : (ρ τ : ℕ → ℕ) (m a : ℕ) (ss : List Sort) (b : ℕ) → Reflects τ m a → Reflects ρ (length ss) b → (ts : Tys) → AreWellFormed m ss (tys_renamed ρ τ ts) → AreFreeBelow a b ts
  all_free_below ρ τ m a ss b q r no_tys h = tt
  all_free_below ρ τ m a ss b q r (more_tys t ts) h = (free_below ρ τ m a ss b q r t h.0, all_free_below ρ τ m a ss b q r ts h.1)

-- a type that is well formed under so many binders more may be moved under them
pub may_move : (i j m : ℕ) (ss : List Sort) (t : Ty) → m < 2 ^ 31 → length ss < 2 ^ 31 → IsWellFormed m ss (further i j t) → IsFreeBelow (3221225472 - j) (3221225472 - i) t
may_move i j m ss t types indices h = free_below (λ k. i + k) (λ k. j + k) m (3221225472 - j) ss (3221225472 - i) (λ k lt. omega (arith, types)) (λ k lt. omega (arith, indices)) t h

-- and a closed one where it is
pub may_stay : (t : Ty) → IsWellFormed 0 [] t → IsFreeBelow (3221225472 - 0) (3221225472 - 0) t
may_stay t h = may_move 0 0 0 [] t (omega arith) (omega arith) (subst (IsWellFormed 0 []) (sym (further_none t)) h)
