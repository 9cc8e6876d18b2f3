-- Substitution keeps indices well sorted and types well formed.
use Rattle.std.proofs.Common.{◌≡◌, refl, ap, subst, ℕ, zero, suc, ◌+◌, ◌<◌, arith, List, [], ◌∷◌, length, Some, true}
use Rattle.std.specs.Prelude.{slice_get}
use Rattle.core_syntax.specs.declared.span.Span.{Span}
use Rattle.core_syntax.specs.declared.index.Sort.{Sort}
use Rattle.core_syntax.specs.declared.index.Sort.TheVariants as sort
use Rattle.core_syntax.specs.Syntax.{Index, Num, Var, Sum, Dims, Join, Indices, end, more, Ty, BaseTy, TyVar, Fun, Forall, Pi, Sigma, Arr, Tys, no_tys, more_tys}
use Rattle.core_syntax.specs.Lists.{onto}
use Rattle.core_syntax.specs.Sorts.{IsSorted, AreSorted}
use Rattle.core_syntax.specs.Kinds.{IsWellFormed, AreWellFormed, is_atom_kind}
use Rattle.core_syntax.specs.Subst.{Fate, Keep, Put, Fates, moved, under, under_n, in_place, index_renamed, indices_renamed, index_under, index_put, indices_put, indices_under, past, past_n, same, ty_renamed, tys_renamed, ty_put, tys_put, ty_under_type, fate_under_index, fates_under_index}

-- the fates under n binders more, one of them first
pub under_inside : {A : Type 0} (n : ℕ) (f : A → A) (σ : Fates A) → under_n n f (under f σ) ≡ under f (under_n n f σ)
under_inside zero f σ = refl
under_inside (suc n) f σ = ap (under f) (under_inside n f σ)

-- ---- new numbers

abbrev pub NumbersSorted : (ℕ → ℕ) → List Sort → List Sort → Type 0
NumbersSorted ρ ss rs = (k : ℕ) (s : Sort) → slice_get ss k ≡ Some s → slice_get rs (ρ k) ≡ Some s

abbrev pub NumbersFormed : (ℕ → ℕ) → ℕ → ℕ → Type 0
NumbersFormed ρ m n = (k : ℕ) → k < m → ρ k < n

past_inside : (n : ℕ) (ρ : ℕ → ℕ) → past_n n (past ρ) ≡ past (past_n n ρ)
past_inside zero ρ = refl
past_inside (suc n) ρ = ap past (past_inside n ρ)

numbers_cons : (ρ : ℕ → ℕ) (ss rs : List Sort) (q : Sort) → NumbersSorted ρ ss rs → NumbersSorted (past ρ) (q ∷ ss) (q ∷ rs)
numbers_cons ρ ss rs q h zero s e = e
numbers_cons ρ ss rs q h (suc k) s e = h k s e

numbers_onto : (qs : List Sort) (ρ : ℕ → ℕ) (ss rs : List Sort) → NumbersSorted ρ ss rs → NumbersSorted (past_n (length qs) ρ) (onto qs ss) (onto qs rs)
numbers_onto [] ρ ss rs h = h
numbers_onto (q ∷ qs) ρ ss rs h = subst (λ ρ. NumbersSorted ρ (onto qs (q ∷ ss)) (onto qs (q ∷ rs))) (past_inside (length qs) ρ) (numbers_onto qs (past ρ) (q ∷ ss) (q ∷ rs) (numbers_cons ρ ss rs q h))

numbers_past : (ρ : ℕ → ℕ) (m n : ℕ) → NumbersFormed ρ m n → NumbersFormed (past ρ) (suc m) (suc n)
numbers_past ρ m n h zero lt = omega arith
numbers_past ρ m n h (suc k) lt = let g = h k (omega arith) in omega arith

numbers_past_n : (j : ℕ) (ρ : ℕ → ℕ) (m n : ℕ) → NumbersFormed ρ m n → NumbersFormed (past_n j ρ) (j + m) (j + n)
numbers_past_n zero ρ m n h k lt = let g = h k (omega arith) in omega arith
numbers_past_n (suc j) ρ m n h k lt = let g = numbers_past (past_n j ρ) (j + m) (j + n) (numbers_past_n j ρ m n h) k (omega arith) in omega arith

mutual
  pub sorted_renamed : (ρ : ℕ → ℕ) (ss rs : List Sort) → NumbersSorted ρ ss rs → (s : Sort) (i : Index) → IsSorted ss s i → IsSorted rs s (index_renamed ρ i)
  sorted_renamed ρ ss rs w s (Num at n) h = h
  sorted_renamed ρ ss rs w s (Var at k) h = w k s h
  sorted_renamed ρ ss rs w s (Sum at is) h = (h.0, all_sorted_renamed ρ ss rs w sort.Dim is h.1)
  sorted_renamed ρ ss rs w s (Dims at is) h = (h.0, all_sorted_renamed ρ ss rs w sort.Dim is h.1)
  sorted_renamed ρ ss rs w s (Join at is) h = (h.0, all_sorted_renamed ρ ss rs w sort.Shape is h.1)

  all_sorted_renamed : (ρ : ℕ → ℕ) (ss rs : List Sort) → NumbersSorted ρ ss rs → (s : Sort) (is : Indices) → AreSorted ss s is → AreSorted rs s (indices_renamed ρ is)
  all_sorted_renamed ρ ss rs w s end h = tt
  all_sorted_renamed ρ ss rs w s (more i is) h = (sorted_renamed ρ ss rs w s i h.0, all_sorted_renamed ρ ss rs w s is h.1)

pub kind_renamed : (ρ τ : ℕ → ℕ) (t : Ty) → is_atom_kind t ≡ true → is_atom_kind (ty_renamed ρ τ t) ≡ true
kind_renamed ρ τ (Arr at t i) h = h
kind_renamed ρ τ (BaseTy at b) h = refl
kind_renamed ρ τ (TyVar at k) h = refl
kind_renamed ρ τ (Fun at ts r) h = refl
kind_renamed ρ τ (Forall at n t) h = refl
kind_renamed ρ τ (Pi at ss t) h = refl
kind_renamed ρ τ (Sigma at ss t) h = refl

mutual
  pub formed_renamed : (ρ τ : ℕ → ℕ) (m n : ℕ) (ss rs : List Sort) → NumbersSorted ρ ss rs → NumbersFormed τ m n → (t : Ty) → IsWellFormed m ss t → IsWellFormed n rs (ty_renamed ρ τ t)
  formed_renamed ρ τ m n ss rs w f (BaseTy at b) h = tt
  formed_renamed ρ τ m n ss rs w f (TyVar at k) h = f k h
  formed_renamed ρ τ m n ss rs w f (Fun at ts r) h = (all_formed_renamed ρ τ m n ss rs w f ts h.0, formed_renamed ρ τ m n ss rs w f r h.1)
  formed_renamed ρ τ m n ss rs w f (Forall at k t) h = formed_renamed ρ (past_n k τ) (k + m) (k + n) ss rs w (numbers_past_n k τ m n f) t h
  formed_renamed ρ τ m n ss rs w f (Pi at qs t) h = formed_renamed (past_n (length qs) ρ) τ m n (onto qs ss) (onto qs rs) (numbers_onto qs ρ ss rs w) f t h
  formed_renamed ρ τ m n ss rs w f (Sigma at qs t) h = formed_renamed (past_n (length qs) ρ) τ m n (onto qs ss) (onto qs rs) (numbers_onto qs ρ ss rs w) f t h
  formed_renamed ρ τ m n ss rs w f (Arr at t i) h = (kind_renamed ρ τ t h.0, sorted_renamed ρ ss rs w sort.Shape i h.1, formed_renamed ρ τ m n ss rs w f t h.2)

  all_formed_renamed : (ρ τ : ℕ → ℕ) (m n : ℕ) (ss rs : List Sort) → NumbersSorted ρ ss rs → NumbersFormed τ m n → (ts : Tys) → AreWellFormed m ss ts → AreWellFormed n rs (tys_renamed ρ τ ts)
  all_formed_renamed ρ τ m n ss rs w f no_tys h = tt
  all_formed_renamed ρ τ m n ss rs w f (more_tys t ts) h = (formed_renamed ρ τ m n ss rs w f t h.0, all_formed_renamed ρ τ m n ss rs w f ts h.1)

-- ---- fates

abbrev pub FateSorted : List Sort → Sort → Fate Index → Type 0
FateSorted rs s (Keep k) = slice_get rs k ≡ Some s
FateSorted rs s (Put i) = IsSorted rs s i

abbrev pub FatesSorted : List Sort → List Sort → Fates Index → Type 0
FatesSorted ss rs σ = (k : ℕ) (s : Sort) → slice_get ss k ≡ Some s → FateSorted rs s (σ k)

abbrev pub FateFormed : ℕ → List Sort → Fate Ty → Type 0
FateFormed n rs (Keep k) = k < n
FateFormed n rs (Put t) = (is_atom_kind t ≡ true) × IsWellFormed n rs t

abbrev pub FatesFormed : ℕ → ℕ → List Sort → Fates Ty → Type 0
FatesFormed m n rs τ = (k : ℕ) → k < m → FateFormed n rs (τ k)

moved_sorted : (rs : List Sort) (q s : Sort) (f : Fate Index) → FateSorted rs s f → FateSorted (q ∷ rs) s (moved index_under f)
moved_sorted rs q s (Keep k) h = h
moved_sorted rs q s (Put i) h = sorted_renamed suc rs (q ∷ rs) (λ k s e. e) s i h

sorted_cons : (ss rs : List Sort) (q : Sort) (σ : Fates Index) → FatesSorted ss rs σ → FatesSorted (q ∷ ss) (q ∷ rs) (under index_under σ)
sorted_cons ss rs q σ h zero s e = e
sorted_cons ss rs q σ h (suc k) s e = moved_sorted rs q s (σ k) (h k s e)

pub sorted_onto : (qs ss rs : List Sort) (σ : Fates Index) → FatesSorted ss rs σ → FatesSorted (onto qs ss) (onto qs rs) (indices_under (length qs) σ)
sorted_onto [] ss rs σ h = h
sorted_onto (q ∷ qs) ss rs σ h =
    subst (λ σ. FatesSorted (onto qs (q ∷ ss)) (onto qs (q ∷ rs)) σ) (under_inside (length qs) index_under σ) (sorted_onto qs (q ∷ ss) (q ∷ rs) (under index_under σ) (sorted_cons ss rs q σ h))

moved_formed : (n : ℕ) (rs : List Sort) (f : Fate Ty) → FateFormed n rs f → FateFormed (suc n) rs (moved ty_under_type f)
moved_formed n rs (Keep k) h = omega arith
moved_formed n rs (Put t) h = (kind_renamed same suc t h.0, formed_renamed same suc n (suc n) rs rs (λ k s e. e) (λ k lt. omega arith) t h.1)

formed_under : (m n : ℕ) (rs : List Sort) (τ : Fates Ty) → FatesFormed m n rs τ → FatesFormed (suc m) (suc n) rs (under ty_under_type τ)
formed_under m n rs τ h zero lt = omega arith
formed_under m n rs τ h (suc k) lt = moved_formed n rs (τ k) (h k (omega arith))

pub formed_under_n : (j m n : ℕ) (rs : List Sort) (τ : Fates Ty) → FatesFormed m n rs τ → FatesFormed (j + m) (j + n) rs (under_n j ty_under_type τ)
formed_under_n zero m n rs τ h k lt = subst (λ z. FateFormed z rs (τ k)) (let e : n ≡ 0 + n = omega arith in e) (h k (omega arith))
formed_under_n (suc j) m n rs τ h k lt =
    subst (λ z. FateFormed z rs (under_n (suc j) ty_under_type τ k)) (let e : suc (j + n) ≡ suc j + n = omega arith in e)
    (formed_under (j + m) (j + n) rs (under_n j ty_under_type τ) (formed_under_n j m n rs τ h) k (omega arith))

index_formed : (n : ℕ) (rs : List Sort) (q : Sort) (f : Fate Ty) → FateFormed n rs f → FateFormed n (q ∷ rs) (fate_under_index f)
index_formed n rs q (Keep k) h = h
index_formed n rs q (Put t) h = (kind_renamed suc same t h.0, formed_renamed suc same n n rs (q ∷ rs) (λ k s e. e) (λ k lt. lt) t h.1)

types_inside : (n : ℕ) (τ : Fates Ty) → fates_under_index n (λ k. fate_under_index (τ k)) ≡ fates_under_index (suc n) τ
types_inside zero τ = refl
types_inside (suc n) τ = ap (λ υ k. fate_under_index (υ k)) (types_inside n τ)

pub formed_onto : (qs : List Sort) (m n : ℕ) (rs : List Sort) (τ : Fates Ty) → FatesFormed m n rs τ → FatesFormed m n (onto qs rs) (fates_under_index (length qs) τ)
formed_onto [] m n rs τ h = h
formed_onto (q ∷ qs) m n rs τ h =
    subst (λ τ. FatesFormed m n (onto qs (q ∷ rs)) τ) (types_inside (length qs) τ) (formed_onto qs m n (q ∷ rs) (λ k. fate_under_index (τ k)) (λ k lt. index_formed n rs q (τ k) (h k lt)))

-- ---- substitution

mutual
  pub sorted_put : (ss rs : List Sort) (σ : Fates Index) → FatesSorted ss rs σ → (s : Sort) (i : Index) → IsSorted ss s i → IsSorted rs s (index_put σ i)
  sorted_put ss rs σ w s (Num at n) h = h
  sorted_put ss rs σ w s (Var at k) h = by (σ k) (w k s h)
    where
      by : (f : Fate Index) → FateSorted rs s f → IsSorted rs s (in_place (Var at) f)
      by (Keep j) h = h
      by (Put i) h = h
  sorted_put ss rs σ w s (Sum at is) h = (h.0, all_sorted_put ss rs σ w sort.Dim is h.1)
  sorted_put ss rs σ w s (Dims at is) h = (h.0, all_sorted_put ss rs σ w sort.Dim is h.1)
  sorted_put ss rs σ w s (Join at is) h = (h.0, all_sorted_put ss rs σ w sort.Shape is h.1)

  all_sorted_put : (ss rs : List Sort) (σ : Fates Index) → FatesSorted ss rs σ → (s : Sort) (is : Indices) → AreSorted ss s is → AreSorted rs s (indices_put σ is)
  all_sorted_put ss rs σ w s end h = tt
  all_sorted_put ss rs σ w s (more i is) h = (sorted_put ss rs σ w s i h.0, all_sorted_put ss rs σ w s is h.1)

fate_ty : (n : ℕ) (rs : List Sort) (at : Span) (f : Fate Ty) → FateFormed n rs f → (is_atom_kind (in_place (TyVar at) f) ≡ true) × IsWellFormed n rs (in_place (TyVar at) f)
fate_ty n rs at (Keep k) h = (refl, h)
fate_ty n rs at (Put t) h = h

pub kind_put : (m n : ℕ) (ss rs : List Sort) (σ : Fates Index) (τ : Fates Ty) → FatesFormed m n rs τ → (t : Ty) → IsWellFormed m ss t → is_atom_kind t ≡ true → is_atom_kind (ty_put σ τ t) ≡ true
kind_put m n ss rs σ τ f (TyVar at k) w h = (fate_ty n rs at (τ k) (f k w)).0
kind_put m n ss rs σ τ f (Arr at t i) w h = h
kind_put m n ss rs σ τ f (BaseTy at b) w h = refl
kind_put m n ss rs σ τ f (Fun at ts r) w h = refl
kind_put m n ss rs σ τ f (Forall at k t) w h = refl
kind_put m n ss rs σ τ f (Pi at qs t) w h = refl
kind_put m n ss rs σ τ f (Sigma at qs t) w h = refl

mutual
  pub formed_put : (m n : ℕ) (ss rs : List Sort) (σ : Fates Index) (τ : Fates Ty) → FatesSorted ss rs σ → FatesFormed m n rs τ → (t : Ty) → IsWellFormed m ss t → IsWellFormed n rs (ty_put σ τ t)
  formed_put m n ss rs σ τ w f (BaseTy at b) h = tt
  formed_put m n ss rs σ τ w f (TyVar at k) h = (fate_ty n rs at (τ k) (f k h)).1
  formed_put m n ss rs σ τ w f (Fun at ts r) h = (all_formed_put m n ss rs σ τ w f ts h.0, formed_put m n ss rs σ τ w f r h.1)
  formed_put m n ss rs σ τ w f (Forall at k t) h = formed_put (k + m) (k + n) ss rs σ (under_n k ty_under_type τ) w (formed_under_n k m n rs τ f) t h
  formed_put m n ss rs σ τ w f (Pi at qs t) h =
      formed_put m n (onto qs ss) (onto qs rs) (indices_under (length qs) σ) (fates_under_index (length qs) τ) (sorted_onto qs ss rs σ w) (formed_onto qs m n rs τ f) t h
  formed_put m n ss rs σ τ w f (Sigma at qs t) h =
      formed_put m n (onto qs ss) (onto qs rs) (indices_under (length qs) σ) (fates_under_index (length qs) τ) (sorted_onto qs ss rs σ w) (formed_onto qs m n rs τ f) t h
  formed_put m n ss rs σ τ w f (Arr at t i) h = (kind_put m n ss rs σ τ f t h.2 h.0, sorted_put ss rs σ w sort.Shape i h.1, formed_put m n ss rs σ τ w f t h.2)

  pub all_formed_put : (m n : ℕ) (ss rs : List Sort) (σ : Fates Index) (τ : Fates Ty) → FatesSorted ss rs σ → FatesFormed m n rs τ → (ts : Tys) → AreWellFormed m ss ts → AreWellFormed n rs (tys_put σ τ ts)
  all_formed_put m n ss rs σ τ w f no_tys h = tt
  all_formed_put m n ss rs σ τ w f (more_tys t ts) h = (formed_put m n ss rs σ τ w f t h.0, all_formed_put m n ss rs σ τ w f ts h.1)
