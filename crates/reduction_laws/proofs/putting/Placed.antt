-- Types and indices in the places of a binder's variables, in any context.
use Rattle.std.proofs.Common.{◌≡◌, refl, ap, subst, ℕ, zero, suc, ◌+◌, ◌<◌, arith, List, [], ◌∷◌, ◌++◌, length}
use Rattle.core_syntax.specs.declared.index.Sort.{Sort}
use Rattle.core_syntax.specs.Syntax.{Index, Ty}
use Rattle.core_syntax.specs.Lists.{onto, Each, EachTwo}
use Rattle.core_syntax.specs.Sorts.{IsSorted}
use Rattle.core_syntax.specs.Kinds.{IsWellFormed}
use Rattle.core_syntax.specs.Subst.{kept, put_first, put_all, same, ty_under_index, with_types, with_indices}
use Rattle.core_syntax.specs.Typing.{Context, times, IsAtomType}
use Rattle.core_syntax.proofs.Unique.{some_is}
use Rattle.reduction_laws.proofs.putting.Binders.{length-reversed}
use Rattle.reduction_laws.proofs.putting.Formed.{FatesSorted, FateFormed, formed_renamed, formed_put}
use Rattle.reduction_laws.proofs.steps.Bodies.{two_onto}

-- ---- indices

onto_front : {A : Type 0} (xs ys zs : List A) → onto xs (ys ++ zs) ≡ onto xs ys ++ zs
onto_front [] ys zs = refl
onto_front (x ∷ xs) ys zs = onto_front xs (x ∷ ys) zs

first_sorted : (rs ss : List Sort) (is : List Index) → EachTwo (IsSorted rs) ss is → FatesSorted (ss ++ rs) rs (put_first is)
first_sorted rs [] [] h k s e = e
first_sorted rs [] (i ∷ is) h k s e = absurd h
first_sorted rs (q ∷ ss) [] h k s e = absurd h
first_sorted rs (q ∷ ss) (i ∷ is) h zero s e = subst (λ s. IsSorted rs s i) (some_is q s e) h.0
first_sorted rs (q ∷ ss) (i ∷ is) h (suc k) s e = first_sorted rs ss is h.1 k s e

pub indices_formed : (Γ : Context) (ss : List Sort) (is : List Index) (b : Ty) → EachTwo (IsSorted Γ.sorts) ss is
    → IsWellFormed Γ.types (onto ss Γ.sorts) b → IsWellFormed Γ.types Γ.sorts (with_indices is b)
indices_formed Γ ss is b h w =
    formed_put Γ.types Γ.types (onto ss [] ++ Γ.sorts) Γ.sorts (put_all is) kept
    (first_sorted Γ.sorts (onto ss []) (onto is []) (two_onto (IsSorted Γ.sorts) ss is [] [] h tt)) (λ k lt. lt) b
    (subst (λ rs. IsWellFormed Γ.types rs b) (onto_front ss [] Γ.sorts) w)

-- ---- types

first_formed : (Γ : Context) (us : List Ty) → Each (IsAtomType Γ) us → (k : ℕ) → k < length us + Γ.types → FateFormed Γ.types Γ.sorts (put_first us k)
first_formed Γ [] h k lt = omega arith
first_formed Γ (u ∷ us) h zero lt = h.0
first_formed Γ (u ∷ us) h (suc k) lt = first_formed Γ us h.1 k (omega arith)

each_onto : {A : Type 0} (P : A → Type 0) (xs ys : List A) → Each P xs → Each P ys → Each P (onto xs ys)
each_onto P [] ys h k = k
each_onto P (x ∷ xs) ys h k = each_onto P xs (x ∷ ys) h.1 (h.0, k)

pub types_formed : (Γ : Context) (us : List Ty) (b : Ty) → Each (IsAtomType Γ) us → IsWellFormed (length us + Γ.types) Γ.sorts b → IsWellFormed Γ.types Γ.sorts (with_types us b)
types_formed Γ us b h w =
    formed_put (length us + Γ.types) Γ.types Γ.sorts Γ.sorts kept (put_all us) (λ k s e. e)
    (λ k lt. first_formed Γ (onto us []) (each_onto (IsAtomType Γ) us [] h tt) k (let e = length-reversed us in omega arith)) b w

-- ---- a type under index binders more

times_inside : {A : Type 0} (n : ℕ) (f : A → A) (a : A) → times n f (f a) ≡ f (times n f a)
times_inside zero f a = refl
times_inside (suc n) f a = ap f (times_inside n f a)

pub under_sorts_formed : (qs : List Sort) (m : ℕ) (rs : List Sort) (t : Ty) → IsWellFormed m rs t → IsWellFormed m (onto qs rs) (times (length qs) ty_under_index t)
under_sorts_formed [] m rs t h = h
under_sorts_formed (q ∷ qs) m rs t h =
    subst (IsWellFormed m (onto qs (q ∷ rs))) (times_inside (length qs) ty_under_index t)
    (under_sorts_formed qs m (q ∷ rs) (ty_under_index t) (formed_renamed suc same m m rs (q ∷ rs) (λ k s e. e) (λ k lt. lt) t h))
