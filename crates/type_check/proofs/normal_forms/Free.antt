-- The numbers of free variables of what is formed in a scope.
use Rattle.std.proofs.Common.{◌≡◌, refl, sym, subst, ℕ, zero, suc, ◌+◌, ◌-◌, ◌<◌, ◌≤◌, arith, List, [], ◌∷◌, length, Some}
use Rattle.std.specs.Prelude.{slice_get}
use Rattle.core_syntax.specs.declared.index.Sort.{Sort}
use Rattle.core_syntax.specs.declared.index.Sort.TheVariants as sort
use Rattle.core_syntax.specs.declared.norm.NormIndex.{NormIndex}
use Rattle.core_syntax.specs.declared.ty.Ty.{Ty as Tree}
use Rattle.core_syntax.specs.Syntax.{Index, Num, Var, Sum, Dims, Join, Indices, end, more, Ty, BaseTy, TyVar, Fun, Forall, Pi, Sigma, Arr, Tys, no_tys, more_tys}
use Rattle.core_syntax.specs.Lists.{onto, Each}
use Rattle.core_syntax.specs.Sorts.{IsSorted, AreSorted}
use Rattle.core_syntax.specs.Kinds.{IsWellFormed, AreWellFormed}
use Rattle.core_syntax.specs.Made.{IndexMade, IndicesMade}
use Rattle.core_syntax.specs.Norm.{norm_at, norm_dim, norm_word}
use Rattle.core_syntax.specs.NormTypes.{norm_ty}
use Rattle.core_syntax.specs.Refine.{ty_of}
use Rattle.core_syntax.specs.Typing.{Context}
use Rattle.core_syntax.proofs.NormLemmas.{CountsDims-norm, WordIsIn-norm}
use Rattle.type_equal.specs.Moved.{IsFreeBelow, AreFreeBelow, free_limit}
use Rattle.type_equal.specs.Put.{IsTreeSmall, IsIndexSmall, index_tree}
use Rattle.core_syntax.specs.declared.span.Span.{Span}
use Rattle.core_syntax.specs.Syntax.{no_span}
use Rattle.type_check.specs.Contexts.{IsSound}
use Rattle.type_check.specs.Written.{HasScope, HasRoom, AreNormalAtomsOf, AreNormalIndicesOf}
use Rattle.type_check.proofs.normal_forms.NormSound.{formed_again, dim_tree_sorted, word_tree_sorted}

length-onto : {A : Type 0} (xs ys : List A) → length (onto xs ys) ≡ length xs + length ys
length-onto [] ys = omega arith
length-onto (x ∷ xs) ys = omega (arith, length-onto xs (x ∷ ys))

in_range : (sorts : List Sort) (k : ℕ) (s : Sort) → slice_get sorts k ≡ Some s → k < length sorts
in_range [] k s e = absurd (cc)
in_range (q ∷ sorts) zero s e = omega arith
in_range (q ∷ sorts) (suc k) s e = let h = in_range sorts k s e in omega arith

mutual
  pub sorted_made : (sorts : List Sort) (s : Sort) (n : ℕ) → length sorts ≤ n → (i : Index) → IsSorted sorts s i → IndexMade n i
  sorted_made sorts s n few (Num at k) h = tt
  sorted_made sorts s n few (Var at k) h = let lt = in_range sorts k s h in omega arith
  sorted_made sorts s n few (Sum at is) h = all_sorted_made sorts sort.Dim n few is h.1
  sorted_made sorts s n few (Dims at is) h = all_sorted_made sorts sort.Dim n few is h.1
  sorted_made sorts s n few (Join at is) h = all_sorted_made sorts sort.Shape n few is h.1

  all_sorted_made : (sorts : List Sort) (s : Sort) (n : ℕ) → length sorts ≤ n → (is : Indices) → AreSorted sorts s is → IndicesMade n is
  all_sorted_made sorts s n few end h = tt
  all_sorted_made sorts s n few (more i is) h = (sorted_made sorts s n few i h.0, all_sorted_made sorts s n few is h.1)

mutual
  pub formed_free : (types : ℕ) (sorts : List Sort) (m n : ℕ) → types ≤ m → length sorts ≤ n → (t : Ty) → IsWellFormed types sorts t → IsFreeBelow m n t
  formed_free types sorts m n few less (BaseTy at b) h = tt
  formed_free types sorts m n few less (TyVar at k) h = omega arith
  formed_free types sorts m n few less (Fun at ts r) h = (all_formed_free types sorts m n few less ts h.0, formed_free types sorts m n few less r h.1)
  formed_free types sorts m n few less (Forall at k t) h = formed_free (k + types) sorts (k + m) n (omega arith) less t h
  formed_free types sorts m n few less (Pi at ss t) h = formed_free types (onto ss sorts) m (length ss + n) few (omega (arith, length-onto ss sorts)) t h
  formed_free types sorts m n few less (Sigma at ss t) h = formed_free types (onto ss sorts) m (length ss + n) few (omega (arith, length-onto ss sorts)) t h
  formed_free types sorts m n few less (Arr at t i) h = (formed_free types sorts m n few less t h.2, sorted_made sorts sort.Shape n less i h.1)

  all_formed_free : (types : ℕ) (sorts : List Sort) (m n : ℕ) → types ≤ m → length sorts ≤ n → (ts : Tys) → AreWellFormed types sorts ts → AreFreeBelow m n ts
  all_formed_free types sorts m n few less no_tys h = tt
  all_formed_free types sorts m n few less (more_tys t ts) h = (formed_free types sorts m n few less t h.0, all_formed_free types sorts m n few less ts h.1)

-- the body of a binder is small, also under the binder's variables
pub body_small : (types n : ℕ) (sorts ss : List Sort) (t : Tree) → n + types ≤ free_limit → length ss + length sorts ≤ free_limit → IsWellFormed (n + types) (onto ss sorts) (ty_of t) → IsTreeSmall t
body_small types n sorts ss t few less h = formed_free (n + types) (onto ss sorts) free_limit free_limit few (omega (arith, length-onto ss sorts)) (ty_of t) h

-- normal types of what is written are
pub atoms_small : (Γ : Context) → Γ.types ≤ free_limit → length Γ.sorts ≤ free_limit → (us : List Ty) (ns : List Tree) → AreNormalAtomsOf Γ us ns → Each IsTreeSmall ns
atoms_small Γ few less [] [] h = tt
atoms_small Γ few less [] (n ∷ ns) h = absurd h
atoms_small Γ few less (u ∷ us) [] h = absurd h
atoms_small Γ few less (u ∷ us) (n ∷ ns) h =
    (subst (IsFreeBelow free_limit free_limit) (sym h.0.1) (formed_free Γ.types Γ.sorts free_limit free_limit few less (norm_ty u) (formed_again Γ.types Γ.sorts u h.0.0.1)), atoms_small Γ few less us ns h.1)

-- ---- normal forms of indices

tree_sorted : (sorts : List Sort) (s : Sort) (i : Index) → IsSorted sorts s i → IsSorted sorts s (index_tree (norm_at s i))
tree_sorted sorts sort.Dim i h = dim_tree_sorted sorts (norm_dim i) (CountsDims-norm sorts i h)
tree_sorted sorts sort.Shape i h = word_tree_sorted sorts (norm_word i) (WordIsIn-norm sorts i h)

pub indices_small : (Γ : Context) → length Γ.sorts ≤ free_limit → (ss : List Sort) (is : List Index) (ns : List NormIndex) → AreNormalIndicesOf Γ ss is ns → Each IsIndexSmall ns
indices_small Γ less [] [] [] h = tt
indices_small Γ less (s ∷ ss) (i ∷ is) (n ∷ ns) h =
    (subst IsIndexSmall (sym h.1) (sorted_made Γ.sorts s free_limit less (index_tree (norm_at s i)) (tree_sorted Γ.sorts s i h.0)), indices_small Γ less ss is ns h.2)
indices_small Γ less _ _ _ h = absurd h

-- ---- in a scope

-- a context of a scope
abbrev pub bare : ℕ → List Sort → Context
bare types sorts = record { defs = []; types = types; sorts = onto sorts []; terms = [] }

pub bare_scope : (types : ℕ) (sorts : List Sort) → HasScope types sorts (bare types sorts)
bare_scope types sorts = record { types_are = refl; sorts_are = refl }

pub scope_length : (sorts : List Sort) → length (onto sorts []) ≡ length sorts
scope_length sorts = omega (arith, length-onto sorts (let none : List Sort = [] in none))

-- a universal type's body
pub forall_body_small : (types n : ℕ) (sorts : List Sort) (t : Ty) (b : Tree) (s : Index) → HasRoom types sorts → n ≤ 16384 → IsSound types (onto sorts []) t → t ≡ Arr no_span (Forall no_span n (ty_of b)) s → IsTreeSmall b
forall_body_small types n sorts t b s room few sound is =
    formed_free (n + types) (onto sorts []) free_limit free_limit (let h = room.types_few in omega arith) (let h = room.sorts_few in let e = scope_length sorts in omega arith) (ty_of b)
    (subst (IsSound types (onto sorts [])) is sound).formed.2

-- the body of a dependent product
pub pi_body_small : (types : ℕ) (sorts ss : List Sort) (t : Ty) (b : Tree) (s : Index) → HasRoom types sorts → length ss ≤ 16384 → IsSound types (onto sorts []) t → t ≡ Arr no_span (Pi no_span ss (ty_of b)) s → IsTreeSmall b
pi_body_small types sorts ss t b s room few sound is =
    formed_free types (onto ss (onto sorts [])) free_limit free_limit (let h = room.types_few in omega arith)
    (let h = room.sorts_few in let e = scope_length sorts in omega (arith, length-onto ss (onto sorts []))) (ty_of b)
    (subst (IsSound types (onto sorts [])) is sound).formed.2

-- that of a written dependent sum, in normal form
pub sum_body_small : (types : ℕ) (sorts ss : List Sort) (t : Ty) (place : Span) (b : Ty) → HasRoom types sorts → length ss ≤ 16384 → IsWellFormed types (onto sorts []) t → t ≡ Sigma place ss b → IsFreeBelow free_limit free_limit (norm_ty b)
sum_body_small types sorts ss t place b room few formed is =
    formed_free types (onto ss (onto sorts [])) free_limit free_limit (let h = room.types_few in omega arith)
    (let h = room.sorts_few in let e = scope_length sorts in omega (arith, length-onto ss (onto sorts []))) (norm_ty b)
    (formed_again types (onto ss (onto sorts [])) b (subst (IsWellFormed types (onto sorts [])) is formed))

-- a normal type of what is written, that is moved under so many indices
pub written_moves : (types n : ℕ) (sorts : List Sort) (t : Ty) (m : Ty) → HasRoom types sorts → n ≤ 16384 → IsWellFormed types (onto sorts []) t × (m ≡ norm_ty t) → IsFreeBelow (free_limit - 0) (free_limit - n) m
written_moves types n sorts t m room few h =
    subst (IsFreeBelow (free_limit - 0) (free_limit - n)) (sym h.1)
    (formed_free types (onto sorts []) (free_limit - 0) (free_limit - n) (let k = room.types_few in omega arith) (let k = room.sorts_few in let e = scope_length sorts in omega arith) (norm_ty t)
    (formed_again types (onto sorts []) t h.0))

pub given_types_small : (types : ℕ) (sorts : List Sort) (us : List Ty) (ns now : List Tree) → HasRoom types sorts → AreNormalAtomsOf (bare types sorts) us ns → now ≡ ns → Each IsTreeSmall now
given_types_small types sorts us ns now room h e =
    subst (Each IsTreeSmall) (sym e) (atoms_small (bare types sorts) (let k = room.types_few in omega arith) (let k = room.sorts_few in let l = scope_length sorts in omega arith) us ns h)

pub given_indices_small : (types : ℕ) (sorts ss : List Sort) (is : List Index) (ns now : List NormIndex) → HasRoom types sorts → AreNormalIndicesOf (bare types sorts) ss is ns → now ≡ ns → Each IsIndexSmall now
given_indices_small types sorts ss is ns now room h e =
    subst (Each IsIndexSmall) (sym e) (indices_small (bare types sorts) (let k = room.sorts_few in let l = scope_length sorts in omega arith) ss is ns h)
