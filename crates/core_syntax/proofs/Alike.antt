-- Contexts with equal types: an expression has the same types in them.
use Rattle.std.proofs.Common.{◌≡◌, subst, sym, ℕ, zero, suc, List, [], ◌∷◌, length, Some}
use Rattle.std.specs.Prelude.{slice_get}
use Rattle.core_syntax.specs.declared.index.Sort.{Sort}
use Rattle.core_syntax.specs.Syntax.{Index, Ty, Sigma, Arr, Tys, no_tys, more_tys, ty_items, Expr, TermVar, DefVar, Array, NoAtoms, Frame, NoCells, App, TypeApp, IndexApp, Unbox, Exprs, no_exprs, more_exprs, Atom, IntAtom, BoolAtom, CharAtom, PrimAtom, Fn, TypeFn, IndexFn, Boxed, Atoms, no_atoms, more_atoms}
use Rattle.core_syntax.specs.Lists.{each, onto, EachTwo}
use Rattle.core_syntax.specs.Value.{then_shape}
use Rattle.core_syntax.specs.TypeEqual.{Same}
use Rattle.core_syntax.specs.Subst.{ty_under_index, ty_under_type, same, with_indices}
use Rattle.core_syntax.specs.Prims.{array_of}
use Rattle.core_syntax.specs.Typing.{Context, times, under_types, under_sorts, under_terms, Takes, Has, ExprsHave, ArgsHave, HasAtom, AtomsHave}
use Rattle.core_syntax.proofs.Equality.{same_refl, same_sym, same_trans}
use Rattle.core_syntax.proofs.Renamed.{same-renamed}
use Rattle.core_syntax.proofs.Unique.{beside}

-- ---- lists of equal types

pub are_same_refl : (ts : List Ty) → EachTwo Same ts ts
are_same_refl [] = tt
are_same_refl (t ∷ ts) = (same_refl t, are_same_refl ts)

pub are_same_sym : (ts us : List Ty) → EachTwo Same ts us → EachTwo Same us ts
are_same_sym [] [] h = tt
are_same_sym [] (u ∷ us) h = absurd h
are_same_sym (t ∷ ts) [] h = absurd h
are_same_sym (t ∷ ts) (u ∷ us) h = (same_sym t u h.0, are_same_sym ts us h.1)

are_same_onto : (bs ts us : List Ty) → EachTwo Same ts us → EachTwo Same (onto bs ts) (onto bs us)
are_same_onto [] ts us h = h
are_same_onto (b ∷ bs) ts us h = are_same_onto bs (b ∷ ts) (b ∷ us) (same_refl b, h)

are_same_each : (f : Ty → Ty) → ((t u : Ty) → Same t u → Same (f t) (f u)) → (ts us : List Ty) → EachTwo Same ts us → EachTwo Same (each f ts) (each f us)
are_same_each f k [] [] h = tt
are_same_each f k [] (u ∷ us) h = absurd h
are_same_each f k (t ∷ ts) [] h = absurd h
are_same_each f k (t ∷ ts) (u ∷ us) h = (k t u h.0, are_same_each f k ts us h.1)

same_times : (n : ℕ) (f : Ty → Ty) → ((t u : Ty) → Same t u → Same (f t) (f u)) → (t u : Ty) → Same t u → Same (times n f t) (times n f u)
same_times zero f k t u h = h
same_times (suc n) f k t u h = k (times n f t) (times n f u) (same_times n f k t u h)

-- ---- contexts

-- a context with other types of its definitions and terms
abbrev pub retyped : List Ty → List Ty → Context → Context
retyped ds ts Γ = record Γ { defs = ds; terms = ts }

-- they equal those of the context
pub record Retypes (ds ts : List Ty) (Γ : Context) : Type 0 where
  pub defs : EachTwo Same Γ.defs ds
  pub terms : EachTwo Same Γ.terms ts

-- the types of the terms under index binders more, and under type binders more
abbrev pub sorts_more : List Sort → List Ty → List Ty
sorts_more ss ts = each (times (length ss) ty_under_index) ts

abbrev pub types_more : ℕ → List Ty → List Ty
types_more n ts = each (times n ty_under_type) ts

pub retypes_sorts : (ds ts : List Ty) (Γ : Context) (ss : List Sort) → Retypes ds ts Γ → Retypes ds (sorts_more ss ts) (under_sorts ss Γ)
retypes_sorts ds ts Γ ss h = record {
  defs = h.defs;
  terms = are_same_each (times (length ss) ty_under_index) (same_times (length ss) ty_under_index (same-renamed suc same)) Γ.terms ts h.terms;
}

pub retypes_types : (ds ts : List Ty) (Γ : Context) (n : ℕ) → Retypes ds ts Γ → Retypes ds (types_more n ts) (under_types n Γ)
retypes_types ds ts Γ n h = record {
  defs = h.defs;
  terms = are_same_each (times n ty_under_type) (same_times n ty_under_type (same-renamed same suc)) Γ.terms ts h.terms;
}

pub retypes_terms : (ds ts : List Ty) (Γ : Context) (bs : List Ty) → Retypes ds ts Γ → Retypes ds (onto bs ts) (under_terms bs Γ)
retypes_terms ds ts Γ bs h = record { defs = h.defs; terms = are_same_onto bs Γ.terms ts h.terms }

-- ---- types of expressions

-- the type that is found at a place of the other list
takes_other : (Γ : Context) (a b t : Ty) → Same a b → Takes Γ a t → Takes Γ b t
takes_other Γ a b t e h = (h.0, same_trans b a t (same_sym a b e) h.1)

variable_other : (Γ : Context) (xs ys : List Ty) (k : ℕ) (t : Ty) → EachTwo Same xs ys
    → (u : Ty) × (slice_get xs k ≡ Some u) × Takes Γ u t → (u : Ty) × (slice_get ys k ≡ Some u) × Takes Γ u t
variable_other Γ xs ys k t e h =
    let b : (b : Ty) × (slice_get ys k ≡ Some b) × Same h.0 b = beside Same xs ys k h.0 e h.1 in
    (b.0, b.1, takes_other Γ h.0 b.0 t b.2 h.2)

mutual
  pub has_retyped : (ds ts : List Ty) (Γ : Context) → Retypes ds ts Γ → (e : Expr) (t : Ty) → Has Γ e t → Has (retyped ds ts Γ) e t
  has_retyped ds ts Γ r (TermVar at k) t h = variable_other Γ Γ.terms ts k t r.terms h
  has_retyped ds ts Γ r (DefVar at k) t h = variable_other Γ Γ.defs ds k t r.defs h
  has_retyped ds ts Γ r (Array at dims no_atoms) t h = h
  has_retyped ds ts Γ r (Array at dims (more_atoms x xs)) t h = (h.0, atom_retyped ds ts Γ r x h.0 h.1, atoms_retyped ds ts Γ r xs h.0 h.2, h.3)
  has_retyped ds ts Γ r (NoAtoms at dims a) t h = h
  has_retyped ds ts Γ r (Frame at dims no_exprs) t h = h
  has_retyped ds ts Γ r (Frame at dims (more_exprs e es)) t h =
      (h.0, h.1, has_retyped ds ts Γ r e (array_of h.0 h.1) h.2, exprs_retyped ds ts Γ r es (array_of h.0 h.1) h.3, h.4)
  has_retyped ds ts Γ r (NoCells at dims u) t h = h
  has_retyped ds ts Γ r (App at f es) t h =
      (h.0, h.1, h.2, has_retyped ds ts Γ r f _ h.3, (h.4.0, args_retyped ds ts Γ r es h.0 h.4.0 h.4.1, h.4.2))
  has_retyped ds ts Γ r (TypeApp at e us) t h = (h.0, h.1, h.2, has_retyped ds ts Γ r e _ h.3, h.4, h.5, h.6)
  has_retyped ds ts Γ r (IndexApp at e is) t h = (h.0, h.1, h.2, has_retyped ds ts Γ r e _ h.3, h.4, h.5)
  has_retyped ds ts Γ r (Unbox at n e u b) t h =
      (h.0, h.1, h.2, has_retyped ds ts Γ r e _ h.3, h.4, h.5, has_retyped ds (h.1 ∷ sorts_more h.0 ts) (under_terms (h.1 ∷ []) (under_sorts h.0 Γ)) (retypes_terms ds (sorts_more h.0 ts) (under_sorts h.0 Γ) (h.1 ∷ []) (retypes_sorts ds ts Γ h.0 r)) b _ h.6, h.7)

  pub exprs_retyped : (ds ts : List Ty) (Γ : Context) → Retypes ds ts Γ → (es : Exprs) (t : Ty) → ExprsHave Γ es t → ExprsHave (retyped ds ts Γ) es t
  exprs_retyped ds ts Γ r no_exprs t h = tt
  exprs_retyped ds ts Γ r (more_exprs e es) t h = (has_retyped ds ts Γ r e t h.0, exprs_retyped ds ts Γ r es t h.1)

  pub args_retyped : (ds ts : List Ty) (Γ : Context) → Retypes ds ts Γ → (es : Exprs) (us : Tys) (ps : List Index) → ArgsHave Γ es us ps → ArgsHave (retyped ds ts Γ) es us ps
  args_retyped ds ts Γ r no_exprs no_tys [] h = tt
  args_retyped ds ts Γ r (more_exprs e es) (more_tys (Arr at a c) us) (p ∷ ps) h =
      (has_retyped ds ts Γ r e (array_of a (then_shape p c)) h.0, args_retyped ds ts Γ r es us ps h.1)
  args_retyped ds ts Γ r no_exprs no_tys _ h = absurd h
  args_retyped ds ts Γ r no_exprs _ ps h = absurd h
  args_retyped ds ts Γ r (more_exprs e es) no_tys ps h = absurd h
  args_retyped ds ts Γ r (more_exprs e es) (more_tys t us) [] h = absurd h
  args_retyped ds ts Γ r (more_exprs e es) (more_tys _ us) (p ∷ ps) h = absurd h.0

  pub atom_retyped : (ds ts : List Ty) (Γ : Context) → Retypes ds ts Γ → (a : Atom) (t : Ty) → HasAtom Γ a t → HasAtom (retyped ds ts Γ) a t
  atom_retyped ds ts Γ r (IntAtom at z) t h = h
  atom_retyped ds ts Γ r (BoolAtom at b) t h = h
  atom_retyped ds ts Γ r (CharAtom at c) t h = h
  atom_retyped ds ts Γ r (PrimAtom at p) t h = h
  atom_retyped ds ts Γ r (Fn at us s e) t h =
      (h.0, h.1, has_retyped ds (onto (ty_items us) ts) (under_terms (ty_items us) Γ) (retypes_terms ds ts Γ (ty_items us) r) e s h.2, h.3)
  atom_retyped ds ts Γ r (TypeFn at n e) t h = (h.0, has_retyped ds (types_more n ts) (under_types n Γ) (retypes_types ds ts Γ n r) e h.0 h.1, h.2)
  atom_retyped ds ts Γ r (IndexFn at ss e) t h = (h.0, has_retyped ds (sorts_more ss ts) (under_sorts ss Γ) (retypes_sorts ds ts Γ ss r) e h.0 h.1, h.2)
  atom_retyped ds ts Γ r (Boxed at is e (Sigma at' ss b)) t h = (h.0, (h.1.0, has_retyped ds ts Γ r e (with_indices is b) h.1.1), h.2)
  atom_retyped ds ts Γ r (Boxed at is e _) t h = absurd h.1

  pub atoms_retyped : (ds ts : List Ty) (Γ : Context) → Retypes ds ts Γ → (xs : Atoms) (t : Ty) → AtomsHave Γ xs t → AtomsHave (retyped ds ts Γ) xs t
  atoms_retyped ds ts Γ r no_atoms t h = tt
  atoms_retyped ds ts Γ r (more_atoms a xs) t h = (atom_retyped ds ts Γ r a t h.0, atoms_retyped ds ts Γ r xs t h.1)

-- ---- the same for two contexts

-- two contexts have the same variables, with equal types
pub record Alike (Γ Δ : Context) : Type 0 where
  pub types : Γ.types ≡ Δ.types
  pub sorts : Γ.sorts ≡ Δ.sorts
  pub defs : EachTwo Same Γ.defs Δ.defs
  pub terms : EachTwo Same Γ.terms Δ.terms

pub alike_sym : (Γ Δ : Context) → Alike Γ Δ → Alike Δ Γ
alike_sym Γ Δ a = record { types = sym a.types; sorts = sym a.sorts; defs = are_same_sym Γ.defs Δ.defs a.defs; terms = are_same_sym Γ.terms Δ.terms a.terms }

pub alike_is : (Γ Δ : Context) → Alike Γ Δ → retyped Δ.defs Δ.terms Γ ≡ Δ
alike_is Γ Δ a = λ i. record { defs = Δ.defs; types = a.types i; sorts = a.sorts i; terms = Δ.terms }

pub alike_retypes : (Γ Δ : Context) → Alike Γ Δ → Retypes Δ.defs Δ.terms Γ
alike_retypes Γ Δ a = record { defs = a.defs; terms = a.terms }

pub has_alike : (Γ Δ : Context) → Alike Γ Δ → (e : Expr) (t : Ty) → Has Γ e t → Has Δ e t
has_alike Γ Δ a e t h = subst (λ Δ. Has Δ e t) (alike_is Γ Δ a) (has_retyped Δ.defs Δ.terms Γ (alike_retypes Γ Δ a) e t h)

pub exprs_have_alike : (Γ Δ : Context) → Alike Γ Δ → (es : Exprs) (t : Ty) → ExprsHave Γ es t → ExprsHave Δ es t
exprs_have_alike Γ Δ a es t h = subst (λ Δ. ExprsHave Δ es t) (alike_is Γ Δ a) (exprs_retyped Δ.defs Δ.terms Γ (alike_retypes Γ Δ a) es t h)

pub args_have_alike : (Γ Δ : Context) → Alike Γ Δ → (es : Exprs) (us : Tys) (ps : List Index) → ArgsHave Γ es us ps → ArgsHave Δ es us ps
args_have_alike Γ Δ a es us ps h = subst (λ Δ. ArgsHave Δ es us ps) (alike_is Γ Δ a) (args_retyped Δ.defs Δ.terms Γ (alike_retypes Γ Δ a) es us ps h)

pub atom_has_alike : (Γ Δ : Context) → Alike Γ Δ → (x : Atom) (t : Ty) → HasAtom Γ x t → HasAtom Δ x t
atom_has_alike Γ Δ a x t h = subst (λ Δ. HasAtom Δ x t) (alike_is Γ Δ a) (atom_retyped Δ.defs Δ.terms Γ (alike_retypes Γ Δ a) x t h)

pub atoms_have_alike : (Γ Δ : Context) → Alike Γ Δ → (xs : Atoms) (t : Ty) → AtomsHave Γ xs t → AtomsHave Δ xs t
atoms_have_alike Γ Δ a xs t h = subst (λ Δ. AtomsHave Δ xs t) (alike_is Γ Δ a) (atoms_retyped Δ.defs Δ.terms Γ (alike_retypes Γ Δ a) xs t h)
