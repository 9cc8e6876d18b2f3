-- The types of variables and definitions.
use Rattle.std.proofs.Common.{◌≡◌, refl, sym, ◌∙◌, ap, subst, ℕ, zero, suc, ◌+◌, ◌-◌, ◌<◌, ◌≤◌, arith, List, [], ◌∷◌, length, Some, None}
use Rattle.std.specs.Prelude.{slice_get}
use Rattle.core_syntax.specs.declared.span.Span.{Span}
use Rattle.core_syntax.specs.declared.index.Sort.{Sort}
use Rattle.core_syntax.specs.declared.ty.Ty.{Ty as Tree}
use Rattle.core_syntax.specs.Syntax.{Ty, TermVar, DefVar}
use Rattle.core_syntax.specs.Kinds.{IsWellFormed}
use Rattle.core_syntax.specs.Lists.{onto, each, Each, EachTwo}
use Rattle.core_syntax.specs.Notes.{NodeNote, no_note}
use Rattle.core_syntax.specs.NormTypes.{measure_ty}
use Rattle.core_syntax.specs.Refine.{ty_of}
use Rattle.core_syntax.specs.TypeEqual.{Same}
use Rattle.core_syntax.specs.Typing.{Context}
use Rattle.core_syntax.proofs.Unique.{some_is}
use Rattle.type_equal.specs.Moved.{IsFreeBelow}
use Rattle.type_check.specs.declared.state.Bound.{Bound}
use Rattle.type_check.specs.Contexts.{Like, IsSound, IsReady}
use Rattle.type_check.specs.Found.{Found}
use Rattle.type_check.specs.State.{State, further, seen, context_of, IsOlder}
use Rattle.type_check.proofs.contexts.Binding.{get_behind, each_length, onto_length}
use Rattle.type_check.proofs.normal_forms.FreeBelow.{may_move, may_stay}
use Rattle.type_check.proofs.substitution.Renamed.{further_none, formed_wider}

pub each_at : {A : Type 0} (P : A → Type 0) (xs : List A) (k : ℕ) (a : A) → slice_get xs k ≡ Some a → Each P xs → P a
each_at P [] k a e h = absurd (cc)
each_at P (x ∷ xs) zero a e h = subst P (some_is x a e) h.0
each_at P (x ∷ xs) (suc k) a e h = each_at P xs k a e h.1

get_each : {A B : Type 0} (f : A → B) (xs : List A) (k : ℕ) (a : A) → slice_get xs k ≡ Some a → slice_get (each f xs) k ≡ Some (f a)
get_each f [] k a e = absurd (cc)
get_each f (x ∷ xs) zero a e = ap (λ z. Some (f z)) (some_is x a e)
get_each f (x ∷ xs) (suc k) a e = get_each f xs k a e

get_onto : {A : Type 0} (zs ys : List A) (j : ℕ) (a : A) → slice_get zs j ≡ Some a → slice_get (onto zs ys) (length zs - 1 - j) ≡ Some a
get_onto [] ys j a e = absurd (cc)
get_onto (z ∷ zs) ys zero a e = subst (λ m. slice_get (onto zs (z ∷ ys)) m ≡ Some a) (let f : length zs + 0 ≡ suc (length zs) - 1 - 0 = omega arith in f) (get_behind zs (z ∷ ys) 0 a e)
get_onto (z ∷ zs) ys (suc j) a e = subst (λ m. slice_get (onto zs (z ∷ ys)) m ≡ Some a) (let f : length zs - 1 - j ≡ suc (length zs) - 1 - suc j = omega arith in f) (get_onto zs (z ∷ ys) j a e)

-- the item of the first list at the same place
beside_back : {A : Type 0} (R : A → A → Type 0) (xs ys : List A) (k : ℕ) (b : A) → EachTwo R xs ys → slice_get ys k ≡ Some b → (a : A) × (slice_get xs k ≡ Some a) × R a b
beside_back R [] [] k b h e = absurd (cc)
beside_back R [] (y ∷ ys) k b h e = absurd h
beside_back R (x ∷ xs) [] k b h e = absurd h
beside_back R (x ∷ xs) (y ∷ ys) zero b h e = (x, refl, subst (λ y. R x y) (some_is y b e) h.0)
beside_back R (x ∷ xs) (y ∷ ys) (suc k) b h e = beside_back R xs ys k b h.1 e

-- what is sound in a context is sound in each that is like it
pub sound_like : (Γ N : Context) (t : Ty) → Like Γ N → IsSound N.types N.sorts t → IsSound Γ.types Γ.sorts t
sound_like Γ N t l h = subst (λ n. IsSound n Γ.sorts t) (sym l.types) (subst (λ ss. IsSound N.types ss t) (sym l.sorts) h)

variable_found : (Γ N : Context) (at : Span) (k : ℕ) (t : Ty) (m : NodeNote) → m ≡ no_note → Like Γ N → IsReady N → slice_get N.terms k ≡ Some t → measure_ty t ≡ None → Found Γ (TermVar at k) t (m ∷ [])
variable_found Γ N at k t m noted l r e small =
    let s = sound_like Γ N t l (each_at (IsSound N.types N.sorts) N.terms k t e r.terms) in
    let u = beside_back Same Γ.terms N.terms k t l.terms e in
    record { met = (tt, (t, (u.0, u.1, (s.formed, u.2)), small)); has = (u.0, u.1, (s.formed, u.2)); sound = s; notes = (noted, refl) }

definition_found : (Γ N : Context) (at : Span) (k : ℕ) (t : Ty) (m : NodeNote) → m ≡ no_note → Like Γ N → IsReady N → slice_get N.defs k ≡ Some t → IsSound N.types N.sorts t → measure_ty t ≡ None → Found Γ (DefVar at k) t (m ∷ [])
definition_found Γ N at k t m noted l r e sound small =
    let s = sound_like Γ N t l sound in
    let u = beside_back Same Γ.defs N.defs k t l.defs e in
    record { met = (tt, (t, (u.0, u.1, (s.formed, u.2)), small)); has = (u.0, u.1, (s.formed, u.2)); sound = s; notes = (noted, refl) }

-- the variable with k inside it
term_at : (s : State) (k : ℕ) (b : Bound) → k < length s.terms → slice_get s.terms (length s.terms - 1 - k) ≡ Some b → slice_get (context_of s).terms k ≡ Some (seen s.types (length s.sorts) b)
term_at s k b lt e =
    get_each (seen s.types (length s.sorts)) (onto s.terms []) k b
    (subst (λ m. slice_get (onto s.terms []) m ≡ Some b) (let f : length s.terms - 1 - (length s.terms - 1 - k) ≡ k = omega arith in f) (get_onto s.terms [] (length s.terms - 1 - k) b e))

pub variable_is : (s : State) (at : Span) (k : ℕ) (b : Bound) (t : Ty) (m : NodeNote) → m ≡ no_note → IsReady (context_of s) → k < length s.terms → slice_get s.terms (length s.terms - 1 - k) ≡ Some b
    → t ≡ seen s.types (length s.sorts) b → measure_ty t ≡ None → (Γ : Context) → Like Γ (context_of s) → Found Γ (TermVar at k) t (m ∷ [])
variable_is s at k b t m noted r lt e is small Γ l = variable_found Γ (context_of s) at k t m noted l r (term_at s k b lt e ∙ ap Some (sym is)) small

-- a closed type is sound under all binders
closed_sound : (N : Context) (t : Ty) → IsSound 0 [] t → IsSound N.types N.sorts t
closed_sound N t h = record { formed = closed; top = h.top; inside = h.inside }
  where
    closed : IsWellFormed N.types N.sorts t
    closed = formed_wider 0 N.types [] N.sorts (omega arith) (λ k s e. absurd (cc)) t h.formed

pub definition_is : (s : State) (at : Span) (k : ℕ) (b : Tree) (t : Ty) (m : NodeNote) → m ≡ no_note → IsReady (context_of s) → k < length s.defs → slice_get s.defs k ≡ Some b
    → t ≡ further 0 0 (ty_of b) → measure_ty t ≡ None → (Γ : Context) → Like Γ (context_of s) → Found Γ (DefVar at k) t (m ∷ [])
definition_is s at k b t m noted r lt e is small Γ l =
    let here : slice_get (context_of s).defs k ≡ Some t = get_each ty_of s.defs k b e ∙ ap Some (sym (is ∙ further_none (ty_of b))) in
    definition_found Γ (context_of s) at k t m noted l r here (closed_sound (context_of s) t (each_at (IsSound 0 []) (context_of s).defs k t here r.defs)) small

pub bound_older : (s : State) (k : ℕ) (b : Bound) → Each (IsOlder s.types (length s.sorts)) s.terms → slice_get s.terms k ≡ Some b → IsOlder s.types (length s.sorts) b
bound_older s k b h e = each_at (IsOlder s.types (length s.sorts)) s.terms k b e h

-- as many variables and definitions are in the context as in the state
pub term_few : (s : State) (k : ℕ) → k < length (context_of s).terms → k < length s.terms
term_few s k lt =
    let e = each_length (seen s.types (length s.sorts)) (onto s.terms []) in
    let f = onto_length s.terms [] in
    omega (arith, e, f, lt)

pub def_few : (s : State) (k : ℕ) → k < length (context_of s).defs → k < length s.defs
def_few s k lt = let e = each_length ty_of s.defs in omega (arith, e, lt)

-- the types of variables and definitions may be moved to where they are used
pub variable_moves : (s : State) (k : ℕ) (b : Bound) (i j : ℕ) → IsReady (context_of s) → k < length s.terms → slice_get s.terms (length s.terms - 1 - k) ≡ Some b
    → i ≡ length s.sorts - b.indices → j ≡ s.types - b.types → IsFreeBelow (3221225472 - j) (3221225472 - i) (ty_of b.ty)
variable_moves s k b i j r lt e p q =
    subst (λ n. IsFreeBelow (3221225472 - n) (3221225472 - i) (ty_of b.ty)) (sym q)
    (subst (λ n. IsFreeBelow (3221225472 - (s.types - b.types)) (3221225472 - n) (ty_of b.ty)) (sym p)
    (may_move (length s.sorts - b.indices) (s.types - b.types) s.types (onto s.sorts []) (ty_of b.ty) r.types_few r.sorts_few
    (each_at (IsSound s.types (onto s.sorts [])) (context_of s).terms k (seen s.types (length s.sorts) b) (term_at s k b lt e) r.terms).formed))

pub definition_moves : (s : State) (k : ℕ) (b : Tree) → IsReady (context_of s) → slice_get s.defs k ≡ Some b → IsFreeBelow (3221225472 - 0) (3221225472 - 0) (ty_of b)
definition_moves s k b r e = may_stay (ty_of b) (each_at (IsSound 0 []) (context_of s).defs k (ty_of b) (get_each ty_of s.defs k b e) r.defs).formed
