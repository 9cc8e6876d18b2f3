-- A typed program is blamed for a measure only.
use Rattle.std.proofs.Common.{◌≡◌, refl, subst, sym, ◌∙◌, ap, inl, inr, ◌⊎◌, ℕ, suc, List, [], ◌∷◌, ◌++◌, length, Bool, true, false, Option, Some, None, nat_lt, ◌||◌, cond}
use Rattle.core_syntax.specs.declared.span.Span.{Span}
use Rattle.core_syntax.specs.declared.index.Sort.{Sort}
use Rattle.core_syntax.specs.declared.index.Sort.TheVariants as sort
use Rattle.core_syntax.specs.Syntax.{Index, index_at, Ty, Fun, Forall, Pi, Sigma, Arr, Tys, no_tys, more_tys, ty_at, ty_items, no_span, Expr, TermVar, DefVar, Array, NoAtoms, Frame, NoCells, App, TypeApp, IndexApp, Unbox, Exprs, no_exprs, more_exprs, expr_at, expr_items, Atom, IntAtom, BoolAtom, CharAtom, PrimAtom, Fn, TypeFn, IndexFn, Boxed, Atoms, no_atoms, more_atoms, atom_at, Def, Program}
use Rattle.core_syntax.specs.Lists.{Each, EachTwo}
use Rattle.core_syntax.specs.Sorts.{Refusal, IsSorted, own_sort, is_sort, refuse_unless, inner_blame}
use Rattle.core_syntax.specs.Kinds.{IsWellFormed, AreWellFormed, is_atom_kind, kind_blame}
use Rattle.core_syntax.specs.Limits.{largest_size, largest_depth}
use Rattle.core_syntax.specs.Value.{then_shape}
use Rattle.core_syntax.specs.TypeEqual.{Same, AllSame}
use Rattle.core_syntax.specs.Norm.{measured, measure_at, is_large, has_large, norm_dim, norm_word}
use Rattle.core_syntax.specs.Linear.{dim_size}
use Rattle.core_syntax.specs.Word.{word_size}
use Rattle.core_syntax.specs.NormTypes.{measure_ty, ty_has_large, ty_size, ty_depth}
use Rattle.core_syntax.specs.Prims.{array_of}
use Rattle.core_syntax.specs.Subst.{ty_under_index, with_indices}
use Rattle.core_syntax.specs.Typing.{Context, times, under_types, under_sorts, under_terms, IsAtomType, IsPrincipal, Has, ExprsHave, ArgsHave, HasAtom, AtomsHave, is_printable, defs_only, body_context, DefsTyped, Typed}
use Rattle.core_syntax.specs.Blame.{Premises, nothing, premise, tested, measure, ◌then◌, with_any, written, written_atom, all_written, all_written_atoms, written_indices, concluding, of_function, of_forall, of_pi, of_sigma, FitsInput, premises, later_cells, args_premises, atom_premises, later_atoms, expr_premises, defs_premises, inputs_premises, program_premises, Blames}
use Rattle.type_check.specs.Laws.{IsMeasure}
use Rattle.core_syntax.proofs.Equality.{same_refl, same_sym, same_trans}
use Rattle.core_syntax.proofs.Unique.{some_is, unique, unique_atom, args_unique}
use Rattle.core_syntax.proofs.Formed.{has_formed, frames_sorted}
use Rattle.core_syntax.proofs.Alike.{Alike, has_alike, are_same_refl}
use Rattle.core_syntax.proofs.Readings.{Functions, same_count, function_same, forall_same, pi_same, sigma_same, fits_same, principal_same}
use Rattle.core_syntax.proofs.OneBlame.{printable_same}
use Rattle.kind_check.proofs.SortLemmas.{first_both, unless_true, own_is, sorted_to}
use Rattle.kind_check.proofs.FormedLemmas.{formed_to}

-- ---- premises that are met but for measures

-- what is blamed is a measure
pub record OnlyMeasures (p : Premises) : Type 0 where
  pub blamed : (r : Refusal) → p.blames r → IsMeasure r

nothing_only : OnlyMeasures nothing
nothing_only = record { blamed = λ r b. absurd b }

premise_only : (n : ℕ) (at : Span) {P : Type 0} → P → OnlyMeasures (premise n at P)
premise_only n at holds = record { blamed = λ r b. absurd (b.0 holds) }

tested_only : {o : Option Refusal} → o ≡ None → OnlyMeasures (tested o)
tested_only e = record { blamed = λ r b. absurd (none_is_some r (sym e ∙ b)) }
  where
    none_is_some : (r : Refusal) → None ≡ Some r → ⊥
    none_is_some r e = cc

measured_is : (large : Bool) (size depth n : ℕ) → measured large size depth ≡ Some n → (n ≡ 13) ⊎ (n ≡ 16)
measured_is true size depth n e = inl (some_is n 13 (sym e))
measured_is false size depth n e = above (nat_lt largest_size size || nat_lt largest_depth depth) e
  where
    above : (b : Bool) → cond b (Some 16) None ≡ Some n → (n ≡ 13) ⊎ (n ≡ 16)
    above true e = inr (some_is n 16 (sym e))
    above false e = absurd (cc)

measure_only : (large : Bool) (size depth : ℕ) (at : Span) → OnlyMeasures (measure (measured large size depth) at)
measure_only large size depth at = record {
  blamed = λ r b. subst IsMeasure (sym b.2) (measured_is large size depth b.0 b.1);
}

type_measure_only : (t : Ty) (at : Span) → OnlyMeasures (measure (measure_ty t) at)
type_measure_only t at = measure_only (ty_has_large t) (ty_size t) (ty_depth t) at

index_measure_only : (s : Sort) (i : Index) (at : Span) → OnlyMeasures (measure (measure_at s i) at)
index_measure_only sort.Dim i at = measure_only (is_large (norm_dim i)) (dim_size (norm_dim i)) 0 at
index_measure_only sort.Shape i at = measure_only (has_large (norm_word i)) (word_size (norm_word i)) 0 at

then_only : {p q : Premises} → OnlyMeasures p → OnlyMeasures q → OnlyMeasures (p then q)
then_only h k = record {
  blamed = λ r b. elim b [
    | inl first ↦ h.blamed r first
    | inr later ↦ k.blamed r later.1
  ];
}

any_only : {A : Type 0} {P : A → Type 0} {f : A → Premises} → ((a : A) → P a → OnlyMeasures (f a)) → OnlyMeasures (with_any P f)
any_only h = record { blamed = λ r b. (h b.0 b.1).blamed r b.2 }

-- ---- written types and indices

written_only : (Γ : Context) (t : Ty) → IsWellFormed Γ.types Γ.sorts t → OnlyMeasures (written Γ t)
written_only Γ t h = then_only (tested_only (formed_to Γ.types Γ.sorts t h)) (type_measure_only t (ty_at t))

written_atom_only : (Γ : Context) (t : Ty) → IsAtomType Γ t → OnlyMeasures (written_atom Γ t)
written_atom_only Γ t h =
    then_only (tested_only (first_both (refuse_unless (is_atom_kind t) 15 (ty_at t)) (kind_blame Γ.sorts t) (unless_true (is_atom_kind t) 15 (ty_at t) h.0) (formed_to Γ.types Γ.sorts t h.1)))
    (type_measure_only t (ty_at t))

all_written_only : (Γ : Context) (ts : Tys) → AreWellFormed Γ.types Γ.sorts ts → OnlyMeasures (all_written Γ ts)
all_written_only Γ no_tys h = nothing_only
all_written_only Γ (more_tys t ts) h = then_only (written_only Γ t h.0) (all_written_only Γ ts h.1)

all_written_atoms_only : (Γ : Context) (ts : List Ty) → Each (IsAtomType Γ) ts → OnlyMeasures (all_written_atoms Γ ts)
all_written_atoms_only Γ [] h = nothing_only
all_written_atoms_only Γ (t ∷ ts) h = then_only (written_atom_only Γ t h.0) (all_written_atoms_only Γ ts h.1)

written_indices_only : (Γ : Context) (ss : List Sort) (is : List Index) → EachTwo (IsSorted Γ.sorts) ss is → OnlyMeasures (written_indices Γ ss is)
written_indices_only Γ (s ∷ ss) (i ∷ is) h =
    let sorted = sorted_to Γ.sorts s i h.0 in
    then_only
    (then_only
    (tested_only (first_both (inner_blame Γ.sorts i) (refuse_unless (is_sort s (own_sort Γ.sorts i)) 14 (index_at i)) sorted.1 (unless_true (is_sort s (own_sort Γ.sorts i)) 14 (index_at i) (own_is s (own_sort Γ.sorts i) sorted.0))))
    (index_measure_only s i (index_at i)))
    (written_indices_only Γ ss is h.1)
written_indices_only Γ [] _ h = nothing_only
written_indices_only Γ (s ∷ ss) [] h = nothing_only

two_count : {A B : Type 0} (R : A → B → Type 0) (xs : List A) (ys : List B) → EachTwo R xs ys → length ys ≡ length xs
two_count R [] [] h = refl
two_count R [] (y ∷ ys) h = absurd h
two_count R (x ∷ xs) [] h = absurd h
two_count R (x ∷ xs) (y ∷ ys) h = ap suc (two_count R xs ys h.1)

-- ---- what is read of a type of an expression

-- each other type of an expression that has this one
any_type_only : (Γ : Context) (e : Expr) (t : Ty) → Has Γ e t → {f : Ty → Premises} → ((u : Ty) → Has Γ e u → Same t u → OnlyMeasures (f u)) → OnlyMeasures (with_any (Has Γ e) f)
any_type_only Γ e t h k = any_only (λ u j. k u j (unique Γ e t u h j))

concluding_only : (Γ : Context) (e : Expr) {p : Premises} → OnlyMeasures p → OnlyMeasures (concluding Γ e p)
concluding_only Γ e h = then_only h (any_only (λ t j. type_measure_only t (expr_at e)))

-- the parts of a type that equals one of this form
function_only : (Γ : Context) (ts : Tys) (r : Ty) (s : Index) (u : Ty) → Same (array_of (Fun no_span ts r) s) u → IsWellFormed Γ.types Γ.sorts (array_of (Fun no_span ts r) s) → IsWellFormed Γ.types Γ.sorts u
    → {f : Tys → Ty → Index → Premises} → ((us : Tys) (q : Ty) (p : Index) → Functions Γ.types Γ.sorts ts us s p → OnlyMeasures (f us q p)) → OnlyMeasures (of_function u f)
function_only Γ ts r s (Arr at (Fun at' us q) p) e h h' k =
    k us q p (record { inputs = e.0.0; formed = h.2.0; formed' = h'.2.0; frames = e.1; sorted = h.1; sorted' = h'.1 })
function_only Γ ts r s (Arr at _ p) e h h' k = absurd e.0
function_only Γ ts r s _ e h h' k = absurd e

forall_only : (n : ℕ) (b : Ty) (s : Index) (u : Ty) → Same (array_of (Forall no_span n b) s) u → (f : ℕ → Premises) → OnlyMeasures (f n) → OnlyMeasures (of_forall u f)
forall_only n b s (Arr at (Forall at' m c) p) e f k = subst (λ m. OnlyMeasures (f m)) e.0.0 k
forall_only n b s (Arr at _ p) e f k = absurd e.0
forall_only n b s _ e f k = absurd e

pi_only : (ss : List Sort) (b : Ty) (s : Index) (u : Ty) → Same (array_of (Pi no_span ss b) s) u → (f : List Sort → Premises) → OnlyMeasures (f ss) → OnlyMeasures (of_pi u f)
pi_only ss b s (Arr at (Pi at' rs c) p) e f k = subst (λ rs. OnlyMeasures (f rs)) e.0.0 k
pi_only ss b s (Arr at _ p) e f k = absurd e.0
pi_only ss b s _ e f k = absurd e

sigma_only : (ss : List Sort) (b : Ty) (s : Index) (u : Ty) → Same (array_of (Sigma no_span ss b) s) u → (f : List Sort → Ty → Premises) → ((c : Ty) → Same b c → OnlyMeasures (f ss c)) → OnlyMeasures (of_sigma u f)
sigma_only ss b s (Arr at (Sigma at' rs c) p) e f k = subst (λ rs. OnlyMeasures (f rs c)) e.0.0 (k c e.0.1)
sigma_only ss b s (Arr at _ p) e f k = absurd e.0
sigma_only ss b s _ e f k = absurd e

-- an argument's type fits its input type
argument_fits : (Γ : Context) (at : Span) (a : Ty) (p c : Index) (u v : Ty) → Same (Arr at a c) u → Same (array_of a (then_shape p c)) v
    → IsWellFormed Γ.types Γ.sorts u → IsWellFormed Γ.types Γ.sorts (array_of a (then_shape p c)) → IsWellFormed Γ.types Γ.sorts v → FitsInput Γ u v
argument_fits Γ at a p c u v e d formed whole formed' =
    fits_same Γ (Arr at a c) u (array_of a (then_shape p c)) v e d formed formed' (same_refl a, (p, (whole.1, whole.1, λ v. refl)))

args_count : (Γ : Context) (es : Exprs) (ts : Tys) (ps : List Index) → ArgsHave Γ es ts ps → length (ty_items ts) ≡ length (expr_items es)
args_count Γ no_exprs no_tys [] h = refl
args_count Γ (more_exprs e es) (more_tys t ts) (p ∷ ps) h = ap suc (args_count Γ es ts ps h.1)
args_count Γ no_exprs no_tys (p ∷ ps) h = absurd h
args_count Γ no_exprs (more_tys t ts) ps h = absurd h
args_count Γ (more_exprs e es) no_tys ps h = absurd h
args_count Γ (more_exprs e es) (more_tys t ts) [] h = absurd h

-- the frames of an application, by any input types
frames_only : (Γ : Context) (es : Exprs) (ts us : Tys) (s p : Index) (at : Span) (frames : List Index) → Functions Γ.types Γ.sorts ts us s p → ArgsHave Γ es ts frames
    → (q : Index) × IsPrincipal Γ (s ∷ frames) q → OnlyMeasures (with_any (ArgsHave Γ es us) (λ frames. premise 22 at ((q : Index) × IsPrincipal Γ (p ∷ frames) q)))
frames_only Γ es ts us s p at frames parts h principal = any_only (λ qs j.
    premise_only 22 at (principal_same Γ (s ∷ frames) (p ∷ qs) (parts.frames, args_unique Γ es ts us frames qs h j parts.inputs) (parts.sorted', frames_sorted Γ es us qs j) principal))

-- the context of an `unbox`'s body, with equal types of its variable
under_alike : (Γ : Context) (c c' : Ty) → Same c c' → Alike (under_terms (c ∷ []) Γ) (under_terms (c' ∷ []) Γ)
under_alike Γ c c' e = record { types = refl; sorts = refl; defs = are_same_refl Γ.defs; terms = (e, are_same_refl Γ.terms) }

-- ---- expressions

mutual
  premises_only : (Γ : Context) (e : Expr) (t : Ty) → Has Γ e t → OnlyMeasures (premises Γ e)
  premises_only Γ (TermVar at k) t h = nothing_only
  premises_only Γ (DefVar at k) t h = nothing_only
  premises_only Γ (Array at dims no_atoms) t h = absurd h
  premises_only Γ (Array at dims (more_atoms x xs)) t h =
      then_only (atom_only Γ x h.0 h.1) (any_only (λ u j. later_atoms_only Γ h.0 u (unique_atom Γ x h.0 u h.1 j) xs h.2))
  premises_only Γ (NoAtoms at dims a) t h = written_atom_only Γ a h.0
  premises_only Γ (Frame at dims no_exprs) t h = absurd h
  premises_only Γ (Frame at dims (more_exprs e es)) t h =
      then_only (concluding_only Γ e (premises_only Γ e (array_of h.0 h.1) h.2))
      (any_type_only Γ e (array_of h.0 h.1) h.2 (λ u j same. later_cells_only Γ (array_of h.0 h.1) u same es h.3))
  premises_only Γ (NoCells at dims u) t h = written_only Γ u h.0
  premises_only Γ (App at f es) t h =
      let fun : Ty = array_of (Fun no_span h.0 h.1) h.2 in
      then_only (concluding_only Γ f (premises_only Γ f fun h.3))
      (any_type_only Γ f fun h.3 (λ u j same.
      then_only (premise_only 19 (expr_at f) (function_same fun u same tt))
      (function_only Γ h.0 h.1 h.2 u same (has_formed Γ f fun h.3) (has_formed Γ f u j) (λ us q p parts.
      then_only (premise_only 20 at (sym (same_count h.0 us parts.inputs) ∙ args_count Γ es h.0 h.4.0 h.4.1))
      (then_only (args_only Γ es h.0 us h.4.0 h.4.1 parts.inputs parts.formed') (frames_only Γ es h.0 us h.2 p at h.4.0 parts h.4.1 (h.4.2.0, h.4.2.1)))))))
  premises_only Γ (TypeApp at e us) t h =
      let all : Ty = array_of (Forall no_span h.0 h.1) h.2 in
      then_only (concluding_only Γ e (premises_only Γ e all h.3))
      (any_type_only Γ e all h.3 (λ u j same.
      then_only (premise_only 23 (expr_at e) (forall_same all u same tt))
      (forall_only h.0 h.1 h.2 u same _ (then_only (premise_only 20 at h.4) (all_written_atoms_only Γ us h.5)))))
  premises_only Γ (IndexApp at e is) t h =
      let all : Ty = array_of (Pi no_span h.0 h.1) h.2 in
      then_only (concluding_only Γ e (premises_only Γ e all h.3))
      (any_type_only Γ e all h.3 (λ u j same.
      then_only (premise_only 24 (expr_at e) (pi_same all u same tt))
      (pi_only h.0 h.1 h.2 u same _ (then_only (premise_only 20 at (two_count (IsSorted Γ.sorts) h.0 is h.4)) (written_indices_only Γ h.0 is h.4)))))
  premises_only Γ (Unbox at n e w b) t h =
      let some : Ty = array_of (Sigma no_span h.0 h.1) h.2 in
      then_only (concluding_only Γ e (premises_only Γ e some h.3))
      (any_type_only Γ e some h.3 (λ u j same.
      then_only (premise_only 25 (expr_at e) (sigma_same some u same tt))
      (sigma_only h.0 h.1 h.2 u same _ (λ c eq.
      let Δ = under_terms (c ∷ []) (under_sorts h.0 Γ) in
      let inside : Has (under_terms (c ∷ []) (under_sorts h.0 Γ)) b (times n ty_under_index w) = has_alike (under_terms (h.1 ∷ []) (under_sorts h.0 Γ)) (under_terms (c ∷ []) (under_sorts h.0 Γ)) (under_alike (under_sorts h.0 Γ) h.1 c eq) b (times n ty_under_index w) h.6 in
      then_only (premise_only 20 at (sym h.4))
      (then_only (written_only Γ w h.5)
      (then_only (concluding_only Δ b (premises_only Δ b (times n ty_under_index w) inside))
      (any_type_only Δ b (times n ty_under_index w) inside (λ v j same. premise_only 27 (ty_at w) (same_sym (times n ty_under_index w) v same)))))))))

  later_cells_only : (Γ : Context) (t u : Ty) → Same t u → (es : Exprs) → ExprsHave Γ es t → OnlyMeasures (later_cells Γ u es)
  later_cells_only Γ t u same no_exprs h = nothing_only
  later_cells_only Γ t u same (more_exprs e es) h =
      then_only (concluding_only Γ e (premises_only Γ e t h.0))
      (then_only (any_type_only Γ e t h.0 (λ v j k. premise_only 18 (expr_at e) (same_trans v t u (same_sym t v k) same))) (later_cells_only Γ t u same es h.1))

  args_only : (Γ : Context) (es : Exprs) (ts us : Tys) (ps : List Index) → ArgsHave Γ es ts ps → AllSame ts us → AreWellFormed Γ.types Γ.sorts us → OnlyMeasures (args_premises Γ es us)
  args_only Γ no_exprs ts us ps h same formed = nothing_only
  args_only Γ (more_exprs e es) ts no_tys ps h same formed = nothing_only
  args_only Γ (more_exprs e es) (more_tys (Arr at a c) ts) (more_tys u us) (p ∷ ps) h same formed =
      let whole : Ty = array_of a (then_shape p c) in
      then_only (concluding_only Γ e (premises_only Γ e whole h.0))
      (then_only (any_type_only Γ e whole h.0 (λ v j k. premise_only 21 (expr_at e) (argument_fits Γ at a p c u v same.0 k formed.0 (has_formed Γ e whole h.0) (has_formed Γ e v j))))
      (args_only Γ es ts us ps h.1 same.1 formed.1))
  args_only Γ (more_exprs e es) (more_tys _ ts) (more_tys u us) (p ∷ ps) h same formed = absurd h.0
  args_only Γ (more_exprs e es) (more_tys t ts) (more_tys u us) [] h same formed = absurd h
  args_only Γ (more_exprs e es) no_tys (more_tys u us) ps h same formed = absurd h

  atom_only : (Γ : Context) (a : Atom) (t : Ty) → HasAtom Γ a t → OnlyMeasures (atom_premises Γ a)
  atom_only Γ (IntAtom at z) t h = nothing_only
  atom_only Γ (BoolAtom at b) t h = nothing_only
  atom_only Γ (CharAtom at c) t h = nothing_only
  atom_only Γ (PrimAtom at p) t h = nothing_only
  atom_only Γ (Fn at ts r e) t h =
      let Δ = under_terms (ty_items ts) Γ in
      then_only (all_written_only Γ ts h.0)
      (then_only (written_only Γ r h.1)
      (then_only (concluding_only Δ e (premises_only Δ e r h.2))
      (any_type_only Δ e r h.2 (λ u j same. premise_only 27 (ty_at r) (same_sym r u same)))))
  atom_only Γ (TypeFn at n e) t h = concluding_only (under_types n Γ) e (premises_only (under_types n Γ) e h.0 h.1)
  atom_only Γ (IndexFn at ss e) t h = concluding_only (under_sorts ss Γ) e (premises_only (under_sorts ss Γ) e h.0 h.1)
  atom_only Γ (Boxed at is e (Sigma at' ss b)) t h =
      then_only (written_atom_only Γ (Sigma at' ss b) h.0)
      (then_only (premise_only 25 at' tt)
      (then_only (premise_only 20 at (two_count (IsSorted Γ.sorts) ss is h.1.0))
      (then_only (written_indices_only Γ ss is h.1.0)
      (then_only (type_measure_only (with_indices is b) at)
      (then_only (concluding_only Γ e (premises_only Γ e (with_indices is b) h.1.1))
      (any_type_only Γ e (with_indices is b) h.1.1 (λ u j same. premise_only 26 (expr_at e) (same_sym (with_indices is b) u same))))))))
  atom_only Γ (Boxed at is e _) t h = absurd h.1

  later_atoms_only : (Γ : Context) (t u : Ty) → Same t u → (xs : Atoms) → AtomsHave Γ xs t → OnlyMeasures (later_atoms Γ u xs)
  later_atoms_only Γ t u same no_atoms h = nothing_only
  later_atoms_only Γ t u same (more_atoms a xs) h =
      then_only (atom_only Γ a t h.0)
      (then_only (any_only (λ v j. premise_only 17 (atom_at a) (same_trans v t u (same_sym t v (unique_atom Γ a t v h.0 j)) same))) (later_atoms_only Γ t u same xs h.1))

-- an expression that has a type is blamed for a measure only
pub has_blame : (Γ : Context) (e : Expr) (t : Ty) → Has Γ e t → (r : Refusal) → (expr_premises Γ e).blames r → IsMeasure r
has_blame Γ e t h r b = (concluding_only Γ e (premises_only Γ e t h)).blamed r b

-- ---- programs

defs_only_measures : (earlier : List Ty) (ds : List Def) → DefsTyped earlier ds → OnlyMeasures (defs_premises earlier ds)
defs_only_measures earlier [] h = nothing_only
defs_only_measures earlier (d ∷ ds) h =
    let Γ = defs_only earlier in
    then_only
    (then_only (written_only Γ d.ty h.0.0)
    (then_only (premise_only 28 (expr_at d.value) h.0.1)
    (then_only (concluding_only Γ d.value (premises_only Γ d.value d.ty h.0.2))
    (any_type_only Γ d.value d.ty h.0.2 (λ u j same. premise_only 27 (ty_at d.ty) (same_sym d.ty u same))))))
    (defs_only_measures (earlier ++ d.ty ∷ []) ds h.1)

inputs_only : (ts : List Ty) → Each (λ t. IsWellFormed 0 [] t × (is_printable t ≡ true)) ts → OnlyMeasures (inputs_premises ts)
inputs_only [] h = nothing_only
inputs_only (t ∷ ts) h = then_only (then_only (written_only (defs_only []) t h.0.0) (premise_only 29 (ty_at t) h.0.1)) (inputs_only ts h.1)

program_only : (P : Program) → Typed P → OnlyMeasures (program_premises P)
program_only P typed =
    let Γ = body_context P in
    let t = typed.body.0 in
    then_only (defs_only_measures [] P.defs typed.defs)
    (then_only (inputs_only P.inputs typed.inputs)
    (then_only (concluding_only Γ P.body (premises_only Γ P.body t typed.body.2))
    (any_type_only Γ P.body t typed.body.2 (λ u j same. premise_only 30 (expr_at P.body) (sym (printable_same t u same) ∙ typed.body.1)))))

-- a typed program is blamed for a measure only
pub typed_blame : (P : Program) → Typed P → (r : Refusal) → Blames P r → IsMeasure r
typed_blame P typed r b = (program_only P typed).blamed r b
