-- Contexts with equal types: the same premises are met in them, and the same are blamed.
use Rattle.std.proofs.Common.{◌≡◌, subst, inl, inr, ℕ, List, [], ◌∷◌, length}
use Rattle.core_syntax.specs.declared.index.Sort.{Sort}
use Rattle.core_syntax.specs.Syntax.{Index, index_at, Ty, Fun, Forall, Pi, Sigma, Arr, Tys, no_tys, more_tys, ty_at, ty_items, Expr, TermVar, DefVar, Array, NoAtoms, Frame, NoCells, App, TypeApp, IndexApp, Unbox, Exprs, no_exprs, more_exprs, expr_at, expr_items, Atom, IntAtom, BoolAtom, CharAtom, PrimAtom, Fn, TypeFn, IndexFn, Boxed, Atoms, no_atoms, more_atoms, atom_at}
use Rattle.core_syntax.specs.Lists.{onto}
use Rattle.core_syntax.specs.Sorts.{Refusal, index_blame}
use Rattle.core_syntax.specs.TypeEqual.{Same}
use Rattle.core_syntax.specs.Norm.{measure_at}
use Rattle.core_syntax.specs.NormTypes.{measure_ty}
use Rattle.core_syntax.specs.Subst.{ty_under_index, with_indices}
use Rattle.core_syntax.specs.Typing.{Context, times, under_types, under_sorts, under_terms, IsPrincipal, Has}
use Rattle.core_syntax.specs.Blame.{Premises, nothing, premise, tested, measure, ◌then◌, with_any, written, written_atom, all_written, all_written_atoms, written_indices, concluding, IsFunction, IsForall, IsPi, IsSigma, IsSigmaAtom, of_function, of_forall, of_pi, of_sigma, of_sigma_atom, FitsInput, premises, cells_premises, later_cells, args_premises, atom_premises, atoms_premises, later_atoms, expr_premises}
use Rattle.core_syntax.proofs.Alike.{retyped, Retypes, sorts_more, types_more, retypes_sorts, retypes_types, retypes_terms, has_retyped, args_retyped, atom_retyped, Alike, alike_is, alike_retypes}

-- ---- premises

-- the second are met where the first are, and blame what those blame
pub record Carries (p q : Premises) : Type 0 where
  pub met : p.met → q.met
  pub blames : (r : Refusal) → p.blames r → q.blames r

pub carries_refl : (p : Premises) → Carries p p
carries_refl p = record { met = λ h. h; blames = λ r b. b }

then_carries : {p q p' q' : Premises} → Carries p p' → Carries q q' → Carries (p then q) (p' then q')
then_carries h k = record {
  met = λ m. (h.met m.0, k.met m.1);
  blames = λ r b. elim b [
    | inl first ↦ inl (h.blames r first)
    | inr later ↦ inr (h.met later.0, k.blames r later.1)
  ];
}

with_any_carries : {A : Type 0} {P Q : A → Type 0} {f g : A → Premises} → ((a : A) → P a → Q a) → ((a : A) → Carries (f a) (g a)) → Carries (with_any P f) (with_any Q g)
with_any_carries h k = record {
  met = λ m. (m.0, h m.0 m.1, (k m.0).met m.2);
  blames = λ r b. (b.0, h b.0 b.1, (k b.0).blames r b.2);
}

function_carries : (t : Ty) {f g : Tys → Ty → Index → Premises} → ((us : Tys) (r : Ty) (s : Index) → Carries (f us r s) (g us r s)) → Carries (of_function t f) (of_function t g)
function_carries (Arr at (Fun at' us r) s) k = k us r s
function_carries _ k = carries_refl nothing

pi_carries : (t : Ty) {f g : List Sort → Premises} → ((ss : List Sort) → Carries (f ss) (g ss)) → Carries (of_pi t f) (of_pi t g)
pi_carries (Arr at (Pi at' ss b) s) k = k ss
pi_carries _ k = carries_refl nothing

sigma_carries : (t : Ty) {f g : List Sort → Ty → Premises} → ((ss : List Sort) (b : Ty) → Carries (f ss b) (g ss b)) → Carries (of_sigma t f) (of_sigma t g)
sigma_carries (Arr at (Sigma at' ss b) s) k = k ss b
sigma_carries _ k = carries_refl nothing

sigma_atom_carries : (t : Ty) {f g : List Sort → Ty → Premises} → ((ss : List Sort) (b : Ty) → Carries (f ss b) (g ss b)) → Carries (of_sigma_atom t f) (of_sigma_atom t g)
sigma_atom_carries (Sigma at ss b) k = k ss b
sigma_atom_carries _ k = carries_refl nothing

forall_carries : (t : Ty) {f g : ℕ → Premises} → ((n : ℕ) → Carries (f n) (g n)) → Carries (of_forall t f) (of_forall t g)
forall_carries (Arr at (Forall at' n b) s) k = k n
forall_carries _ k = carries_refl nothing

-- ---- written types and indices

all_written_carries : (ds ts : List Ty) (Γ : Context) (us : Tys) → Carries (all_written Γ us) (all_written (retyped ds ts Γ) us)
all_written_carries ds ts Γ no_tys = carries_refl nothing
all_written_carries ds ts Γ (more_tys u us) = then_carries (carries_refl (written Γ u)) (all_written_carries ds ts Γ us)

all_written_atoms_carry : (ds ts : List Ty) (Γ : Context) (us : List Ty) → Carries (all_written_atoms Γ us) (all_written_atoms (retyped ds ts Γ) us)
all_written_atoms_carry ds ts Γ [] = carries_refl nothing
all_written_atoms_carry ds ts Γ (u ∷ us) = then_carries (carries_refl (written_atom Γ u)) (all_written_atoms_carry ds ts Γ us)

written_indices_carry : (ds ts : List Ty) (Γ : Context) (ss : List Sort) (is : List Index) → Carries (written_indices Γ ss is) (written_indices (retyped ds ts Γ) ss is)
written_indices_carry ds ts Γ (s ∷ ss) (i ∷ is) =
    then_carries (carries_refl (tested (index_blame Γ.sorts s i) then measure (measure_at s i) (index_at i))) (written_indices_carry ds ts Γ ss is)
written_indices_carry ds ts Γ _ _ = carries_refl nothing

-- ---- expressions

-- the premises of an expression, and what its type is then tested for
concluding_carries : (ds ts : List Ty) (Γ : Context) → Retypes ds ts Γ → (e : Expr) {p q : Premises} → Carries p q → Carries (concluding Γ e p) (concluding (retyped ds ts Γ) e q)
concluding_carries ds ts Γ r e h = then_carries h (with_any_carries (has_retyped ds ts Γ r e) (λ t. carries_refl (measure (measure_ty t) (expr_at e))))

tested_carries : (ds ts : List Ty) (Γ : Context) → Retypes ds ts Γ → (e : Expr) {p q : Premises} {f g : Ty → Premises} → Carries p q → ((t : Ty) → Carries (f t) (g t))
    → Carries (concluding Γ e p then with_any (Has Γ e) f) (concluding (retyped ds ts Γ) e q then with_any (Has (retyped ds ts Γ) e) g)
tested_carries ds ts Γ r e h k = then_carries (concluding_carries ds ts Γ r e h) (with_any_carries (has_retyped ds ts Γ r e) k)

mutual
  pub premises_carry : (ds ts : List Ty) (Γ : Context) → Retypes ds ts Γ → (e : Expr) → Carries (premises Γ e) (premises (retyped ds ts Γ) e)
  premises_carry ds ts Γ r (TermVar at k) = carries_refl nothing
  premises_carry ds ts Γ r (DefVar at k) = carries_refl nothing
  premises_carry ds ts Γ r (Array at dims xs) = atoms_carry ds ts Γ r xs
  premises_carry ds ts Γ r (NoAtoms at dims t) = carries_refl (written_atom Γ t)
  premises_carry ds ts Γ r (Frame at dims es) = cells_carry ds ts Γ r es
  premises_carry ds ts Γ r (NoCells at dims t) = carries_refl (written Γ t)
  premises_carry ds ts Γ r (App at f es) =
      tested_carries ds ts Γ r f (premises_carry ds ts Γ r f)
      (λ t. then_carries (carries_refl (premise 19 (expr_at f) (IsFunction t)))
      (function_carries t (λ us w s. then_carries (carries_refl (premise 20 at (length (ty_items us) ≡ length (expr_items es))))
      (then_carries (args_carry ds ts Γ r es us)
      (with_any_carries (args_retyped ds ts Γ r es us) (λ frames. carries_refl (premise 22 at ((p : Index) × IsPrincipal Γ (s ∷ frames) p))))))))
  premises_carry ds ts Γ r (TypeApp at e us) =
      tested_carries ds ts Γ r e (premises_carry ds ts Γ r e)
      (λ t. then_carries (carries_refl (premise 23 (expr_at e) (IsForall t)))
      (forall_carries t (λ n. then_carries (carries_refl (premise 20 at (length us ≡ n))) (all_written_atoms_carry ds ts Γ us))))
  premises_carry ds ts Γ r (IndexApp at e is) =
      tested_carries ds ts Γ r e (premises_carry ds ts Γ r e)
      (λ t. then_carries (carries_refl (premise 24 (expr_at e) (IsPi t)))
      (pi_carries t (λ ss. then_carries (carries_refl (premise 20 at (length is ≡ length ss))) (written_indices_carry ds ts Γ ss is))))
  premises_carry ds ts Γ r (Unbox at n e u b) =
      tested_carries ds ts Γ r e (premises_carry ds ts Γ r e)
      (λ t. then_carries (carries_refl (premise 25 (expr_at e) (IsSigma t)))
      (sigma_carries t (λ ss c. then_carries (carries_refl (premise 20 at (n ≡ length ss)))
      (then_carries (carries_refl (written Γ u))
      (let Δ = under_terms (c ∷ []) (under_sorts ss Γ) in
      let r' = retypes_terms ds (sorts_more ss ts) (under_sorts ss Γ) (c ∷ []) (retypes_sorts ds ts Γ ss r) in
      tested_carries ds (c ∷ sorts_more ss ts) Δ r' b (premises_carry ds (c ∷ sorts_more ss ts) Δ r' b)
      (λ w. carries_refl (premise 27 (ty_at u) (Same w (times n ty_under_index u)))))))))

  cells_carry : (ds ts : List Ty) (Γ : Context) → Retypes ds ts Γ → (es : Exprs) → Carries (cells_premises Γ es) (cells_premises (retyped ds ts Γ) es)
  cells_carry ds ts Γ r no_exprs = carries_refl nothing
  cells_carry ds ts Γ r (more_exprs e es) = tested_carries ds ts Γ r e (premises_carry ds ts Γ r e) (λ t. later_cells_carry ds ts Γ r t es)

  later_cells_carry : (ds ts : List Ty) (Γ : Context) → Retypes ds ts Γ → (t : Ty) (es : Exprs) → Carries (later_cells Γ t es) (later_cells (retyped ds ts Γ) t es)
  later_cells_carry ds ts Γ r t no_exprs = carries_refl nothing
  later_cells_carry ds ts Γ r t (more_exprs e es) =
      then_carries (concluding_carries ds ts Γ r e (premises_carry ds ts Γ r e))
      (then_carries (with_any_carries (has_retyped ds ts Γ r e) (λ u. carries_refl (premise 18 (expr_at e) (Same u t)))) (later_cells_carry ds ts Γ r t es))

  args_carry : (ds ts : List Ty) (Γ : Context) → Retypes ds ts Γ → (es : Exprs) (us : Tys) → Carries (args_premises Γ es us) (args_premises (retyped ds ts Γ) es us)
  args_carry ds ts Γ r no_exprs us = carries_refl nothing
  args_carry ds ts Γ r (more_exprs e es) no_tys = carries_refl nothing
  args_carry ds ts Γ r (more_exprs e es) (more_tys t us) =
      then_carries (concluding_carries ds ts Γ r e (premises_carry ds ts Γ r e))
      (then_carries (with_any_carries (has_retyped ds ts Γ r e) (λ u. carries_refl (premise 21 (expr_at e) (FitsInput Γ t u)))) (args_carry ds ts Γ r es us))

  pub atom_carries : (ds ts : List Ty) (Γ : Context) → Retypes ds ts Γ → (a : Atom) → Carries (atom_premises Γ a) (atom_premises (retyped ds ts Γ) a)
  atom_carries ds ts Γ r (IntAtom at z) = carries_refl nothing
  atom_carries ds ts Γ r (BoolAtom at b) = carries_refl nothing
  atom_carries ds ts Γ r (CharAtom at c) = carries_refl nothing
  atom_carries ds ts Γ r (PrimAtom at p) = carries_refl nothing
  atom_carries ds ts Γ r (Fn at us w e) =
      then_carries (all_written_carries ds ts Γ us)
      (then_carries (carries_refl (written Γ w))
      (let Δ = under_terms (ty_items us) Γ in
      let r' = retypes_terms ds ts Γ (ty_items us) r in
      tested_carries ds (onto (ty_items us) ts) Δ r' e (premises_carry ds (onto (ty_items us) ts) Δ r' e) (λ t. carries_refl (premise 27 (ty_at w) (Same t w)))))
  atom_carries ds ts Γ r (TypeFn at n e) =
      concluding_carries ds (types_more n ts) (under_types n Γ) (retypes_types ds ts Γ n r) e (premises_carry ds (types_more n ts) (under_types n Γ) (retypes_types ds ts Γ n r) e)
  atom_carries ds ts Γ r (IndexFn at ss e) =
      concluding_carries ds (sorts_more ss ts) (under_sorts ss Γ) (retypes_sorts ds ts Γ ss r) e (premises_carry ds (sorts_more ss ts) (under_sorts ss Γ) (retypes_sorts ds ts Γ ss r) e)
  atom_carries ds ts Γ r (Boxed at is e t) =
      then_carries (carries_refl (written_atom Γ t))
      (then_carries (carries_refl (premise 25 (ty_at t) (IsSigmaAtom t)))
      (sigma_atom_carries t (λ ss b. then_carries (carries_refl (premise 20 at (length is ≡ length ss)))
      (then_carries (written_indices_carry ds ts Γ ss is)
      (then_carries (carries_refl (measure (measure_ty (with_indices is b)) at))
      (tested_carries ds ts Γ r e (premises_carry ds ts Γ r e) (λ u. carries_refl (premise 26 (expr_at e) (Same u (with_indices is b))))))))))

  atoms_carry : (ds ts : List Ty) (Γ : Context) → Retypes ds ts Γ → (xs : Atoms) → Carries (atoms_premises Γ xs) (atoms_premises (retyped ds ts Γ) xs)
  atoms_carry ds ts Γ r no_atoms = carries_refl nothing
  atoms_carry ds ts Γ r (more_atoms a xs) = then_carries (atom_carries ds ts Γ r a) (with_any_carries (atom_retyped ds ts Γ r a) (λ t. later_atoms_carry ds ts Γ r t xs))

  later_atoms_carry : (ds ts : List Ty) (Γ : Context) → Retypes ds ts Γ → (t : Ty) (xs : Atoms) → Carries (later_atoms Γ t xs) (later_atoms (retyped ds ts Γ) t xs)
  later_atoms_carry ds ts Γ r t no_atoms = carries_refl nothing
  later_atoms_carry ds ts Γ r t (more_atoms a xs) =
      then_carries (atom_carries ds ts Γ r a)
      (then_carries (with_any_carries (atom_retyped ds ts Γ r a) (λ u. carries_refl (premise 17 (atom_at a) (Same u t)))) (later_atoms_carry ds ts Γ r t xs))

-- ---- the same for two contexts

pub expr_premises_carry : (Γ Δ : Context) → Alike Γ Δ → (e : Expr) → Carries (expr_premises Γ e) (expr_premises Δ e)
expr_premises_carry Γ Δ a e =
    subst (λ Δ. Carries (expr_premises Γ e) (expr_premises Δ e)) (alike_is Γ Δ a)
    (concluding_carries Δ.defs Δ.terms Γ (alike_retypes Γ Δ a) e (premises_carry Δ.defs Δ.terms Γ (alike_retypes Γ Δ a) e))

pub atom_premises_carry : (Γ Δ : Context) → Alike Γ Δ → (x : Atom) → Carries (atom_premises Γ x) (atom_premises Δ x)
atom_premises_carry Γ Δ a x = subst (λ Δ. Carries (atom_premises Γ x) (atom_premises Δ x)) (alike_is Γ Δ a) (atom_carries Δ.defs Δ.terms Γ (alike_retypes Γ Δ a) x)
