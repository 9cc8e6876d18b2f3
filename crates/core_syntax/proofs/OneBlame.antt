-- Premises are not met and blamed at once, and blame one refusal at most.
use Rattle.std.proofs.Common.{◌≡◌, refl, sym, ◌∙◌, ℕ, List, [], ◌∷◌, ◌++◌, length}
use Rattle.core_syntax.specs.declared.span.Span.{Span}
use Rattle.core_syntax.specs.declared.index.Sort.{Sort}
use Rattle.core_syntax.specs.Syntax.{Index, index_at, Ty, BaseTy, Sigma, Arr, Tys, no_tys, more_tys, ty_at, ty_items, Expr, TermVar, DefVar, Array, NoAtoms, Frame, NoCells, App, TypeApp, IndexApp, Unbox, Exprs, no_exprs, more_exprs, expr_at, Atom, IntAtom, BoolAtom, CharAtom, PrimAtom, Fn, TypeFn, IndexFn, Boxed, Atoms, no_atoms, more_atoms, atom_at, Def, Program}
use Rattle.core_syntax.specs.Lists.{EachTwo}
use Rattle.core_syntax.specs.Sorts.{Refusal, index_blame}
use Rattle.core_syntax.specs.Kinds.{IsWellFormed, AreWellFormed, kind_blame, atom_kind_blame}
use Rattle.core_syntax.specs.Value.{SameShape}
use Rattle.core_syntax.specs.TypeEqual.{Same, AllSame}
use Rattle.core_syntax.specs.Norm.{measure_at}
use Rattle.core_syntax.specs.NormTypes.{measure_ty}
use Rattle.core_syntax.specs.Subst.{ty_under_index, with_indices}
use Rattle.core_syntax.specs.Typing.{Context, times, is_printable_atom, under_types, under_sorts, under_terms, IsPrincipal, Has, ArgsHave, is_printable, defs_only, body_context}
use Rattle.core_syntax.specs.Blame.{Premises, premise, ◌then◌, with_any, written, written_atom, all_written, all_written_atoms, written_indices, concluding, premises, cells_premises, later_cells, args_premises, atom_premises, atoms_premises, later_atoms, expr_premises, def_premises, defs_premises, inputs_premises, program_premises, IsAccepted, Blames}
use Rattle.core_syntax.proofs.Equality.{same_refl, same_sym}
use Rattle.core_syntax.proofs.Unique.{shapes_sym, unique, unique_atom, args_unique}
use Rattle.core_syntax.proofs.Formed.{has_formed, frames_sorted}
use Rattle.core_syntax.proofs.Alike.{Alike, has_alike, are_same_refl}
use Rattle.core_syntax.proofs.Carries.{expr_premises_carry}
use Rattle.core_syntax.proofs.Agree.{Agree, nothing_agrees, premise_agrees, tested_agrees, measure_agrees, then_agrees, with_any_agrees, carried_agrees}
use Rattle.core_syntax.proofs.Readings.{Functions, measure_same, same_count, same_both, function_same, forall_same, pi_same, sigma_same, function_agrees, forall_agrees, pi_agrees, sigma_agrees, fits_same, principal_same}

-- ---- written types and indices

written_agrees : (Γ : Context) (t : Ty) → Agree (written Γ t) (written Γ t)
written_agrees Γ t = then_agrees (tested_agrees (kind_blame Γ.sorts t)) (λ m m'. measure_agrees (measure_ty t) (measure_ty t) (ty_at t) refl)

written_atom_agrees : (Γ : Context) (t : Ty) → Agree (written_atom Γ t) (written_atom Γ t)
written_atom_agrees Γ t = then_agrees (tested_agrees (atom_kind_blame Γ.sorts t)) (λ m m'. measure_agrees (measure_ty t) (measure_ty t) (ty_at t) refl)

all_written_agree : (Γ : Context) (ts : Tys) → Agree (all_written Γ ts) (all_written Γ ts)
all_written_agree Γ no_tys = nothing_agrees
all_written_agree Γ (more_tys t ts) = then_agrees (written_agrees Γ t) (λ m m'. all_written_agree Γ ts)

all_written_atoms_agree : (Γ : Context) (ts : List Ty) → Agree (all_written_atoms Γ ts) (all_written_atoms Γ ts)
all_written_atoms_agree Γ [] = nothing_agrees
all_written_atoms_agree Γ (t ∷ ts) = then_agrees (written_atom_agrees Γ t) (λ m m'. all_written_atoms_agree Γ ts)

written_indices_agree : (Γ : Context) (ss : List Sort) (is : List Index) → Agree (written_indices Γ ss is) (written_indices Γ ss is)
written_indices_agree Γ (s ∷ ss) (i ∷ is) =
    then_agrees (then_agrees (tested_agrees (index_blame Γ.sorts s i)) (λ m m'. measure_agrees (measure_at s i) (measure_at s i) (index_at i) refl))
    (λ m m'. written_indices_agree Γ ss is)
written_indices_agree Γ _ _ = nothing_agrees

-- ---- what is read of a type of an expression

-- the same premise of any two types of an expression
any_agrees : (Γ : Context) (e : Expr) {f g : Ty → Premises}
    → ((t u : Ty) → Same t u → IsWellFormed Γ.types Γ.sorts t → IsWellFormed Γ.types Γ.sorts u → Agree (f t) (g u)) → Agree (with_any (Has Γ e) f) (with_any (Has Γ e) g)
any_agrees Γ e k = with_any_agrees (λ t u h j. k t u (unique Γ e t u h j) (has_formed Γ e t h) (has_formed Γ e u j))

concluding_agrees : (Γ : Context) (e : Expr) {p : Premises} → Agree p p → Agree (concluding Γ e p) (concluding Γ e p)
concluding_agrees Γ e h = then_agrees h (λ m m'. any_agrees Γ e (λ t u s f f'. measure_agrees (measure_ty t) (measure_ty u) (expr_at e) (measure_same t u s)))

-- the body of an `unbox`, in contexts with equal types of its variable
under_alike : (Γ : Context) (c c' : Ty) → Same c c' → Alike (under_terms (c' ∷ []) Γ) (under_terms (c ∷ []) Γ)
under_alike Γ c c' e = record { types = refl; sorts = refl; defs = are_same_refl Γ.defs; terms = (same_sym c c' e, are_same_refl Γ.terms) }

-- and what its type is tested for
body_agrees : (Γ : Context) (c c' : Ty) → Same c c' → (b : Expr) (f : Ty → Premises) → Agree (premises (under_terms (c ∷ []) Γ) b) (premises (under_terms (c ∷ []) Γ) b)
    → ((t u : Ty) → Same t u → Agree (f t) (f u))
    → Agree (expr_premises (under_terms (c ∷ []) Γ) b then with_any (Has (under_terms (c ∷ []) Γ) b) f) (expr_premises (under_terms (c' ∷ []) Γ) b then with_any (Has (under_terms (c' ∷ []) Γ) b) f)
body_agrees Γ c c' e b f h k =
    let alike : Alike (under_terms (c' ∷ []) Γ) (under_terms (c ∷ []) Γ) = under_alike Γ c c' e in
    then_agrees (carried_agrees (concluding_agrees (under_terms (c ∷ []) Γ) b h) (expr_premises_carry (under_terms (c' ∷ []) Γ) (under_terms (c ∷ []) Γ) alike b))
    (λ m m'. with_any_agrees (λ t u h j. k t u (unique (under_terms (c ∷ []) Γ) b t u h (has_alike (under_terms (c' ∷ []) Γ) (under_terms (c ∷ []) Γ) alike b u j))))

-- an equality with any two types of an expression
same_agrees : (n : ℕ) (at : Span) (t t' u u' : Ty) → Same t t' → Same u u' → Agree (premise n at (Same t u)) (premise n at (Same t' u'))
same_agrees n at t t' u u' e d = premise_agrees n at (same_both t t' u u' e d) (same_both t' t u' u (same_sym t t' e) (same_sym u u' d))

-- the frames of an application
frames_agree : (Γ : Context) (es : Exprs) (ts us : Tys) (s p : Index) (at : Span) → Functions Γ.types Γ.sorts ts us s p
    → Agree (with_any (ArgsHave Γ es ts) (λ frames. premise 22 at ((q : Index) × IsPrincipal Γ (s ∷ frames) q))) (with_any (ArgsHave Γ es us) (λ frames. premise 22 at ((q : Index) × IsPrincipal Γ (p ∷ frames) q)))
frames_agree Γ es ts us s p at parts = with_any_agrees (λ ps qs h j.
    let same : EachTwo SameShape ps qs = args_unique Γ es ts us ps qs h j parts.inputs in
    premise_agrees 22 at
    (principal_same Γ (s ∷ ps) (p ∷ qs) (parts.frames, same) (parts.sorted', frames_sorted Γ es us qs j))
    (principal_same Γ (p ∷ qs) (s ∷ ps) (shapes_sym (s ∷ ps) (p ∷ qs) (parts.frames, same)) (parts.sorted, frames_sorted Γ es ts ps h)))

-- ---- expressions

mutual
  premises_agree : (Γ : Context) (e : Expr) → Agree (premises Γ e) (premises Γ e)
  premises_agree Γ (TermVar at k) = nothing_agrees
  premises_agree Γ (DefVar at k) = nothing_agrees
  premises_agree Γ (Array at dims xs) = atoms_agree Γ xs
  premises_agree Γ (NoAtoms at dims t) = written_atom_agrees Γ t
  premises_agree Γ (Frame at dims es) = cells_agree Γ es
  premises_agree Γ (NoCells at dims t) = written_agrees Γ t
  premises_agree Γ (App at f es) =
      then_agrees (concluding_agrees Γ f (premises_agree Γ f))
      (λ m m'. any_agrees Γ f (λ t u e formed formed'.
      then_agrees (premise_agrees 19 (expr_at f) (function_same t u e) (function_same u t (same_sym t u e)))
      (λ m m'. function_agrees Γ.types Γ.sorts t u e formed formed' (λ ts us r q s p parts.
      let count : length (ty_items ts) ≡ length (ty_items us) = same_count ts us parts.inputs in
      then_agrees (premise_agrees 20 at (λ n. sym count ∙ n) (λ n. count ∙ n))
      (λ m m'. then_agrees (args_agree Γ es ts us parts.inputs parts.formed parts.formed') (λ m m'. frames_agree Γ es ts us s p at parts))))))
  premises_agree Γ (TypeApp at e us) =
      then_agrees (concluding_agrees Γ e (premises_agree Γ e))
      (λ m m'. any_agrees Γ e (λ t u same formed formed'.
      then_agrees (premise_agrees 23 (expr_at e) (forall_same t u same) (forall_same u t (same_sym t u same)))
      (λ m m'. forall_agrees t u same (λ n. then_agrees (premise_agrees 20 at (λ h. h) (λ h. h)) (λ m m'. all_written_atoms_agree Γ us)))))
  premises_agree Γ (IndexApp at e is) =
      then_agrees (concluding_agrees Γ e (premises_agree Γ e))
      (λ m m'. any_agrees Γ e (λ t u same formed formed'.
      then_agrees (premise_agrees 24 (expr_at e) (pi_same t u same) (pi_same u t (same_sym t u same)))
      (λ m m'. pi_agrees t u same (λ ss. then_agrees (premise_agrees 20 at (λ h. h) (λ h. h)) (λ m m'. written_indices_agree Γ ss is)))))
  premises_agree Γ (Unbox at n e w b) =
      then_agrees (concluding_agrees Γ e (premises_agree Γ e))
      (λ m m'. any_agrees Γ e (λ t u same formed formed'.
      then_agrees (premise_agrees 25 (expr_at e) (sigma_same t u same) (sigma_same u t (same_sym t u same)))
      (λ m m'. sigma_agrees t u same (λ ss c c' eq. then_agrees (premise_agrees 20 at (λ h. h) (λ h. h))
      (λ m m'. then_agrees (written_agrees Γ w)
      (λ m m'. body_agrees (under_sorts ss Γ) c c' eq b (λ v. premise 27 (ty_at w) (Same v (times n ty_under_index w)))
      (premises_agree (under_terms (c ∷ []) (under_sorts ss Γ)) b)
      (λ v v' k. same_agrees 27 (ty_at w) v v' (times n ty_under_index w) (times n ty_under_index w) k (same_refl (times n ty_under_index w)))))))))

  cells_agree : (Γ : Context) (es : Exprs) → Agree (cells_premises Γ es) (cells_premises Γ es)
  cells_agree Γ no_exprs = nothing_agrees
  cells_agree Γ (more_exprs e es) =
      then_agrees (concluding_agrees Γ e (premises_agree Γ e)) (λ m m'. any_agrees Γ e (λ t u same formed formed'. later_cells_agree Γ t u same es))

  later_cells_agree : (Γ : Context) (t u : Ty) → Same t u → (es : Exprs) → Agree (later_cells Γ t es) (later_cells Γ u es)
  later_cells_agree Γ t u same no_exprs = nothing_agrees
  later_cells_agree Γ t u same (more_exprs e es) =
      then_agrees (concluding_agrees Γ e (premises_agree Γ e))
      (λ m m'. then_agrees (any_agrees Γ e (λ v v' k formed formed'. same_agrees 18 (expr_at e) v v' t u k same)) (λ m m'. later_cells_agree Γ t u same es))

  args_agree : (Γ : Context) (es : Exprs) (ts us : Tys) → AllSame ts us → AreWellFormed Γ.types Γ.sorts ts → AreWellFormed Γ.types Γ.sorts us → Agree (args_premises Γ es ts) (args_premises Γ es us)
  args_agree Γ no_exprs ts us same formed formed' = nothing_agrees
  args_agree Γ (more_exprs e es) no_tys no_tys same formed formed' = nothing_agrees
  args_agree Γ (more_exprs e es) (more_tys t ts) (more_tys u us) same formed formed' =
      then_agrees (concluding_agrees Γ e (premises_agree Γ e))
      (λ m m'. then_agrees
      (any_agrees Γ e (λ v w k f f'. premise_agrees 21 (expr_at e) (fits_same Γ t u v w same.0 k formed'.0 f') (fits_same Γ u t w v (same_sym t u same.0) (same_sym v w k) formed.0 f)))
      (λ m m'. args_agree Γ es ts us same.1 formed.1 formed'.1))
  args_agree Γ (more_exprs e es) _ _ same formed formed' = absurd same

  atom_agrees : (Γ : Context) (a : Atom) → Agree (atom_premises Γ a) (atom_premises Γ a)
  atom_agrees Γ (IntAtom at z) = nothing_agrees
  atom_agrees Γ (BoolAtom at b) = nothing_agrees
  atom_agrees Γ (CharAtom at c) = nothing_agrees
  atom_agrees Γ (PrimAtom at p) = nothing_agrees
  atom_agrees Γ (Fn at ts r e) =
      then_agrees (all_written_agree Γ ts)
      (λ m m'. then_agrees (written_agrees Γ r)
      (λ m m'. then_agrees (concluding_agrees (under_terms (ty_items ts) Γ) e (premises_agree (under_terms (ty_items ts) Γ) e))
      (λ m m'. any_agrees (under_terms (ty_items ts) Γ) e (λ t u k formed formed'. same_agrees 27 (ty_at r) t u r r k (same_refl r)))))
  atom_agrees Γ (TypeFn at n e) = concluding_agrees (under_types n Γ) e (premises_agree (under_types n Γ) e)
  atom_agrees Γ (IndexFn at ss e) = concluding_agrees (under_sorts ss Γ) e (premises_agree (under_sorts ss Γ) e)
  atom_agrees Γ (Boxed at is e (Sigma at' ss b)) =
      then_agrees (written_atom_agrees Γ (Sigma at' ss b))
      (λ m m'. then_agrees (premise_agrees 25 at' (λ h. h) (λ h. h))
      (λ m m'. then_agrees (premise_agrees 20 at (λ h. h) (λ h. h))
      (λ m m'. then_agrees (written_indices_agree Γ ss is)
      (λ m m'. then_agrees (measure_agrees (measure_ty (with_indices is b)) (measure_ty (with_indices is b)) at refl)
      (λ m m'. then_agrees (concluding_agrees Γ e (premises_agree Γ e))
      (λ m m'. any_agrees Γ e (λ t u k formed formed'. same_agrees 26 (expr_at e) t u (with_indices is b) (with_indices is b) k (same_refl (with_indices is b)))))))))
  atom_agrees Γ (Boxed at is e t) =
      then_agrees (written_atom_agrees Γ t) (λ m m'. then_agrees (premise_agrees 25 (ty_at t) (λ h. h) (λ h. h)) (λ m m'. nothing_agrees))

  atoms_agree : (Γ : Context) (xs : Atoms) → Agree (atoms_premises Γ xs) (atoms_premises Γ xs)
  atoms_agree Γ no_atoms = nothing_agrees
  atoms_agree Γ (more_atoms a xs) =
      then_agrees (atom_agrees Γ a) (λ m m'. with_any_agrees (λ t u h j. later_atoms_agree Γ t u (unique_atom Γ a t u h j) xs))

  later_atoms_agree : (Γ : Context) (t u : Ty) → Same t u → (xs : Atoms) → Agree (later_atoms Γ t xs) (later_atoms Γ u xs)
  later_atoms_agree Γ t u same no_atoms = nothing_agrees
  later_atoms_agree Γ t u same (more_atoms a xs) =
      then_agrees (atom_agrees Γ a)
      (λ m m'. then_agrees (with_any_agrees (λ v w h j. same_agrees 17 (atom_at a) v w t u (unique_atom Γ a v w h j) same)) (λ m m'. later_atoms_agree Γ t u same xs))

expr_premises_agree : (Γ : Context) (e : Expr) → Agree (expr_premises Γ e) (expr_premises Γ e)
expr_premises_agree Γ e = concluding_agrees Γ e (premises_agree Γ e)

-- the premises of an expression blame one refusal at most, and none where all are met
pub one_expr_blame : (Γ : Context) (e : Expr) (r s : Refusal) → (expr_premises Γ e).blames r → (expr_premises Γ e).blames s → r ≡ s
one_expr_blame Γ e r s b c = (expr_premises_agree Γ e).one r s b c

pub expr_accepted_alone : (Γ : Context) (e : Expr) (r : Refusal) → (expr_premises Γ e).met → (expr_premises Γ e).blames r → ⊥
expr_accepted_alone Γ e r m b = (expr_premises_agree Γ e).met r m b

pub one_atom_blame : (Γ : Context) (a : Atom) (r s : Refusal) → (atom_premises Γ a).blames r → (atom_premises Γ a).blames s → r ≡ s
one_atom_blame Γ a r s b c = (atom_agrees Γ a).one r s b c

pub atom_accepted_alone : (Γ : Context) (a : Atom) (r : Refusal) → (atom_premises Γ a).met → (atom_premises Γ a).blames r → ⊥
atom_accepted_alone Γ a r m b = (atom_agrees Γ a).met r m b

-- ---- programs

def_agrees : (earlier : List Ty) (d : Def) → Agree (def_premises earlier d) (def_premises earlier d)
def_agrees earlier d =
    then_agrees (written_agrees (defs_only earlier) d.ty)
    (λ m m'. then_agrees (premise_agrees 28 (expr_at d.value) (λ h. h) (λ h. h))
    (λ m m'. then_agrees (expr_premises_agree (defs_only earlier) d.value)
    (λ m m'. any_agrees (defs_only earlier) d.value (λ t u k formed formed'. same_agrees 27 (ty_at d.ty) t u d.ty d.ty k (same_refl d.ty)))))

defs_agree : (earlier : List Ty) (ds : List Def) → Agree (defs_premises earlier ds) (defs_premises earlier ds)
defs_agree earlier [] = nothing_agrees
defs_agree earlier (d ∷ ds) = then_agrees (def_agrees earlier d) (λ m m'. defs_agree (earlier ++ d.ty ∷ []) ds)

inputs_agree : (ts : List Ty) → Agree (inputs_premises ts) (inputs_premises ts)
inputs_agree [] = nothing_agrees
inputs_agree (t ∷ ts) =
    then_agrees (then_agrees (written_agrees (defs_only []) t) (λ m m'. premise_agrees 29 (ty_at t) (λ h. h) (λ h. h))) (λ m m'. inputs_agree ts)

-- equal types are printable alike
mutual
  pub printable_same : (t u : Ty) → Same t u → is_printable t ≡ is_printable u
  printable_same (Arr at t i) (Arr at' u j) h = printable_atom_same t u h.0
  printable_same (Arr at t i) _ h = absurd h
  printable_same _ (Arr at u j) h = absurd h
  printable_same _ _ h = refl

  printable_atom_same : (t u : Ty) → Same t u → is_printable_atom t ≡ is_printable_atom u
  printable_atom_same (BaseTy at b) (BaseTy at' c) h = refl
  printable_atom_same (Sigma at ss t) (Sigma at' rs u) h = printable_same t u h.1
  printable_atom_same (BaseTy at b) _ h = absurd h
  printable_atom_same (Sigma at ss t) _ h = absurd h
  printable_atom_same _ (BaseTy at b) h = absurd h
  printable_atom_same _ (Sigma at ss t) h = absurd h
  printable_atom_same _ _ h = refl

program_agrees : (P : Program) → Agree (program_premises P) (program_premises P)
program_agrees P =
    then_agrees (defs_agree [] P.defs)
    (λ m m'. then_agrees (inputs_agree P.inputs)
    (λ m m'. then_agrees (expr_premises_agree (body_context P) P.body)
    (λ m m'. any_agrees (body_context P) P.body (λ t u k formed formed'.
    premise_agrees 30 (expr_at P.body) (λ h. sym (printable_same t u k) ∙ h) (λ h. printable_same t u k ∙ h)))))

-- a program has one blame at most
pub one_blame : (P : Program) (r s : Refusal) → Blames P r → Blames P s → r ≡ s
one_blame P r s b c = (program_agrees P).one r s b c

-- and none where it is accepted
pub accepted_alone : (P : Program) (r : Refusal) → IsAccepted P → Blames P r → ⊥
accepted_alone P r m b = (program_agrees P).met r m b
