-- A step of a closed typed term is never lost and keeps the type, and a term that rests is an array, given the same of primitives.
use Rattle.std.proofs.Common.{◌≡◌, refl, sym, ◌∙◌, ap, subst, ℕ, suc, List, [], ◌∷◌, ◌++◌, Some, true}
use Rattle.std.specs.Prelude.{slice_get, ⊤}
use Rattle.core_syntax.specs.declared.errors.TrapKind.TheVariants as trap
use Rattle.core_syntax.specs.Syntax.{Index, Ty, Fun, Forall, Pi, Sigma, Arr, Tys, no_tys, more_tys, no_span}
use Rattle.core_syntax.specs.Lists.{each, Each, product}
use Rattle.core_syntax.specs.Fits.{forms, all_fit}
use Rattle.core_syntax.specs.Kinds.{IsWellFormed, is_atom_kind}
use Rattle.core_syntax.specs.Value.{then_shape}
use Rattle.core_syntax.specs.Subst.{with_types, with_indices}
use Rattle.core_syntax.specs.Prims.{array_of}
use Rattle.core_syntax.specs.Typing.{numbers, OnArr, Takes, IsPrincipal, defs_only}
use Rattle.core_syntax.specs.Terms.{TVar, TDef, TArray, TNoAtoms, TFrame, TNoCells, TApp, TTypeApp, TIndexApp, TUnbox, Terms, no_terms, more_terms, Cell, TInt, TBool, TChar, TPrim, TFn, TTypeFn, TIndexFn, TBoxed, Cells, no_cells, more_cells, term_items, scalar_of}
use Rattle.core_syntax.specs.Move.{Rests, Trapped, Goes, first_move, if_there}
use Rattle.core_syntax.specs.Rules.{dims_of, apply, collapse, if_room, over_value, type_beta, index_beta, unbox_one, box_rests}
use Rattle.core_syntax.specs.Step.{step, terms_step, cell_step, cells_step}
use Rattle.core_syntax.specs.Typed.{typed, typed_rules, TypedTerm, closed_value}
use Rattle.core_syntax.specs.TermTyping.{Notes, HasTerm, TermsHave, TermArgsHave, HasCell, CellsHave, cell_count, term_count, DefTermsTyped}
use Rattle.core_syntax.proofs.Equality.{same_refl}
use Rattle.core_syntax.proofs.Unique.{beside}
use Rattle.reduction_laws.proofs.putting.TermSubst.{term_same}
use Rattle.reduction_laws.proofs.steps.Bodies.{DefsClosed}
use Rattle.reduction_laws.proofs.steps.Acts.{type_act, index_act, unbox_act}
use Rattle.reduction_laws.proofs.steps.Applied.{apply_fine}
use Rattle.reduction_laws.proofs.steps.Scalars.{PrimFine, scalar_fine}
use Rattle.reduction_laws.proofs.steps.Moves.{Fine, first_fine, fine_either, none_fine, collapse_has, over_fine}
use Rattle.reduction_laws.proofs.steps.Parts.{IsArr, type_formed, numbers_sorted}

nothing : {A : Type 0} (k : ℕ) (a : A) → slice_get (let none : List A = [] in none) k ≡ Some a → ⊥
nothing k a e = cc

-- a fact of an array type's parts, from another
on_pair : (r : Ty) (P Q : Ty → Index → Type 0) → ((a : Ty) (c : Index) → P a c → Q a c) → OnArr r P → OnArr r Q
on_pair (Arr at a c) P Q f h = f a c h
on_pair _ P Q f h = absurd h

module _ (D : List Ty) where
  abbrev Has : Ty → TypedTerm → Type 0
  Has T t = HasTerm (defs_only D) t T

  -- a scalar of an atom of a type of kind Atom
  scalar_at : (x : Cell typed) (a : Ty) → is_atom_kind a ≡ true → IsWellFormed 0 [] a → HasCell (defs_only D) x a → Has (array_of a (numbers [])) (scalar_of x)
  scalar_at x a e w h = (a, h, tt, ((e, numbers_sorted [] [], w), same_refl (array_of a (numbers []))), refl)

  -- what a form on one atom concludes
  cell_concluded : (found : Ty) (P : Ty → Index → Type 0) → OnArr found P → IsWellFormed 0 [] found
      → OnArr found (λ b c. OnArr found (λ a d. Takes (defs_only D) (array_of a (then_shape (numbers []) d)) (array_of b (then_shape (numbers []) c))))
  cell_concluded (Arr at b c) P h w = ((w.0, (refl, (numbers_sorted [] [], (w.1, tt))), w.2), same_refl (array_of b (then_shape (numbers []) c)))
  cell_concluded _ P h w = absurd h

  array_again : (dims : List ℕ) (ys : Cells typed) (n : ℕ) (a T : Ty) → CellsHave (defs_only D) ys a → cell_count ys ≡ suc n → Takes (defs_only D) (array_of a (numbers dims)) T → suc n ≡ product dims → Has T (TArray dims ys)
  array_again dims no_cells n a T h e k c = absurd (let z : 0 ≡ suc n = e in cc)
  array_again dims (more_cells y ys) n a T h e k c = (a, h.0, h.1, k, e ∙ c)

  module _ (dc : DefsClosed D) (prims : PrimFine D) (defs : List TypedTerm) (typed_defs : DefTermsTyped D defs) where
    unfold_fine : (k : ℕ) (u T : Ty) → slice_get D k ≡ Some u → Takes (defs_only D) u T → Fine (Has T) ⊥ (if_there (slice_get defs k) (λ t. Goes t))
    unfold_fine k u T e h =
        let d = beside (λ u t. HasTerm (defs_only D) t u) D defs k u typed_defs e in
        subst (λ o. Fine (Has T) ⊥ (if_there o (λ t. Goes t))) (sym d.1) (term_same (defs_only D) d.0 u T d.2 h.1 h.0)

    app_fine : (f : TypedTerm) (es : Terms typed) (us : Tys) (r : Ty) (s : Index) (cs ps : List Index) (p : Index) (note T : Ty) → IsArr f → Has (array_of (Fun no_span us r) s) f → Each IsArr (term_items es)
        → TermArgsHave (defs_only D) es us cs ps → Notes (defs_only D) r note → IsPrincipal (defs_only D) (s ∷ ps) p → OnArr r (λ a c. Takes (defs_only D) (array_of a (then_shape p c)) T) → Fine (Has T) ⊥ (apply typed_rules f (term_items es) cs note)
    app_fine f es us (Arr at b c) s cs ps p note T vf hf ve he n pr k =
        let w = type_formed (defs_only D) f (array_of (Fun no_span us (Arr at b c)) s) hf in
        let hf' : Has (array_of (Fun no_span us (Arr no_span b c)) s) f = term_same (defs_only D) f (array_of (Fun no_span us (Arr at b c)) s) (array_of (Fun no_span us (Arr no_span b c)) s) hf (same_refl (array_of (Fun no_span us (Arr no_span b c)) s)) w in
        apply_fine D f es us b c s cs ps p note T vf hf' ve he n pr k ⊥ (λ fe pe. scalar_fine D dc prims f es us b c s cs ps p note T vf hf' ve he n pr.2.1 k fe pe)
    app_fine f es us _ s cs ps p note T vf hf ve he n pr k = absurd k

    mutual
      pub step_fine : (t : TypedTerm) (T : Ty) → HasTerm (defs_only D) t T → Fine (λ u. HasTerm (defs_only D) u T) (IsArr t) (step typed_rules defs t)
      step_fine (TVar k) T h = absurd (nothing k h.0 h.1)
      step_fine (TDef k) T h = unfold_fine k h.0 T h.1 h.2
      step_fine (TArray dims no_cells) T h = absurd h
      step_fine (TArray dims (more_cells x xs)) T h =
          first_fine (λ ys. CellsHave (defs_only D) ys h.0 × (cell_count ys ≡ suc (cell_count xs))) ⊤ (Has T) (IsArr (TArray dims (more_cells x xs))) (cells_step typed_rules defs (more_cells x xs)) (TArray dims) Rests
          (cells_fine (more_cells x xs) h.0 (h.1, h.2)) (λ ys g. array_again dims ys (cell_count xs) h.0 T g.0 g.1 h.3 h.4) (λ v. tt)
      step_fine (TNoAtoms dims a) T h = tt
      step_fine (TFrame dims no_terms note) T h = absurd h
      step_fine (TFrame dims (more_terms e es) note) T h =
          first_fine (Has (array_of h.0 h.1)) (IsArr e) (Has T) ⊥ (step typed_rules defs e) (λ u. TFrame dims (more_terms u es) note)
          (if_room typed_rules (dims ++ dims_of typed_rules e) (first_move (terms_step typed_rules defs es) (λ us. TFrame dims (more_terms e us) note) (Goes (collapse typed_rules dims e (term_items es) note))))
          (step_fine e (array_of h.0 h.1) h.2) (λ u hu. (h.0, h.1, hu, h.3, h.4, h.5, h.6))
          (λ ve.
          fine_either (Has T) ⊥ (forms (dims ++ dims_of typed_rules e)) (first_move (terms_step typed_rules defs es) (λ us. TFrame dims (more_terms e us) note) (Goes (collapse typed_rules dims e (term_items es) note))) (Trapped trap.Size)
          (λ room.
          first_fine (λ us. TermsHave (defs_only D) us (array_of h.0 h.1) × (term_count us ≡ term_count es)) (Each IsArr (term_items es)) (Has T) ⊥ (terms_step typed_rules defs es) (λ us. TFrame dims (more_terms e us) note)
          (Goes (collapse typed_rules dims e (term_items es) note)) (terms_fine es (array_of h.0 h.1) h.3) (λ us g. (h.0, h.1, h.2, g.0, h.4, h.5, ap suc g.1 ∙ h.6))
          (λ ves. collapse_has D dims e es h.0 h.1 note T ve ves h.2 h.3 h.4 h.5 h.6)) (λ room. tt))
      step_fine (TNoCells w) T h = none_fine D ⊥ w T h.0 h.1 h.2
      step_fine (TApp f es cs note) T h =
          first_fine (Has (array_of (Fun no_span h.0 h.1) h.2)) (IsArr f) (Has T) ⊥ (step typed_rules defs f) (λ g. TApp g es cs note) (first_move (terms_step typed_rules defs es) (λ us. TApp f us cs note) (apply typed_rules f (term_items es) cs note))
          (step_fine f (array_of (Fun no_span h.0 h.1) h.2) h.3) (λ g hg. (h.0, h.1, h.2, hg, h.4))
          (λ vf.
          first_fine (λ us. TermArgsHave (defs_only D) us h.0 cs h.4.0) (Each IsArr (term_items es)) (Has T) ⊥ (terms_step typed_rules defs es) (λ us. TApp f us cs note) (apply typed_rules f (term_items es) cs note)
          (args_fine es h.0 cs h.4.0 h.4.1) (λ us hu. (h.0, h.1, h.2, h.3, (h.4.0, hu, h.4.2, h.4.3)))
          (λ ves. app_fine f es h.0 h.1 h.2 cs h.4.0 h.4.3.0 note T vf h.3 ves h.4.1 h.4.2 h.4.3.1 h.4.3.2))
      step_fine (TTypeApp e us note) T h =
          let w = type_formed (defs_only D) e (array_of (Forall no_span h.0 h.1) h.2) h.3 in
          first_fine (Has (array_of (Forall no_span h.0 h.1) h.2)) (IsArr e) (Has T) ⊥ (step typed_rules defs e) (λ u. TTypeApp u us note) (over_value typed_rules e (λ a. TTypeApp a us note) (type_beta typed_rules us) note)
          (step_fine e (array_of (Forall no_span h.0 h.1) h.2) h.3) (λ u hu. (h.0, h.1, h.2, hu, h.4, h.5, h.6, h.7))
          (λ ve.
          over_fine D ⊥ e (Forall no_span h.0 h.1) h.2 (with_types us h.1) note T (λ a. TTypeApp a us note) (type_beta typed_rules us) ve h.3 h.6 h.7
          (λ x hx. on_pair (with_types us h.1) _ _ (λ b c k. (h.0, h.1, numbers [], scalar_at x (Forall no_span h.0 h.1) refl w.2 hx, h.4, h.5, h.6, k)) (cell_concluded (with_types us h.1) _ h.7 h.6.0))
          (λ x hx. type_act D dc ⊥ us h.0 h.1 h.4 h.5 h.6.0 x hx))
      step_fine (TIndexApp e is note) T h =
          let w = type_formed (defs_only D) e (array_of (Pi no_span h.0 h.1) h.2) h.3 in
          first_fine (Has (array_of (Pi no_span h.0 h.1) h.2)) (IsArr e) (Has T) ⊥ (step typed_rules defs e) (λ u. TIndexApp u is note) (over_value typed_rules e (λ a. TIndexApp a is note) (index_beta typed_rules is) note)
          (step_fine e (array_of (Pi no_span h.0 h.1) h.2) h.3) (λ u hu. (h.0, h.1, h.2, hu, h.4, h.5, h.6))
          (λ ve.
          over_fine D ⊥ e (Pi no_span h.0 h.1) h.2 (with_indices is h.1) note T (λ a. TIndexApp a is note) (index_beta typed_rules is) ve h.3 h.5 h.6
          (λ x hx. on_pair (with_indices is h.1) _ _ (λ b c k. (h.0, h.1, numbers [], scalar_at x (Pi no_span h.0 h.1) refl w.2 hx, h.4, h.5, k)) (cell_concluded (with_indices is h.1) _ h.6 h.5.0))
          (λ x hx. index_act D dc ⊥ is h.0 h.1 h.4 h.5.0 x hx))
      step_fine (TUnbox ss e b note) T h =
          let w = type_formed (defs_only D) e (array_of (Sigma no_span ss h.0) h.1) h.2 in
          first_fine (Has (array_of (Sigma no_span ss h.0) h.1)) (IsArr e) (Has T) ⊥ (step typed_rules defs e) (λ u. TUnbox ss u b note) (over_value typed_rules e (λ a. TUnbox ss a b note) (unbox_one typed_rules b) note)
          (step_fine e (array_of (Sigma no_span ss h.0) h.1) h.2) (λ u hu. (h.0, h.1, hu, h.3, h.4, h.5))
          (λ ve.
          over_fine D ⊥ e (Sigma no_span ss h.0) h.1 note note T (λ a. TUnbox ss a b note) (unbox_one typed_rules b) ve h.2 (h.3, h.3, same_refl note) h.5
          (λ x hx. on_pair note _ _ (λ d c k. (h.0, numbers [], scalar_at x (Sigma no_span ss h.0) refl w.2 hx, h.3, h.4, k)) (cell_concluded note _ h.5 h.3))
          (λ x hx. unbox_act D dc ⊥ ss h.0 note b w.2 h.3 h.4 x hx))

      terms_fine : (es : Terms typed) (T : Ty) → TermsHave (defs_only D) es T → Fine (λ us. TermsHave (defs_only D) us T × (term_count us ≡ term_count es)) (Each IsArr (term_items es)) (terms_step typed_rules defs es)
      terms_fine no_terms T h = tt
      terms_fine (more_terms e es) T h =
          first_fine (Has T) (IsArr e) (λ us. TermsHave (defs_only D) us T × (term_count us ≡ suc (term_count es))) (IsArr e × Each IsArr (term_items es)) (step typed_rules defs e) (λ u. more_terms u es) (first_move (terms_step typed_rules defs es) (more_terms e) Rests)
          (step_fine e T h.0) (λ u hu. ((hu, h.1), refl))
          (λ ve.
          first_fine (λ us. TermsHave (defs_only D) us T × (term_count us ≡ term_count es)) (Each IsArr (term_items es)) (λ us. TermsHave (defs_only D) us T × (term_count us ≡ suc (term_count es))) (IsArr e × Each IsArr (term_items es))
          (terms_step typed_rules defs es) (more_terms e) Rests (terms_fine es T h.1) (λ us g. ((h.0, g.0), ap suc g.1)) (λ ves. (ve, ves)))

      args_fine : (es : Terms typed) (ws : Tys) (cs ps : List Index) → TermArgsHave (defs_only D) es ws cs ps → Fine (λ us. TermArgsHave (defs_only D) us ws cs ps) (Each IsArr (term_items es)) (terms_step typed_rules defs es)
      args_fine no_terms ws cs ps h = tt
      args_fine (more_terms e es) (more_tys (Arr at a w) ws) (c ∷ cs) (p ∷ ps) h =
          first_fine (Has (array_of a (then_shape p w))) (IsArr e) (λ us. TermArgsHave (defs_only D) us (more_tys (Arr at a w) ws) (c ∷ cs) (p ∷ ps)) (IsArr e × Each IsArr (term_items es)) (step typed_rules defs e) (λ u. more_terms u es)
          (first_move (terms_step typed_rules defs es) (more_terms e) Rests) (step_fine e (array_of a (then_shape p w)) h.0.0) (λ u hu. ((hu, h.0.1), h.1))
          (λ ve.
          first_fine (λ us. TermArgsHave (defs_only D) us ws cs ps) (Each IsArr (term_items es)) (λ us. TermArgsHave (defs_only D) us (more_tys (Arr at a w) ws) (c ∷ cs) (p ∷ ps)) (IsArr e × Each IsArr (term_items es))
          (terms_step typed_rules defs es) (more_terms e) Rests (args_fine es ws cs ps h.1) (λ us g. (h.0, g)) (λ ves. (ve, ves)))
      args_fine (more_terms e es) (more_tys _ ws) (c ∷ cs) (p ∷ ps) h = absurd h.0
      args_fine (more_terms e es) no_tys cs ps h = absurd h
      args_fine (more_terms e es) (more_tys u ws) [] ps h = absurd h
      args_fine (more_terms e es) (more_tys u ws) (c ∷ cs) [] h = absurd h

      cell_fine : (x : Cell typed) (a : Ty) → HasCell (defs_only D) x a → Fine (λ y. HasCell (defs_only D) y a) ⊤ (cell_step typed_rules defs x)
      cell_fine (TBoxed is e (Sigma at ss b)) a h =
          first_fine (Has (with_indices is b)) (IsArr e) (λ y. HasCell (defs_only D) y a) ⊤ (step typed_rules defs e) (λ u. TBoxed is u (Sigma at ss b)) (box_rests typed_rules is)
          (step_fine e (with_indices is b) h.1.1) (λ u hu. (h.0, (h.1.0, hu), h.2))
          (λ ve. fine_either (λ y. HasCell (defs_only D) y a) ⊤ (all_fit (each closed_value is)) Rests (Trapped trap.Size) (λ t. tt) (λ t. tt))
      cell_fine (TBoxed is e _) a h = absurd h.1
      cell_fine (TInt z) a h = tt
      cell_fine (TBool z) a h = tt
      cell_fine (TChar z) a h = tt
      cell_fine (TPrim q us is) a h = tt
      cell_fine (TFn i t) a h = tt
      cell_fine (TTypeFn n t) a h = tt
      cell_fine (TIndexFn ss t) a h = tt

      cells_fine : (xs : Cells typed) (a : Ty) → CellsHave (defs_only D) xs a → Fine (λ ys. CellsHave (defs_only D) ys a × (cell_count ys ≡ cell_count xs)) ⊤ (cells_step typed_rules defs xs)
      cells_fine no_cells a h = tt
      cells_fine (more_cells x xs) a h =
          first_fine (λ y. HasCell (defs_only D) y a) ⊤ (λ ys. CellsHave (defs_only D) ys a × (cell_count ys ≡ suc (cell_count xs))) ⊤ (cell_step typed_rules defs x) (λ y. more_cells y xs) (first_move (cells_step typed_rules defs xs) (more_cells x) Rests)
          (cell_fine x a h.0) (λ y hy. ((hy, h.1), refl))
          (λ v.
          first_fine (λ ys. CellsHave (defs_only D) ys a × (cell_count ys ≡ cell_count xs)) ⊤ (λ ys. CellsHave (defs_only D) ys a × (cell_count ys ≡ suc (cell_count xs))) ⊤ (cells_step typed_rules defs xs) (more_cells x) Rests
          (cells_fine xs a h.1) (λ ys g. ((h.0, g.0), ap suc g.1)) (λ v. tt))
