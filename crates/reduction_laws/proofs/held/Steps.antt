-- A step of a closed typed term that is held goes on to a held term.
use Rattle.std.proofs.Common.{◌≡◌, refl, ℕ, zero, suc, List, [], ◌∷◌, ◌++◌, Option, Some, None}
use Rattle.std.specs.Prelude.{slice_get, ⊤}
use Rattle.core_syntax.specs.declared.errors.TrapKind.TheVariants as trap
use Rattle.core_syntax.specs.Syntax.{Index, Ty, Fun, Forall, Pi, Sigma, Arr, Tys, no_tys, more_tys, no_span}
use Rattle.core_syntax.specs.Lists.{each, Each}
use Rattle.core_syntax.specs.Fits.{forms, all_fit}
use Rattle.core_syntax.specs.Value.{then_shape}
use Rattle.core_syntax.specs.Nodes.{vector}
use Rattle.core_syntax.specs.Subst.{with_indices}
use Rattle.core_syntax.specs.Prims.{array_of}
use Rattle.core_syntax.specs.Typing.{OnArr, IsPrincipal, defs_only}
use Rattle.core_syntax.specs.Terms.{TVar, TDef, TArray, TNoAtoms, TFrame, TNoCells, TApp, TTypeApp, TIndexApp, TUnbox, Terms, no_terms, more_terms, Cell, TBoxed, Cells, no_cells, more_cells, term_items}
use Rattle.core_syntax.specs.Move.{Move, Rests, Trapped, Goes, Lost, first_move, if_there}
use Rattle.core_syntax.specs.Rules.{dims_of, apply, collapse, if_room, over_value, type_beta, index_beta, unbox_one, box_rests}
use Rattle.core_syntax.specs.Step.{step, terms_step, cell_step, cells_step}
use Rattle.core_syntax.specs.Typed.{typed, typed_rules, TypedTerm, closed_value}
use Rattle.core_syntax.specs.TermTyping.{HasClosed, TermsHave, TermArgsHave, HasCell, CellsHave}
use Rattle.core_syntax.specs.Held.{HeldAt, TermsHeld, ArgumentsHeld, CellHeld, CellsHeld, IsHeld}
use Rattle.reduction_laws.proofs.held.Puts.{held_anywhere}
use Rattle.reduction_laws.proofs.held.Moves.{Kept, first_kept, kept_either, terms_each, empty_kept, collapse_held, over_kept, type_beta_kept, index_beta_kept, unbox_kept}
use Rattle.reduction_laws.proofs.held.Apply.{apply_kept}
use Rattle.reduction_laws.proofs.putting.TermSubst.{term_same}
use Rattle.reduction_laws.proofs.steps.Parts.{IsArr, type_formed}
use Rattle.reduction_laws.proofs.programs.Printed.{first_rests}
use Rattle.core_syntax.proofs.Equality.{same_refl}

kept_at : (o : Option Index) (m : Move TypedTerm) → Kept IsHeld m → Kept (HeldAt o) m
kept_at o Rests h = tt
kept_at o (Trapped k) h = tt
kept_at o (Goes t) h = held_anywhere o t h
kept_at o Lost h = tt

unfold_kept : (defs : List TypedTerm) (k : ℕ) → Each IsHeld defs → Kept IsHeld (if_there (slice_get defs k) (λ t. Goes t))
unfold_kept [] k h = tt
unfold_kept (d ∷ defs) zero h = h.0
unfold_kept (d ∷ defs) (suc k) h = unfold_kept defs k h.1

-- an array type
abbrev IsArrTy : Ty → Type 0
IsArrTy (Arr at a c) = ⊤
IsArrTy _ = ⊥

on_arr : (r : Ty) (P : Ty → Index → Type 0) → OnArr r P → IsArrTy r
on_arr (Arr at a c) P h = tt
on_arr _ P h = absurd h

module _ (D : List Ty) (defs : List TypedTerm) (arrays : (t : TypedTerm) (T : Ty) → HasClosed D t T → step typed_rules defs t ≡ Rests → IsArr t) (defs_held : Each IsHeld defs) where
  args_arrays : (es : Terms typed) (ws : Tys) (cs ps : List Index) → TermArgsHave (defs_only D) es ws cs ps → terms_step typed_rules defs es ≡ Rests → Each IsArr (term_items es)
  args_arrays no_terms ws cs ps h r = tt
  args_arrays (more_terms e es) (more_tys (Arr at a w) ws) (c ∷ cs) (p ∷ ps) h r =
      let f = first_rests (step typed_rules defs e) (λ u. more_terms u es) (first_move (terms_step typed_rules defs es) (more_terms e) Rests) r in
      (arrays e (array_of a (then_shape p w)) h.0.0 f.0, args_arrays es ws cs ps h.1 (first_rests (terms_step typed_rules defs es) (more_terms e) Rests f.1).0)
  args_arrays (more_terms e es) (more_tys _ ws) (c ∷ cs) (p ∷ ps) h r = absurd h.0
  args_arrays (more_terms e es) no_tys cs ps h r = absurd h
  args_arrays (more_terms e es) (more_tys u ws) [] ps h r = absurd h
  args_arrays (more_terms e es) (more_tys u ws) (c ∷ cs) [] h r = absurd h

  app_kept : (f : TypedTerm) (es : Terms typed) (us : Tys) (r : Ty) (s : Index) (cs ps : List Index) (p : Index) (note : Ty) → IsArr f → HasClosed D f (array_of (Fun no_span us r) s) → Each IsArr (term_items es)
      → TermArgsHave (defs_only D) es us cs ps → IsPrincipal (defs_only D) (s ∷ ps) p → IsArrTy r → HeldAt (Some (vector [])) f → ArgumentsHeld cs es → Kept IsHeld (apply typed_rules f (term_items es) cs note)
  app_kept f es us (Arr at b c) s cs ps p note vf hf ve he pr k kf ke =
      let w = type_formed (defs_only D) f (array_of (Fun no_span us (Arr at b c)) s) hf in
      apply_kept D f es us b c s cs ps p note vf
      (term_same (defs_only D) f (array_of (Fun no_span us (Arr at b c)) s) (array_of (Fun no_span us (Arr no_span b c)) s) hf (same_refl (array_of (Fun no_span us (Arr no_span b c)) s)) w)
      ve he pr kf ke
  app_kept f es us _ s cs ps p note vf hf ve he pr k kf ke = absurd k

  mutual
    -- a step keeps a term held at its place
    pub step_kept : (o : Option Index) (t : TypedTerm) (T : Ty) → HasClosed D t T → HeldAt o t → Kept (HeldAt o) (step typed_rules defs t)
    step_kept o (TVar k) T h g = tt
    step_kept o (TDef k) T h g = kept_at o (if_there (slice_get defs k) (λ t. Goes t)) (unfold_kept defs k defs_held)
    step_kept o (TArray dims no_cells) T h g = tt
    step_kept o (TArray dims (more_cells x xs)) T h g =
        first_kept CellsHeld (HeldAt o) (cells_step typed_rules defs (more_cells x xs)) (TArray dims) Rests (cells_kept (more_cells x xs) h.0 (h.1, h.2) g.1) (λ ys k. (g.0, k)) (λ r. tt)
    step_kept o (TNoAtoms dims a) T h g = tt
    step_kept o (TFrame dims no_terms note) T h g = tt
    step_kept o (TFrame dims (more_terms e es) note) T h g =
        first_kept IsHeld (HeldAt o) (step typed_rules defs e) (λ u. TFrame dims (more_terms u es) note)
        (if_room typed_rules (dims ++ dims_of typed_rules e) (first_move (terms_step typed_rules defs es) (λ us. TFrame dims (more_terms e us) note) (Goes (collapse typed_rules dims e (term_items es) note))))
        (step_kept None e (array_of h.0 h.1) h.2 g.0) (λ u k. (k, g.1))
        (λ r.
        kept_either (HeldAt o) (forms (dims ++ dims_of typed_rules e)) (first_move (terms_step typed_rules defs es) (λ us. TFrame dims (more_terms e us) note) (Goes (collapse typed_rules dims e (term_items es) note))) (Trapped trap.Size)
        (λ room.
        first_kept TermsHeld (HeldAt o) (terms_step typed_rules defs es) (λ us. TFrame dims (more_terms e us) note) (Goes (collapse typed_rules dims e (term_items es) note))
        (terms_kept es (array_of h.0 h.1) h.3 g.1) (λ us k. (g.0, k)) (λ r. held_anywhere o (collapse typed_rules dims e (term_items es) note) (collapse_held dims e (term_items es) note room g.0 (terms_each es g.1)))) (λ room. tt))
    step_kept o (TNoCells w) T h g = kept_at o (step typed_rules defs (TNoCells w)) (empty_kept (typed_rules.whole_dims w) (typed_rules.whole_atom w))
    step_kept o (TApp f es cs note) T h g =
        first_kept (HeldAt (Some (vector []))) (HeldAt o) (step typed_rules defs f) (λ u. TApp u es cs note) (first_move (terms_step typed_rules defs es) (λ us. TApp f us cs note) (apply typed_rules f (term_items es) cs note))
        (step_kept (Some (vector [])) f (array_of (Fun no_span h.0 h.1) h.2) h.3 g.0) (λ u k. (k, g.1))
        (λ rf.
        first_kept (ArgumentsHeld cs) (HeldAt o) (terms_step typed_rules defs es) (λ us. TApp f us cs note) (apply typed_rules f (term_items es) cs note)
        (args_kept es h.0 cs h.4.0 h.4.1 g.1) (λ us k. (g.0, k))
        (λ re.
        kept_at o (apply typed_rules f (term_items es) cs note)
        (app_kept f es h.0 h.1 h.2 cs h.4.0 h.4.3.0 note (arrays f (array_of (Fun no_span h.0 h.1) h.2) h.3 rf) h.3 (args_arrays es h.0 cs h.4.0 h.4.1 re) h.4.1 h.4.3.1 (on_arr h.1 _ h.4.3.2) g.0 g.1)))
    step_kept o (TTypeApp e us note) T h g =
        first_kept IsHeld (HeldAt o) (step typed_rules defs e) (λ u. TTypeApp u us note) (over_value typed_rules e (λ a. TTypeApp a us note) (type_beta typed_rules us) note)
        (step_kept None e (array_of (Forall no_span h.0 h.1) h.2) h.3 g) (λ u k. k)
        (λ r. kept_at o (over_value typed_rules e (λ a. TTypeApp a us note) (type_beta typed_rules us) note) (over_kept e (λ a. TTypeApp a us note) (type_beta typed_rules us) note g (λ x k. (refl, (k, tt))) (type_beta_kept us)))
    step_kept o (TIndexApp e is note) T h g =
        first_kept IsHeld (HeldAt o) (step typed_rules defs e) (λ u. TIndexApp u is note) (over_value typed_rules e (λ a. TIndexApp a is note) (index_beta typed_rules is) note)
        (step_kept None e (array_of (Pi no_span h.0 h.1) h.2) h.3 g) (λ u k. k)
        (λ r. kept_at o (over_value typed_rules e (λ a. TIndexApp a is note) (index_beta typed_rules is) note) (over_kept e (λ a. TIndexApp a is note) (index_beta typed_rules is) note g (λ x k. (refl, (k, tt))) (index_beta_kept is)))
    step_kept o (TUnbox ss e b note) T h g =
        first_kept IsHeld (HeldAt o) (step typed_rules defs e) (λ u. TUnbox ss u b note) (over_value typed_rules e (λ a. TUnbox ss a b note) (unbox_one typed_rules b) note)
        (step_kept None e (array_of (Sigma no_span ss h.0) h.1) h.2 g.0) (λ u k. (k, g.1))
        (λ r. kept_at o (over_value typed_rules e (λ a. TUnbox ss a b note) (unbox_one typed_rules b) note) (over_kept e (λ a. TUnbox ss a b note) (unbox_one typed_rules b) note g.0 (λ x k. ((refl, (k, tt)), g.1)) (unbox_kept b g.1)))

    terms_kept : (es : Terms typed) (T : Ty) → TermsHave (defs_only D) es T → TermsHeld es → Kept TermsHeld (terms_step typed_rules defs es)
    terms_kept no_terms T h g = tt
    terms_kept (more_terms e es) T h g =
        first_kept IsHeld TermsHeld (step typed_rules defs e) (λ u. more_terms u es) (first_move (terms_step typed_rules defs es) (more_terms e) Rests) (step_kept None e T h.0 g.0) (λ u k. (k, g.1))
        (λ r. first_kept TermsHeld TermsHeld (terms_step typed_rules defs es) (more_terms e) Rests (terms_kept es T h.1 g.1) (λ us k. (g.0, k)) (λ r. tt))

    args_kept : (es : Terms typed) (ws : Tys) (cs ps : List Index) → TermArgsHave (defs_only D) es ws cs ps → ArgumentsHeld cs es → Kept (ArgumentsHeld cs) (terms_step typed_rules defs es)
    args_kept no_terms ws cs ps h g = tt
    args_kept (more_terms e es) (more_tys (Arr at a w) ws) (c ∷ cs) (p ∷ ps) h g =
        first_kept (HeldAt (Some c)) (ArgumentsHeld (c ∷ cs)) (step typed_rules defs e) (λ u. more_terms u es) (first_move (terms_step typed_rules defs es) (more_terms e) Rests)
        (step_kept (Some c) e (array_of a (then_shape p w)) h.0.0 g.0) (λ u k. (k, g.1))
        (λ r. first_kept (ArgumentsHeld cs) (ArgumentsHeld (c ∷ cs)) (terms_step typed_rules defs es) (more_terms e) Rests (args_kept es ws cs ps h.1 g.1) (λ us k. (g.0, k)) (λ r. tt))
    args_kept (more_terms e es) (more_tys _ ws) (c ∷ cs) (p ∷ ps) h g = absurd h.0
    args_kept (more_terms e es) no_tys cs ps h g = absurd h
    args_kept (more_terms e es) (more_tys u ws) [] ps h g = absurd h
    args_kept (more_terms e es) (more_tys u ws) (c ∷ cs) [] h g = absurd h

    cell_kept : (x : Cell typed) (a : Ty) → HasCell (defs_only D) x a → CellHeld x → Kept CellHeld (cell_step typed_rules defs x)
    cell_kept (TBoxed is e (Sigma at ss b)) a h g =
        first_kept IsHeld CellHeld (step typed_rules defs e) (λ u. TBoxed is u (Sigma at ss b)) (box_rests typed_rules is) (step_kept None e (with_indices is b) h.1.1 g) (λ u k. k)
        (λ r. kept_either CellHeld (all_fit (each closed_value is)) Rests (Trapped trap.Size) (λ f. tt) (λ f. tt))
    cell_kept (TBoxed is e _) a h g = absurd h.1
    cell_kept _ a h g = tt

    cells_kept : (xs : Cells typed) (a : Ty) → CellsHave (defs_only D) xs a → CellsHeld xs → Kept CellsHeld (cells_step typed_rules defs xs)
    cells_kept no_cells a h g = tt
    cells_kept (more_cells x xs) a h g =
        first_kept CellHeld CellsHeld (cell_step typed_rules defs x) (λ y. more_cells y xs) (first_move (cells_step typed_rules defs xs) (more_cells x) Rests) (cell_kept x a h.0 g.0) (λ y k. (k, g.1))
        (λ r. first_kept CellsHeld CellsHeld (cells_step typed_rules defs xs) (more_cells x) Rests (cells_kept xs a h.1 g.1) (λ ys k. (g.0, k)) (λ r. tt))
