-- Runs of the forms that have no part to run: variables, literals and frames without cells; and arrays of atoms and frames of values.
use Rattle.std.proofs.Common.{◌≡◌, refl, sym, ap, subst, ◌∙◌, ℕ, zero, suc, arith, Bool, true, false, List, [], ◌∷◌, ◌++◌, length, Option, Some, None}
use Rattle.std.specs.Prelude.{◌==◌, ◌&&◌, not, slice_get}
use Rattle.std.proofs.lemmas.Bool.Decides.{nat_tests}
use Rattle.core_syntax.specs.declared.errors.TrapKind.TheVariants as trap
use Rattle.core_syntax.specs.declared.errors.StuckKind.TheVariants as stuck
use Rattle.core_syntax.specs.Syntax.{Ty}
use Rattle.core_syntax.specs.Lists.{each, Each, product, same_numbers}
use Rattle.core_syntax.specs.Word.{Word}
use Rattle.core_syntax.specs.Fits.{forms}
use Rattle.core_syntax.specs.Subst.{put_first, in_place}
use Rattle.core_syntax.specs.Arrays.{Arrayed, array, single}
use Rattle.core_syntax.specs.Terms.{TVar, TArray, TNoAtoms, TFrame, TNoCells, more_terms, term_list, Cell, TInt, TBool, TChar, TPrim, TFn, TTypeFn, TIndexFn, TBoxed, Cells, no_cells, more_cells, cell_list}
use Rattle.core_syntax.specs.TermPut.{cells_put}
use Rattle.core_syntax.specs.Move.{Move, Trapped, Goes}
use Rattle.core_syntax.specs.NormPut.{put_in_word}
use Rattle.erasure.specs.Erased.{erased, ErasedTerm, erased_rules}
use Rattle.machine_table.specs.Values as values
use Rattle.machine_table.specs.Values.{Env, IntAtom, BoolAtom, CharAtom, Atom}
use Rattle.machine_table.specs.Indices.{shape_under}
use Rattle.machine_table.specs.Instructions.{Begun, Fails, Halts, Pushes, unless, empty_of, empty_begun, all_have_dims}
use Rattle.lowering.specs.Lower.{all_base}
use Rattle.lowering.specs.Runs.{Comp, ◌then_run◌, give, count, found, lost}
use Rattle.lowering.specs.Evals.{base_atoms, base_val, array_val, full_val, frame_val, begun_val}
use Rattle.evaluation.specs.Plugged.{val_term, atom_cell, env_terms, plugged}
use Rattle.evaluation.specs.Scoped.{with_values, WordScoped}
use Rattle.evaluation.specs.Lawful.{FitEnv, IsClosed, FitArray}
use Rattle.evaluation.specs.Setting.{Setting}
use Rattle.evaluation.proofs.steps.Reduces.{reduces_give, reduces_push, reduces_tick, reduces_trap, reduces_then}
use Rattle.evaluation.proofs.steps.Contexts.{one}
use Rattle.evaluation.proofs.steps.Rests.{dims_are, cells_back, items_back}
use Rattle.evaluation.proofs.environments.Entered.{length_each}
use Rattle.evaluation.proofs.environments.Indices.{words_ok}
use Rattle.evaluation.proofs.forms.Comes.{val, vals, Fit, Runs}
use Rattle.evaluation.proofs.steps.Collapsed.{value_rests, collapse_goes, collapse_fits}

-- the same numbers, by the test
pub numbers_same : (xs ys : List ℕ) → xs ≡ ys → same_numbers xs ys ≡ true
numbers_same xs ys e = subst (λ ys. same_numbers xs ys ≡ true) e (alike xs)
  where
    alike : (xs : List ℕ) → same_numbers xs xs ≡ true
    alike [] = refl
    alike (x ∷ xs) = let h = alike xs in let n : (x == x) ≡ true = grind (arith, nat_tests) in ap (λ b. b && same_numbers xs xs) n ∙ h

pub same_count : (m n : ℕ) → m ≡ n → (m == n) ≡ true
same_count m n e = grind (arith, nat_tests)

module _ {A : Type 0} (W : Setting A) (enter : Env A → ℕ → Comp (Arrayed A)) (K : ℕ) where
  -- ---- variables

  var_is : (xs : List (Arrayed A)) (j : ℕ) (a : Arrayed A) → slice_get xs j ≡ Some a → Each (λ a. Fit W a × IsClosed (val W a)) xs → (in_place TVar (put_first (vals W xs) j) ≡ val W a) × Fit W a
  var_is [] j a e h = absurd (cc)
  var_is (x ∷ xs) zero a e h = let same : x ≡ a = cc in (ap (val_term W.cell) same, subst (FitArray W.bodies W.cell W.fits) same h.0.0)
  var_is (x ∷ xs) (suc j) a e h = var_is xs j a e h.1

  no_var : (xs : List (Arrayed A)) (j : ℕ) → slice_get xs j ≡ None → (k : ℕ) × (in_place TVar (put_first (vals W xs) j) ≡ TVar k)
  no_var [] j e = (j, refl)
  no_var (x ∷ xs) zero e = absurd (cc)
  no_var (x ∷ xs) (suc j) e = no_var xs j e

  pub runs_var : (T : Ty) (env : Env A) (j : ℕ) → FitEnv W.bodies W.cell W.fits env → W.good T (plugged W.cell env (TVar j)) → Runs W K (plugged W.cell env (TVar j)) (found (slice_get env.arrays j) then_run (λ a. count 1 (give a)))
  runs_var T env j h good = by (slice_get env.arrays j) refl
    where
      by : (o : Option (Arrayed A)) → slice_get env.arrays j ≡ o → Runs W K (plugged W.cell env (TVar j)) (found o then_run (λ a. count 1 (give a)))
      by None e = let n = no_var env.arrays j e in absurd (W.typing.no_var T n.0 (subst (W.good T) n.1 good))
      by (Some a) e =
          let at = var_is env.arrays j a e h in
          reduces_then (one W.defs) (reduces_give (one W.defs) (plugged W.cell env (TVar j)) (val_term W.cell) (FitArray W.bodies W.cell W.fits) a at.0 at.1)
          (λ b fit. reduces_push (one W.defs) (val W b) (val_term W.cell) (FitArray W.bodies W.cell W.fits) b refl fit)

  -- ---- a frame without cells

  pub runs_empty : (T : Ty) (env : Env A) (w : Word) → WordScoped (with_values env.indices) w → W.good T (TNoCells (put_in_word (put_first env.indices) w))
      → Runs W K (TNoCells (put_in_word (put_first env.indices) w)) (begun_val W.rules enter (empty_begun env.indices w))
  runs_empty T env w scoped good =
      subst (λ o. Runs W K (TNoCells (put_in_word (put_first env.indices) w)) (begun_val W.rules enter (unless o (empty_of (shape_under env.indices w))))) (sym (words_ok env.indices (w ∷ []) (scoped, tt)))
      (by (forms (shape_under env.indices w)) refl (product (shape_under env.indices w) == 0) (same_count (product (shape_under env.indices w)) 0 (W.typing.no_cells_none T (put_in_word (put_first env.indices) w) good)))
    where
      t : ErasedTerm
      t = TNoCells (put_in_word (put_first env.indices) w)

      dims : List ℕ
      dims = shape_under env.indices w

      by : (b : Bool) → forms (shape_under env.indices w) ≡ b → (c : Bool) → c ≡ true
          → Runs W K (TNoCells (put_in_word (put_first env.indices) w)) (begun_val W.rules enter (elim (b && not c) as (λ b. Begun A) [
            | true ↦ Fails stuck.Shape
            | false ↦ elim b as (λ b. Begun A) [ true ↦ Pushes (array (shape_under env.indices w) []) | false ↦ Halts trap.Size ]
          ]))
      by b e false f = absurd (cc)
      by true e true f =
          reduces_tick (one W.defs) (ap (λ b. elim b as (λ b. Move ErasedTerm) [ true ↦ Goes (TNoAtoms (shape_under env.indices w) tt) | false ↦ Trapped trap.Size ]) e)
          (reduces_push (one W.defs) (TNoAtoms (shape_under env.indices w) tt) (val_term W.cell) (FitArray W.bodies W.cell W.fits) (array (shape_under env.indices w) []) refl (e, tt))
      by false e true f = reduces_trap (one W.defs) (val_term W.cell) (FitArray W.bodies W.cell W.fits) trap.Size (ap (λ b. elim b as (λ b. Move ErasedTerm) [ true ↦ Goes (TNoAtoms (shape_under env.indices w) tt) | false ↦ Trapped trap.Size ]) e)

  -- ---- array literals

  -- an atom that is made, as an atom of a term
  pub made_is : (x : Atom A) → W.cell (W.rules.made x) ≡ atom_cell W.cell W.bodies x
  made_is x = W.reads.cells (W.rules.made x) ∙ ap (atom_cell W.cell W.bodies) (W.reads.made x)

  pub base_is : (env : Env A) (xs : Cells erased) → all_base xs ≡ true
      → (cells_put erased_rules (put_first env.indices) (env_terms W.cell env) xs ≡ cell_list (each W.cell (base_atoms W.rules xs))) × Each W.fits (base_atoms W.rules xs)
  base_is env no_cells e = (refl, tt)
  base_is env (more_cells (TInt z) xs) e = let h = base_is env xs e in ((λ i. more_cells (sym (made_is (IntAtom z)) i) (h.0 i)), (W.reads.fit_made (IntAtom z) tt, h.1))
  base_is env (more_cells (TBool b) xs) e = let h = base_is env xs e in ((λ i. more_cells (sym (made_is (BoolAtom b)) i) (h.0 i)), (W.reads.fit_made (BoolAtom b) tt, h.1))
  base_is env (more_cells (TChar c) xs) e = let h = base_is env xs e in ((λ i. more_cells (sym (made_is (CharAtom c)) i) (h.0 i)), (W.reads.fit_made (CharAtom c) tt, h.1))
  base_is env (more_cells (TPrim p us is) xs) e = absurd (cc)
  base_is env (more_cells (TFn n t) xs) e = absurd (cc)
  base_is env (more_cells (TTypeFn n t) xs) e = absurd (cc)
  base_is env (more_cells (TIndexFn n t) xs) e = absurd (cc)
  base_is env (more_cells (TBoxed is t b) xs) e = absurd (cc)

  -- a list of atoms that are there
  literal_is : (dims : List ℕ) (xs : List A) → (xs ≡ [] → ⊥) → TArray dims (cell_list (each W.cell xs)) ≡ val W (array dims xs)
  literal_is dims [] more = absurd (more refl)
  literal_is dims (x ∷ xs) more = refl

  base_more : (a : Cell erased) (xs : Cells erased) → all_base (more_cells a xs) ≡ true → base_atoms W.rules (more_cells a xs) ≡ [] → ⊥
  base_more (TInt z) xs e f = absurd (cc)
  base_more (TBool b) xs e f = absurd (cc)
  base_more (TChar c) xs e f = absurd (cc)
  base_more (TPrim p us is) xs e f = absurd (cc)
  base_more (TFn n t) xs e f = absurd (cc)
  base_more (TTypeFn n t) xs e f = absurd (cc)
  base_more (TIndexFn n t) xs e f = absurd (cc)
  base_more (TBoxed is t b) xs e f = absurd (cc)

  -- an array of base literals
  pub runs_base : (env : Env A) (dims : List ℕ) (a : Cell erased) (xs : Cells erased) → forms dims ≡ true → all_base (more_cells a xs) ≡ true
      → Runs W K (TArray dims (cells_put erased_rules (put_first env.indices) (env_terms W.cell env) (more_cells a xs))) (base_val W.rules dims (more_cells a xs))
  runs_base env dims a xs room e =
      let h = base_is env (more_cells a xs) e in
      reduces_push (one W.defs) (TArray dims (cells_put erased_rules (put_first env.indices) (env_terms W.cell env) (more_cells a xs))) (val_term W.cell) (FitArray W.bodies W.cell W.fits)
      (array dims (base_atoms W.rules (more_cells a xs))) (ap (TArray dims) h.0 ∙ literal_is dims (base_atoms W.rules (more_cells a xs)) (base_more a xs e)) (room, h.1)

  -- an array of atoms behind each other
  pub runs_array : (T : Ty) (dims : List ℕ) (a : Cell erased) (as' : Cells erased) (x : A) (xs : List A) → forms dims ≡ true → Each W.fits (x ∷ xs) → W.good T (TArray dims (cell_list (each W.cell (x ∷ xs))))
      → Runs W K (TArray dims (cell_list (each W.cell (x ∷ xs)))) (array_val dims (more_cells a as') (x ∷ xs))
  runs_array T dims a as' x xs room fit good = by dims as' xs room fit (count_is T dims (x ∷ xs) good)
    where
      count_is : (T : Ty) (dims : List ℕ) (xs : List A) → W.good T (TArray dims (cell_list (each W.cell xs))) → product dims ≡ length xs
      count_is T dims xs good = sym (W.typing.array_full T dims (cell_list (each W.cell xs)) good) ∙ ap length (cells_back (each W.cell xs)) ∙ length_each W.cell xs

      full : (dims : List ℕ) (x : A) (xs : List A) → forms dims ≡ true → Each W.fits (x ∷ xs) → product dims ≡ length (x ∷ xs) → Runs W K (TArray dims (cell_list (each W.cell (x ∷ xs)))) (full_val dims (x ∷ xs))
      full dims x xs room fit e =
          subst (λ b. Runs W K (TArray dims (cell_list (each W.cell (x ∷ xs)))) (elim b as (λ b. Comp (Arrayed A)) [ true ↦ count 1 (give (array dims (x ∷ xs))) | false ↦ lost ])) (sym (same_count (product dims) (length (x ∷ xs)) e))
          (reduces_push (one W.defs) (TArray dims (cell_list (each W.cell (x ∷ xs)))) (val_term W.cell) (FitArray W.bodies W.cell W.fits) (array dims (x ∷ xs)) refl (room, fit))

      by : (dims : List ℕ) (as' : Cells erased) (xs : List A) → forms dims ≡ true → Each W.fits (x ∷ xs) → product dims ≡ length (x ∷ xs)
          → Runs W K (TArray dims (cell_list (each W.cell (x ∷ xs)))) (array_val dims (more_cells a as') (x ∷ xs))
      by [] no_cells [] room fit e = reduces_give (one W.defs) (TArray [] (cell_list (each W.cell (x ∷ [])))) (val_term W.cell) (FitArray W.bodies W.cell W.fits) (single x) refl (room, fit)
      by [] no_cells (y ∷ xs) room fit e = absurd (omega arith)
      by [] (more_cells b as') xs room fit e = full [] x xs room fit e
      by (n ∷ dims) as' xs room fit e = full (n ∷ dims) x xs room fit e

  -- ---- a frame of values

  same_dims : (T : Ty) (a : Arrayed A) (xs : List (Arrayed A)) → Fit W a → Each (Fit W) xs → W.good T (val W a) → Each (W.good T) (vals W xs) → all_have_dims a.dims xs ≡ true
  same_dims T a [] h hs g gs = refl
  same_dims T a (x ∷ xs) h hs g gs =
      let there : a.dims ≡ x.dims =
      sym (dims_are a.dims (each W.cell a.atoms)) ∙ W.typing.value_dims T (val W a) g (value_rests W a h)
      ∙ sym (W.typing.value_dims T (val W x) gs.0 (value_rests W x hs.0)) ∙ dims_are x.dims (each W.cell x.atoms) in
      ap (λ b. b && all_have_dims a.dims xs) (numbers_same a.dims x.dims there) ∙ same_dims T a xs h hs.1 g gs.1

  pub runs_frame : (T : Ty) (dims : List ℕ) (a : Arrayed A) (xs : List (Arrayed A)) → Fit W a → Each (Fit W) xs → forms (dims ++ a.dims) ≡ true
      → W.good T (TFrame dims (more_terms (val W a) (term_list (vals W xs))) tt)
      → Runs W K (TFrame dims (more_terms (val W a) (term_list (vals W xs))) tt) (frame_val W.rules enter dims (a ∷ xs))
  runs_frame T dims a xs h hs room good =
      let parts = W.typing.cells T dims (more_terms (val W a) (term_list (vals W xs))) good in
      let full = W.typing.frame_full T dims (more_terms (val W a) (term_list (vals W xs))) good in
      let items = items_back (vals W xs) in
      let count : product dims ≡ length (a ∷ xs) = sym full ∙ ap (λ ts. suc (length ts)) items ∙ ap suc (length_each (val_term W.cell) xs) in
      by (product dims == length (a ∷ xs)) (all_have_dims a.dims xs) (forms (dims ++ a.dims)) (same_count (product dims) (length (a ∷ xs)) count)
      (same_dims parts.0 a xs h hs parts.1.0 (subst (Each (W.good parts.0)) items parts.1.1)) room
    where
      by : (p q r : Bool) → p ≡ true → q ≡ true → r ≡ true
          → Runs W K (TFrame dims (more_terms (val W a) (term_list (vals W xs))) tt)
          (elim p as (λ b. Comp (Arrayed A)) [
            | true ↦ begun_val W.rules enter (elim q as (λ b. Begun A) [ false ↦ Fails stuck.Shape | true ↦ elim r as (λ c. Begun A) [ true ↦ Pushes (values.collapse dims a xs) | false ↦ Halts trap.Size ] ])
            | false ↦ lost
          ])
      by false q r e f g = absurd (cc)
      by true false r e f g = absurd (cc)
      by true true false e f g = absurd (cc)
      by true true true e f g =
          reduces_tick (one W.defs) (collapse_goes W dims a xs h hs room)
          (reduces_push (one W.defs) (val W (values.collapse dims a xs)) (val_term W.cell) (FitArray W.bodies W.cell W.fits) (values.collapse dims a xs) refl (collapse_fits W dims a xs h hs room))
