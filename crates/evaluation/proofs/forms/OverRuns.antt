-- A `t-app`, an `i-app` or an `unbox` of a value over its frame is the reduction of the whole, from what it does at one atom.
use Rattle.std.proofs.Common.{◌≡◌, refl, sym, ap, subst, ◌∙◌, ℕ, suc, arith, Bool, true, false, List, [], ◌∷◌, ◌++◌, length}
use Rattle.std.specs.Prelude.{◌==◌}
use Rattle.std.proofs.lemmas.Bool.Decides.{nat_tests}
use Rattle.core_syntax.specs.declared.errors.TrapKind.TheVariants as trap
use Rattle.core_syntax.specs.Syntax.{Ty}
use Rattle.core_syntax.specs.Lists.{each, product, Each}
use Rattle.core_syntax.specs.Word.{Word}
use Rattle.core_syntax.specs.Fits.{forms}
use Rattle.core_syntax.specs.Subst.{put_first}
use Rattle.core_syntax.specs.Arrays.{Arrayed, array}
use Rattle.core_syntax.specs.Terms.{TNoAtoms, TFrame, term_list, Cell, scalar_of}
use Rattle.core_syntax.specs.Move.{Move, Trapped, Goes}
use Rattle.core_syntax.specs.Rules.{goes_empty, over_atoms, over_value}
use Rattle.core_syntax.specs.NormPut.{put_in_word}
use Rattle.erasure.specs.Erased.{erased, ErasedTerm, erased_rules}
use Rattle.machine_table.specs.Values.{Env}
use Rattle.machine_table.specs.Indices.{shape_under}
use Rattle.machine_table.specs.Begins.{Place, place_entry}
use Rattle.machine_table.specs.Instructions.{Begun, Halts, Pushes, Maps, unless, formed, no_cell, over_begun}
use Rattle.lowering.specs.Runs.{Comp, ticks, tick}
use Rattle.lowering.specs.Evals.{over_ticks, begun_val}
use Rattle.evaluation.specs.Plugged.{val_term}
use Rattle.evaluation.specs.Lawful.{FitArray}
use Rattle.evaluation.specs.Typing.{SomeType}
use Rattle.evaluation.specs.Setting.{Setting}
use Rattle.evaluation.proofs.steps.Reduces.{reduces_push, reduces_tick, reduces_trap}
use Rattle.evaluation.proofs.steps.Contexts.{one}
use Rattle.evaluation.proofs.steps.Rests.{dims_are, atoms_are, items_back}
use Rattle.evaluation.proofs.environments.Entered.{length_each}
use Rattle.evaluation.proofs.environments.Indices.{words_ok}
use Rattle.evaluation.proofs.forms.Comes.{val, Fit, Runs, WordIn}
use Rattle.evaluation.proofs.steps.Collapsed.{value_rests}
use Rattle.evaluation.proofs.forms.MapRuns.{StepsAs, SomeIn, PlacesStep, map_comes, scalar_comes}

module _ {A : Type 0} (W : Setting A) (enter : Env A → ℕ → Comp (Arrayed A)) (K : ℕ) where
  -- a value of a typed term has as many atoms as its dims say
  pub array_full : (a : Arrayed A) → Fit W a → SomeType W.good (val W a) → length a.atoms ≡ product a.dims
  array_full a h g =
      sym (length_each W.cell a.atoms) ∙ ap length (sym (atoms_are a.dims (each W.cell a.atoms))) ∙ W.typing.value_full g.0 (val W a) g.1 (value_rests W a h) ∙ ap product (dims_are a.dims (each W.cell a.atoms))

  -- the empty array over a frame without cells
  pub no_cell_comes : (env : Env A) (F : List ℕ) (r : Word) (t : ErasedTerm) → WordIn W env r → one W.defs t ≡ goes_empty erased_rules (F ++ shape_under env.indices r) tt
      → Runs W K t (begun_val W.rules enter (no_cell env.indices F r))
  no_cell_comes env F r t scoped e =
      subst (λ o. Runs W K t (begun_val W.rules enter (unless o (formed (F ++ shape_under env.indices r) [])))) (sym (words_ok env.indices (r ∷ []) (scoped, tt))) (room (forms (F ++ shape_under env.indices r)) refl e)
    where
      room : (b : Bool) → forms (F ++ shape_under env.indices r) ≡ b → one W.defs t ≡ elim b as (λ b. Move ErasedTerm) [ true ↦ Goes (TNoAtoms (F ++ shape_under env.indices r) tt) | false ↦ Trapped trap.Size ]
          → Runs W K t (begun_val W.rules enter (elim b as (λ b. Begun A) [ true ↦ Pushes (array (F ++ shape_under env.indices r) []) | false ↦ Halts trap.Size ]))
      room true f e = reduces_tick (one W.defs) e (reduces_push (one W.defs) (TNoAtoms (F ++ shape_under env.indices r) tt) (val_term W.cell) (FitArray W.bodies W.cell W.fits) (array (F ++ shape_under env.indices r) []) refl (f, tt))
      room false f e = reduces_trap (one W.defs) (val_term W.cell) (FitArray W.bodies W.cell W.fits) trap.Size e

  two_atoms : {B : Type 0} (xs : List B) → suc (suc (length xs)) ≡ 1 → ⊥
  two_atoms xs e = omega arith

  module _ (env : Env A) (r : Word) (scoped : WordIn W env r) (form : ErasedTerm → ErasedTerm) (act : List (Cell erased) → Move ErasedTerm) (place : A → Place A) (later : List ℕ → List A → Begun A) where
    -- the step of the form on a value that has a cell or none
    over_step : (n : ℕ) (F : List ℕ) (xs : List A) → one W.defs (form (val W (array (n ∷ F) xs))) ≡ over_value erased_rules (val W (array (n ∷ F) xs)) form act (put_in_word (put_first env.indices) r)
        → one W.defs (form (val W (array (n ∷ F) xs)))
        ≡ elim (product (n ∷ F) == 0) as (λ b. Move ErasedTerm) [
          | true ↦ goes_empty erased_rules ((n ∷ F) ++ shape_under env.indices r) tt
          | false ↦ Goes (TFrame (n ∷ F) (term_list (each (λ a. form (scalar_of a)) (each W.cell xs))) tt)
        ]
    over_step n F xs whole =
        whole
        ∙ (λ i. elim (product (dims_are (n ∷ F) (each W.cell xs) i) == 0) as (λ b. Move ErasedTerm) [
          | true ↦ goes_empty erased_rules (dims_are (n ∷ F) (each W.cell xs) i ++ shape_under env.indices r) tt
          | false ↦ over_atoms erased_rules (dims_are (n ∷ F) (each W.cell xs) i) (atoms_are (n ∷ F) (each W.cell xs) i) form act (put_in_word (put_first env.indices) r)
        ])

    -- over a value with a frame: what is left is where it has cells
    pub over_frame : (T : Ty) (n : ℕ) (F : List ℕ) (xs : List A) → W.good T (form (val W (array (n ∷ F) xs)))
        → one W.defs (form (val W (array (n ∷ F) xs))) ≡ over_value erased_rules (val W (array (n ∷ F) xs)) form act (put_in_word (put_first env.indices) r)
        → ((product (n ∷ F) ≡ 0 → ⊥) → W.good T (TFrame (n ∷ F) (term_list (each (λ a. form (scalar_of a)) (each W.cell xs))) tt) → one W.defs (form (val W (array (n ∷ F) xs))) ≡ Goes (TFrame (n ∷ F) (term_list (each (λ a. form (scalar_of a)) (each W.cell xs))) tt)
        → Runs W K (form (val W (array (n ∷ F) xs))) (tick (begun_val W.rules enter (later (n ∷ F) xs))))
        → Runs W K (form (val W (array (n ∷ F) xs))) (ticks (over_ticks (array (n ∷ F) xs)) (begun_val W.rules enter (over_begun env.indices (array (n ∷ F) xs) r (later (n ∷ F) xs))))
    over_frame T n F xs g whole more = by (product (n ∷ F) == 0) refl (over_step n F xs whole)
      where
        by : (b : Bool) → (product (n ∷ F) == 0) ≡ b
            → one W.defs (form (val W (array (n ∷ F) xs)))
            ≡ elim b as (λ b. Move ErasedTerm) [
              | true ↦ goes_empty erased_rules ((n ∷ F) ++ shape_under env.indices r) tt
              | false ↦ Goes (TFrame (n ∷ F) (term_list (each (λ a. form (scalar_of a)) (each W.cell xs))) tt)
            ]
            → Runs W K (form (val W (array (n ∷ F) xs)))
            (ticks (elim b as (λ b. ℕ) [ true ↦ 0 | false ↦ 1 ]) (begun_val W.rules enter (elim b as (λ b. Begun A) [ true ↦ no_cell env.indices (n ∷ F) r | false ↦ later (n ∷ F) xs ])))
        by true z e = no_cell_comes env (n ∷ F) r (form (val W (array (n ∷ F) xs))) scoped e
        by false z e = more (λ p. let one_is : (product (n ∷ F) == 0) ≡ true = grind (arith, nat_tests) in absurd (cc)) (W.typing.keeps T (form (val W (array (n ∷ F) xs))) (TFrame (n ∷ F) (term_list (each (λ a. form (scalar_of a)) (each W.cell xs))) tt) g e) e

  module _ (env : Env A) (r : Word) (scoped : WordIn W env r) (form : ErasedTerm → ErasedTerm) (act : List (Cell erased) → Move ErasedTerm) (place : A → Place A)
      (steps : (U : Ty) (x : A) → W.fits x → W.good U (form (scalar_of (W.cell x))) → StepsAs W enter K U (form (scalar_of (W.cell x))) (place_entry W.rules (place x))) where
    places_step : (U : Ty) (xs : List A) → Each W.fits xs → Each (W.good U) (each (λ a. form (scalar_of a)) (each W.cell xs)) → PlacesStep W enter K U (each place xs) (term_list (each (λ a. form (scalar_of a)) (each W.cell xs)))
    places_step U [] h g = tt
    places_step U (x ∷ xs) h g = ((g.0, steps U x h.0 g.0), places_step U xs h.1 g.1)

    some_place : (xs : List A) → (length xs ≡ 0 → ⊥) → SomeIn W enter K (let none : List ℕ = [] in none) (each place xs)
    some_place [] h = h refl
    some_place (x ∷ xs) h = tt

    pub over_comes : (T : Ty) (a : Arrayed A) → Fit W a → SomeType W.good (val W a) → W.good T (form (val W a)) → one W.defs (form (val W a)) ≡ over_value erased_rules (val W a) form act (put_in_word (put_first env.indices) r)
        → Runs W K (form (val W a)) (ticks (over_ticks a) (begun_val W.rules enter (over_begun env.indices a r (Maps a.dims (each place a.atoms)))))
    over_comes T a h has g whole = by a.dims a.atoms h.1 (array_full a h has) g whole
      where
        by : (dims : List ℕ) (xs : List A) → Each W.fits xs → length xs ≡ product dims → W.good T (form (val W (array dims xs))) → one W.defs (form (val W (array dims xs))) ≡ over_value erased_rules (val W (array dims xs)) form act (put_in_word (put_first env.indices) r)
            → Runs W K (form (val W (array dims xs))) (ticks (over_ticks (array dims xs)) (begun_val W.rules enter (over_begun env.indices (array dims xs) r (Maps dims (each place xs)))))
        by [] [] h full g whole = absurd (let e : 0 ≡ 1 = full in omega arith)
        by [] (x ∷ []) h full g whole = scalar_comes W enter K T (form (scalar_of (W.cell x))) (place x) g (steps T x h.0 g)
        by [] (x ∷ y ∷ xs) h full g whole = absurd (two_atoms xs full)
        by (n ∷ F) xs h full g whole =
            over_frame env r scoped form act place (λ dims xs. Maps dims (each place xs)) T n F xs g whole
            (λ some gf e. let parts = W.typing.cells T (n ∷ F) (term_list (each (λ a. form (scalar_of a)) (each W.cell xs))) gf in
            map_comes W enter K parts.0 n F (form (val W (array (n ∷ F) xs))) (each place xs) (term_list (each (λ a. form (scalar_of a)) (each W.cell xs))) (some_place xs (λ z. some (sym full ∙ z))) e
            (places_step parts.0 xs h (subst (Each (W.good parts.0)) (items_back (each (λ a. form (scalar_of a)) (each W.cell xs))) parts.1)))
