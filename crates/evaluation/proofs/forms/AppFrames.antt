-- The rule of an application of values, by its frames.
use Rattle.std.proofs.Common.{◌≡◌, refl, sym, ap, subst, ◌∙◌, ℕ, ◌^◌, Bool, true, false, List, [], ◌∷◌, ◌++◌, length, Option, Some, None, append-nil}
use Rattle.std.specs.Prelude.{◌==◌, nat_lt}
use Rattle.core_syntax.specs.declared.errors.TrapKind.TheVariants as trap
use Rattle.core_syntax.specs.declared.errors.StuckKind.TheVariants as stuck
use Rattle.core_syntax.specs.Syntax.{Ty}
use Rattle.core_syntax.specs.Lists.{each, Each, product}
use Rattle.core_syntax.specs.Word.{Word}
use Rattle.core_syntax.specs.Arrays.{Arrayed, frame_before, greatest, all_frames_are, columns}
use Rattle.core_syntax.specs.Terms.{TFrame, TApp, term_list}
use Rattle.core_syntax.specs.Move.{Move, Trapped, Goes, if_there}
use Rattle.core_syntax.specs.Rules as rules
use Rattle.core_syntax.specs.Rules.{dims_of, lifted, all_lifted, all_cells, apps, and_list, apply, apply_at, apply_over, goes_empty}
use Rattle.core_syntax.specs.NormPut.{word_value}
use Rattle.erasure.specs.Erased.{ErasedTerm, erased_rules}
use Rattle.machine_table.specs.Values.{Env, frames_of, spread, all_cells_at}
use Rattle.machine_table.specs.Indices.{shape_under}
use Rattle.machine_table.specs.Instructions.{Begun, Fails, Halts, Maps, unless, no_cell, places, app_over, app_greatest, app_framed, app_ranked, app_begun}
use Rattle.lowering.specs.Runs.{Comp, tick, ticks, count, lost}
use Rattle.lowering.specs.Evals.{lift_ticks, app_ticks_over, app_ticks_of, app_ticks, app_val, begun_val, places_val}
use Rattle.evaluation.specs.Plugged.{val_term}
use Rattle.evaluation.specs.Lawful.{FitArray}
use Rattle.evaluation.specs.Typing.{SomeType}
use Rattle.evaluation.specs.Setting.{Setting}
use Rattle.evaluation.proofs.steps.Reduces.{reduces_tick, reduces_trap}
use Rattle.evaluation.proofs.steps.Contexts.{one}
use Rattle.evaluation.proofs.steps.Rests.{dims_are, items_back}
use Rattle.evaluation.proofs.environments.Entered.{length_each}
use Rattle.evaluation.proofs.environments.Indices.{words_ok, cells_value}
use Rattle.evaluation.proofs.forms.Comes.{val, vals, Fit, word_in, words_in, WordIn, Runs, EntersWell}
use Rattle.evaluation.proofs.steps.Collapsed.{value_rests, values_rest}
use Rattle.evaluation.proofs.forms.Leaves.{same_count}
use Rattle.evaluation.proofs.forms.OverRuns.{array_full, no_cell_comes}
use Rattle.evaluation.proofs.steps.ScalarSteps.{apply_step}
use Rattle.evaluation.proofs.forms.AppRuns.{all_full, spread_app, map_runs, scalar_runs}
use Rattle.reduction_laws.proofs.steps.Frames as frames
use Rattle.reduction_laws.proofs.steps.Frames.{prefix_rest}
use Rattle.evaluation.proofs.forms.AppLists.{prefixes_of, Framed, AllFramed, framed, framed_count, framed_ranks}
use Rattle.evaluation.proofs.forms.Spread.{function_lifted, arguments_lifted, function_whole, arguments_whole}

module _ {A : Type 0} (W : Setting A) (enter : Env A → ℕ → Comp (Arrayed A)) (K : ℕ) (enters : EntersWell W K enter) where
  -- frames of terms are those of values
  frames_alike : (cs : List (List ℕ)) (xs : List (Arrayed A)) → rules.frames_of erased_rules cs (vals W xs) ≡ frames_of cs xs
  frames_alike [] [] = refl
  frames_alike [] (a ∷ xs) = refl
  frames_alike (c ∷ cs) [] = refl
  frames_alike (c ∷ cs) (a ∷ xs) = λ i. and_list (frame_before c (dims_are a.dims (each W.cell a.atoms) i)) (frames_alike cs xs i)

  module _ (T : Ty) (env : Env A) (cs : List Word) (r : Word) (g : Arrayed A) (xs : List (Arrayed A)) (hg : Fit W g) (hs : Each (Fit W) xs) (scoped : Each (WordIn W env) cs) (rs : WordIn W env r)
      (good : W.good T (TApp (val W g) (term_list (vals W xs)) (words_in W env cs) (word_in W env r))) where
    -- the application, and the dims of cells
    abbrev app : ErasedTerm
    app = TApp (val W g) (term_list (vals W xs)) (words_in W env cs) (word_in W env r)

    abbrev cell_dims : List (List ℕ)
    cell_dims = each (shape_under env.indices) cs

    g_full : length g.atoms ≡ product g.dims
    g_full = array_full W enter K g hg (W.typing.function T (val W g) (term_list (vals W xs)) (words_in W env cs) (word_in W env r) good)

    xs_full : Each (λ a. length a.atoms ≡ product a.dims) xs
    xs_full = all_full W enter K enters xs hs (subst (Each (SomeType W.good)) (items_back (vals W xs)) (W.typing.arguments T (val W g) (term_list (vals W xs)) (words_in W env cs) (word_in W env r) good))

    -- the step by the frames of values
    step_framed : one W.defs app ≡ if_there (frames_of cell_dims xs) (λ fs. if_there (greatest (g.dims ∷ fs)) (λ G. apply_at erased_rules G fs (val W g) (vals W xs) (words_in W env cs) (word_in W env r)))
    step_framed =
        apply_step W.defs (val W g) (vals W xs) (words_in W env cs) (word_in W env r) (value_rests W g hg) (values_rest W xs hs)
        ∙ (λ i. if_there ((ap (λ ds. rules.frames_of erased_rules ds (vals W xs)) (cells_value env.indices cs) ∙ frames_alike cell_dims xs) i)
        (λ fs. if_there (greatest (dims_are g.dims (each W.cell g.atoms) i ∷ fs)) (λ G. apply_at erased_rules G fs (val W g) (vals W xs) (words_in W env cs) (word_in W env r))))

    -- what the evaluation comes to where there is a frame F
    eval_framed : (F : List ℕ) (fs : List (List ℕ)) → frames_of cell_dims xs ≡ Some fs → greatest (g.dims ∷ fs) ≡ Some F → AllFramed F fs cell_dims xs
        → app_val W.rules enter env.indices cs r g xs ≡ ticks (app_ticks_over (g.dims ∷ fs) (Some F)) (begun_val W.rules enter (app_over env.indices F fs cell_dims r g xs))
    eval_framed F fs e f h =
        let count_is : length cs ≡ length xs = sym (length_each (shape_under env.indices) cs) ∙ framed_count F fs cell_dims xs h in
        ap (λ b. elim b as (λ b. Comp (Arrayed A)) [ true ↦ ticks (app_ticks cell_dims g xs) (begun_val W.rules enter (app_begun env.indices cs r g xs)) | false ↦ lost ]) (same_count (length cs) (length xs) count_is)
        ∙ (λ i. ticks (app_ticks_of g (e i)) (begun_val W.rules enter (unless (words_ok env.indices cs scoped i) (app_ranked env.indices cell_dims r g xs))))
        ∙ (λ i. ticks (app_ticks_over (g.dims ∷ fs) (f i)) (begun_val W.rules enter (elim (framed_ranks F fs cell_dims xs h i) as (λ b. Begun A) [ false ↦ Fails stuck.Rank | true ↦ app_framed env.indices (frames_of cell_dims xs) cell_dims r g xs ])))
        ∙ (λ i. ticks (app_ticks_over (g.dims ∷ fs) (Some F)) (begun_val W.rules enter (app_framed env.indices (e i) cell_dims r g xs)))
        ∙ (λ i. ticks (app_ticks_over (g.dims ∷ fs) (Some F)) (begun_val W.rules enter (app_greatest env.indices (f i) fs cell_dims r g xs)))

    -- over a frame that has cells
    cells_runs : (F : List ℕ) (fs : List (List ℕ)) → Framed F g.dims [] g → AllFramed F fs cell_dims xs → nat_lt (2 ^ 24) (product F) ≡ false → (product F == 0) ≡ false
        → one W.defs app ≡ apply_over erased_rules F fs (val W g) (vals W xs) (words_in W env cs) (word_in W env r)
        → Runs W K app (ticks (lift_ticks (g.dims ∷ fs) F) (begun_val W.rules enter (Maps F (places (spread F g.dims [] g.atoms) (columns (product F) (all_cells_at F fs cell_dims xs))))))
    cells_runs [] fs gfr h small some step = scalar_runs W enter K enters T env cs r fs g xs hg hs g_full xs_full gfr h good
    cells_runs (n ∷ F) fs gfr h small some step = by (all_frames_are (n ∷ F) (g.dims ∷ fs)) refl (step ∙ ap at (ap (λ d. all_frames_are (n ∷ F) (d ∷ fs)) (dims_are g.dims (each W.cell g.atoms))))
      where
        at : Bool → Move ErasedTerm
        at b =
            elim b as (λ b. Move ErasedTerm) [
              | true ↦ Goes (TFrame (n ∷ F) (term_list (apps erased_rules (rules.atoms_of erased_rules (val W g)) (columns (product (n ∷ F)) (all_cells erased_rules (n ∷ F) (each word_value (words_in W env cs)) (vals W xs))) (words_in W env cs) (word_in W env r))) tt)
              | false ↦ Goes (TApp (lifted erased_rules (n ∷ F) (dims_of erased_rules (val W g)) [] (val W g)) (term_list (all_lifted erased_rules (n ∷ F) fs (each word_value (words_in W env cs)) (vals W xs))) (words_in W env cs) (word_in W env r))
            ]

        spread_runs : W.good T (spread_app W enter K enters env cs r n F fs g xs)
            → Runs W K (spread_app W enter K enters env cs r n F fs g xs) (tick (count 1 (places_val W.rules enter (n ∷ F) [] (places (spread (n ∷ F) g.dims [] g.atoms) (columns (product (n ∷ F)) (all_cells_at (n ∷ F) fs cell_dims xs))))))
        spread_runs = map_runs W enter K enters env cs r n F fs g xs T hg hs g_full xs_full gfr h small some

        by : (b : Bool) → all_frames_are (n ∷ F) (g.dims ∷ fs) ≡ b
            → one W.defs app
            ≡ elim b as (λ b. Move ErasedTerm) [
              | true ↦ Goes (TFrame (n ∷ F) (term_list (apps erased_rules (rules.atoms_of erased_rules (val W g)) (columns (product (n ∷ F)) (all_cells erased_rules (n ∷ F) (each word_value (words_in W env cs)) (vals W xs))) (words_in W env cs) (word_in W env r))) tt)
              | false ↦ Goes (TApp (lifted erased_rules (n ∷ F) (dims_of erased_rules (val W g)) [] (val W g)) (term_list (all_lifted erased_rules (n ∷ F) fs (each word_value (words_in W env cs)) (vals W xs))) (words_in W env cs) (word_in W env r))
            ]
            → Runs W K app (ticks (elim b as (λ b. ℕ) [ true ↦ 1 | false ↦ 2 ]) (count 1 (places_val W.rules enter (n ∷ F) [] (places (spread (n ∷ F) g.dims [] g.atoms) (columns (product (n ∷ F)) (all_cells_at (n ∷ F) fs cell_dims xs))))))
        by true e step =
            let same = frames.frames_are (n ∷ F) (g.dims ∷ fs) e in
            let is : app ≡ spread_app W enter K enters env cs r n F fs g xs =
            (λ i. TApp (val W (function_whole W (n ∷ F) g same.0 g_full i)) (term_list (vals W (arguments_whole W (n ∷ F) fs cell_dims xs h same.1 xs_full i))) (words_in W env cs) (word_in W env r)) in
            subst (λ t. Runs W K t (tick (count 1 (places_val W.rules enter (n ∷ F) [] (places (spread (n ∷ F) g.dims [] g.atoms) (columns (product (n ∷ F)) (all_cells_at (n ∷ F) fs cell_dims xs))))))) (sym is)
            (spread_runs (subst (W.good T) is good))
        by false e step =
            let f = lifted erased_rules (n ∷ F) (dims_of erased_rules (val W g)) [] (val W g) in
            let ts = all_lifted erased_rules (n ∷ F) fs (each word_value (words_in W env cs)) (vals W xs) in
            let next = W.typing.keeps T app (TApp f (term_list ts) (words_in W env cs) (word_in W env r)) good step in
            let values = cells_value env.indices cs in
            let args : Each (SomeType W.good) (all_lifted erased_rules (n ∷ F) fs cell_dims (vals W xs)) =
            subst (λ ds. Each (SomeType W.good) (all_lifted erased_rules (n ∷ F) fs ds (vals W xs))) values
            (subst (Each (SomeType W.good)) (items_back ts) (W.typing.arguments T f (term_list ts) (words_in W env cs) (word_in W env r) next)) in
            let is : TApp f (term_list ts) (words_in W env cs) (word_in W env r) ≡ spread_app W enter K enters env cs r n F fs g xs =
            (λ i. TApp (function_lifted W (n ∷ F) g gfr (W.typing.function T f (term_list ts) (words_in W env cs) (word_in W env r) next) i)
            (term_list ((ap (λ ds. all_lifted erased_rules (n ∷ F) fs ds (vals W xs)) values ∙ arguments_lifted W (n ∷ F) fs cell_dims xs h args) i)) (words_in W env cs) (word_in W env r)) in
            reduces_tick (one W.defs) (step ∙ ap Goes is) (spread_runs (subst (W.good T) is next))

    -- over any frame
    frame_runs : (F : List ℕ) (fs : List (List ℕ)) → Framed F g.dims [] g → AllFramed F fs cell_dims xs → one W.defs app ≡ apply_at erased_rules F fs (val W g) (vals W xs) (words_in W env cs) (word_in W env r)
        → Runs W K app (ticks (app_ticks_over (g.dims ∷ fs) (Some F)) (begun_val W.rules enter (app_over env.indices F fs cell_dims r g xs)))
    frame_runs F fs gfr h step = by (nat_lt (2 ^ 24) (product F)) refl (product F == 0) refl step
      where
        by : (b : Bool) → nat_lt (2 ^ 24) (product F) ≡ b → (c : Bool) → (product F == 0) ≡ c
            → one W.defs app
            ≡ elim b as (λ b. Move ErasedTerm) [
              | true ↦ Trapped trap.Size
              | false ↦
                  elim c as (λ c. Move ErasedTerm)
                  [ true ↦ goes_empty erased_rules (F ++ shape_under env.indices r) tt | false ↦ apply_over erased_rules F fs (val W g) (vals W xs) (words_in W env cs) (word_in W env r) ]
            ]
            → Runs W K app
            (ticks (elim b as (λ b. ℕ) [ true ↦ 0 | false ↦ elim c as (λ c. ℕ) [ true ↦ 0 | false ↦ lift_ticks (g.dims ∷ fs) F ] ])
            (begun_val W.rules enter (elim b as (λ b. Begun A) [
              | true ↦ Halts trap.Size
              | false ↦ elim c as (λ c. Begun A) [ true ↦ no_cell env.indices F r | false ↦ Maps F (places (spread F g.dims [] g.atoms) (columns (product F) (all_cells_at F fs cell_dims xs))) ]
            ])))
        by true e c f step = reduces_trap (one W.defs) (val_term W.cell) (FitArray W.bodies W.cell W.fits) trap.Size step
        by false e true f step = no_cell_comes W enter K env F r app rs step
        by false e false f step = cells_runs F fs gfr h e f step

    pub runs_app : Runs W K (TApp (val W g) (term_list (vals W xs)) (words_in W env cs) (word_in W env r)) (app_val W.rules enter env.indices cs r g xs)
    runs_app = by (frames_of cell_dims xs) refl step_framed
      where
        by : (o : Option (List (List ℕ))) → frames_of cell_dims xs ≡ o
            → one W.defs app ≡ if_there o (λ fs. if_there (greatest (g.dims ∷ fs)) (λ G. apply_at erased_rules G fs (val W g) (vals W xs) (words_in W env cs) (word_in W env r)))
            → Runs W K app (app_val W.rules enter env.indices cs r g xs)
        by None e step = absurd (W.typing.never_lost T app good step)
        by (Some fs) e step = at (greatest (g.dims ∷ fs)) refl step
          where
            at : (o : Option (List ℕ)) → greatest (g.dims ∷ fs) ≡ o → one W.defs app ≡ if_there o (λ G. apply_at erased_rules G fs (val W g) (vals W xs) (words_in W env cs) (word_in W env r))
                → Runs W K app (app_val W.rules enter env.indices cs r g xs)
            at None f step = absurd (W.typing.never_lost T app good step)
            at (Some F) f step =
                let prefixes = prefixes_of (g.dims ∷ fs) F f in
                let h = framed F cell_dims xs fs e prefixes.1 in
                let rest = prefix_rest g.dims F prefixes.0 in
                subst (Runs W K app) (sym (eval_framed F fs e f h)) (frame_runs F fs (sym (append-nil g.dims), (rest.0, rest.1, rest.2)) h step)
