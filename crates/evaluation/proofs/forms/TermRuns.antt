-- The evaluation of a term is its reduction with the environment in place, form by form, from the rules on values.
use Rattle.std.proofs.Common.{◌≡◌, refl, sym, ap, ◌∙◌, ℕ, suc, ◌+◌, Bool, true, false, List, [], ◌∷◌, ◌++◌, None, Some}
use Rattle.std.specs.Prelude.{⊤}
use Rattle.core_syntax.specs.declared.errors.TrapKind.TheVariants as trap
use Rattle.core_syntax.specs.Syntax.{Ty}
use Rattle.core_syntax.specs.Lists.{each, Each}
use Rattle.core_syntax.specs.Fits.{forms}
use Rattle.core_syntax.specs.Subst.{put_first}
use Rattle.core_syntax.specs.Arrays.{Arrayed, array}
use Rattle.core_syntax.specs.Terms.{TVar, TDef, TArray, TNoAtoms, TFrame, TNoCells, TApp, TTypeApp, TIndexApp, TUnbox, Terms, no_terms, more_terms, term_list, term_items, Cell, TInt, TBool, TChar, TPrim, TFn, TTypeFn, TIndexFn, TBoxed, Cells, no_cells, more_cells, cell_list}
use Rattle.core_syntax.specs.TermPut.{term_put, terms_put, cell_put, cells_put, terms_under}
use Rattle.erasure.specs.Erased.{erased, ErasedTerm, erased_rules}
use Rattle.array_values.specs.declared.closure.CloseKind.TheVariants as close
use Rattle.machine_table.specs.Values.{Env, IntAtom, BoolAtom, CharAtom, PrimAtom, Closure}
use Rattle.machine_table.specs.Indices.{code_index}
use Rattle.machine_table.specs.Instructions.{type_begun, index_begun, unbox_begun}
use Rattle.lowering.specs.Lower.{body_at, opens, cell_opens, bodies_in, terms_bodies, cell_bodies, cells_bodies, all_base}
use Rattle.lowering.specs.Runs.{Comp, ◌then_run◌, tick, ticks, count, stop}
use Rattle.lowering.specs.Evals.{frame_room, app_val, over_ticks, base_val, array_val, frame_val, eval, eval_all, eval_cell, eval_cells, begun_val}
use Rattle.evaluation.specs.Plugged.{val_term, env_terms, term_of, plugged}
use Rattle.evaluation.specs.Scoped.{with_values, Scoped, TermsScoped, CellScoped, CellsScoped}
use Rattle.evaluation.specs.Lawful.{FitArray, FitEnv, Stand}
use Rattle.evaluation.specs.Typing.{SomeType, ContentIs, ContentsAre}
use Rattle.evaluation.specs.Setting.{Setting}
use Rattle.evaluation.proofs.environments.Placed.{stand_app, stand_unbox, stand_cells}
use Rattle.evaluation.proofs.steps.Reduces.{Reduces, Inside, reduces_give, reduces_push, reduces_count, reduces_trap, reduces_then, reduces_inside, reduces_keeps}
use Rattle.evaluation.proofs.steps.Contexts.{one, some, one_cell, some_cells, in_first, in_rest, in_first_cell, in_rest_cells, in_array, in_box, in_frame_first, frame_step, in_frame_rest, in_function, in_arguments, in_types, in_indices, in_unbox}
use Rattle.evaluation.proofs.steps.Rests.{dims_are}
use Rattle.evaluation.proofs.forms.Comes.{val, vals, Fit, word_in, words_in, norms_in, Runs, Rules}
use Rattle.evaluation.proofs.steps.Collapsed.{value_rests}
use Rattle.evaluation.proofs.forms.Leaves.{made_is, runs_var, runs_empty, runs_base, runs_array, runs_frame}

-- there is an item
abbrev IsMore : {A : Type 0} → List A → Type 0
IsMore [] = ⊥
IsMore (x ∷ xs) = ⊤

module _ {A : Type 0} (W : Setting A) (enter : Env A → ℕ → Comp (Arrayed A)) (K : ℕ) (rules : Rules W K enter) where
  -- terms and atoms with an environment in place
  abbrev put_terms : Env A → Terms erased → Terms erased
  put_terms env ts = terms_put erased_rules (put_first env.indices) (env_terms W.cell env) ts

  -- an atom
  abbrev put_cell : Env A → Cell erased → Cell erased
  put_cell env a = cell_put erased_rules (put_first env.indices) (env_terms W.cell env) a

  -- a list of atoms
  abbrev put_cells : Env A → Cells erased → Cells erased
  put_cells env xs = cells_put erased_rules (put_first env.indices) (env_terms W.cell env) xs

  -- the body of an `unbox`, which binds n indices and one term
  abbrev put_body : Env A → ℕ → ErasedTerm → ErasedTerm
  put_body env n b = term_put erased_rules (erased_rules.under_sorts n (put_first env.indices)) (terms_under 1 (env_terms W.cell env)) b

  -- a list of terms, an atom and a list of atoms that come to values
  abbrev RunsAll : Terms erased → Comp (List (Arrayed A)) → Type 0
  RunsAll ts m = Reduces (some W.defs) (suc K) ts (λ xs. term_list (vals W xs)) (Each (Fit W)) m

  -- an atom
  abbrev RunsCell : Cell erased → Comp A → Type 0
  RunsCell a m = Reduces (one_cell W.defs) (suc K) a W.cell W.fits m

  -- a list of atoms
  abbrev RunsCells : Cells erased → Comp (List A) → Type 0
  RunsCells xs m = Reduces (some_cells W.defs) (suc K) xs (λ xs. cell_list (each W.cell xs)) (Each W.fits) m

  -- a lawful environment
  abbrev EnvFits : Env A → Type 0
  EnvFits env = FitEnv W.bodies W.cell W.fits env

  -- a run of a part and then of the whole, which has a type
  then_whole : (T : Ty) (C : ErasedTerm → ErasedTerm) (t : ErasedTerm) (m : Comp (Arrayed A)) (f : Arrayed A → Comp (Arrayed A)) → Inside (one W.defs) (one W.defs) C
      → W.good T (C t) → Runs W K t m → ((a : Arrayed A) → Fit W a → W.good T (C (val W a)) → Runs W K (C (val W a)) (f a)) → Runs W K (C t) (m then_run f)
  then_whole T C t m f inside good r k =
      reduces_then (one W.defs) (reduces_keeps (one W.defs) (W.good T) (W.typing.keeps T) good (reduces_inside (one W.defs) (one W.defs) C inside r)) (λ a p. k a p.0 p.1)

  -- the same of a list of terms
  then_all : (T : Ty) (C : Terms erased → ErasedTerm) (ts : Terms erased) (m : Comp (List (Arrayed A))) (f : List (Arrayed A) → Comp (Arrayed A)) → Inside (some W.defs) (one W.defs) C
      → W.good T (C ts) → RunsAll ts m → ((xs : List (Arrayed A)) → Each (Fit W) xs → W.good T (C (term_list (vals W xs))) → Runs W K (C (term_list (vals W xs))) (f xs)) → Runs W K (C ts) (m then_run f)
  then_all T C ts m f inside good r k =
      reduces_then (one W.defs) (reduces_keeps (one W.defs) (W.good T) (W.typing.keeps T) good (reduces_inside (some W.defs) (one W.defs) C inside r)) (λ xs p. k xs p.0 p.1)

  mutual
    -- where a term's forms stand, its notes are in scope, its environment is lawful, and it has a type with the environment in place
    pub runs_term : (T : Ty) (k : ℕ) (t : ErasedTerm) (env : Env A) → Stand W.bodies k (bodies_in k t) → Scoped false (with_values env.indices) t → EnvFits env → W.good T (plugged W.cell env t)
        → Runs W K (plugged W.cell env t) (eval W.rules enter k env t)
    runs_term T k (TVar j) env at s h g = runs_var W enter K T env j h g
    runs_term T k (TDef j) env at s h g = rules.def T j g
    runs_term T k (TArray dims no_cells) env at s h g = absurd (W.typing.some_atoms T dims g)
    runs_term T k (TArray dims (more_cells a xs)) env at s h g =
        by (all_base (more_cells a xs)) refl
        (runs_cell k a env (stand_cells W.bodies k a xs at).0 s.1.0 h (W.typing.contents T dims (put_cells env (more_cells a xs)) g).0)
        (runs_cells (k + cell_opens a) xs env (stand_cells W.bodies k a xs at).1 s.1.1 h (W.typing.contents T dims (put_cells env (more_cells a xs)) g).1)
      where
        by : (b : Bool) → all_base (more_cells a xs) ≡ b → RunsCell (put_cell env a) (eval_cell W.rules enter k env a) → RunsCells (put_cells env xs) (eval_cells W.rules enter (k + cell_opens a) env xs)
            → Runs W K (TArray dims (put_cells env (more_cells a xs)))
            (elim b as (λ b. Comp (Arrayed A)) [ true ↦ base_val W.rules dims (more_cells a xs) | false ↦ eval_cells W.rules enter k env (more_cells a xs) then_run array_val dims (more_cells a xs) ])
        by true e i j = runs_base W enter K env dims a xs s.0 e
        by false e i j =
            reduces_then (one W.defs)
            (reduces_keeps (one W.defs) (W.good T) (W.typing.keeps T) g
            (reduces_inside (some_cells W.defs) (one W.defs) (TArray dims) (in_array W.defs dims)
            (reduces_then (some_cells W.defs) {P = W.fits} {Q = λ xs. Each W.fits xs × IsMore xs}
            (reduces_inside (one_cell W.defs) (some_cells W.defs) (λ b. more_cells b (put_cells env xs)) (in_first_cell W.defs (put_cells env xs)) i)
            (λ v hv. reduces_then (some_cells W.defs) (reduces_inside (some_cells W.defs) (some_cells W.defs) (more_cells (W.cell v)) (in_rest_cells W.defs (W.cell v) (W.reads.rests W.defs v hv)) j)
            (λ vs hvs. reduces_give (some_cells W.defs) (more_cells (W.cell v) (cell_list (each W.cell vs))) (λ xs. cell_list (each W.cell xs)) (λ xs. Each W.fits xs × IsMore xs) (v ∷ vs) refl ((hv, hvs), tt))))))
            (λ vs p. behind vs p.0.0 p.0.1 p.1)
          where
            behind : (vs : List A) → Each W.fits vs → IsMore vs → W.good T (TArray dims (cell_list (each W.cell vs))) → Runs W K (TArray dims (cell_list (each W.cell vs))) (array_val dims (more_cells a xs) vs)
            behind [] hs more good = absurd more
            behind (v ∷ vs) hs more good = runs_array W enter K T dims a xs v vs s.0 hs good
    runs_term T k (TNoAtoms dims a) env at s h g = reduces_push (one W.defs) (TNoAtoms dims tt) (val_term W.cell) (FitArray W.bodies W.cell W.fits) (array dims []) refl (s, tt)
    runs_term T k (TFrame dims no_terms a) env at s h g = absurd (W.typing.some_cells T dims g)
    runs_term T k (TFrame dims (more_terms t ts) a) env at s h g =
        let parts = W.typing.cells T dims (put_terms env (more_terms t ts)) g in
        then_whole T (λ u. TFrame dims (more_terms u (put_terms env ts)) tt) (plugged W.cell env t) (eval W.rules enter k env t)
        (λ v. frame_room dims v (eval_all W.rules enter (k + opens t) env ts then_run (λ vs. frame_val W.rules enter dims (v ∷ vs))))
        (in_frame_first W.defs dims (put_terms env ts)) g (runs_term parts.0 k t env (stand_app W.bodies k t ts at).0 s.0 h parts.1.0)
        (λ v hv gv. room v hv gv (runs_terms (k + opens t) ts env (stand_app W.bodies k t ts at).1 s.1 h (typed_all parts.0 (term_items (put_terms env ts)) parts.1.1)) (forms (dims ++ v.dims)) refl)
      where
        typed_all : (U : Ty) (us : List ErasedTerm) → Each (W.good U) us → Each (SomeType W.good) us
        typed_all U [] h = tt
        typed_all U (u ∷ us) h = ((U, h.0), typed_all U us h.1)

        room : (v : Arrayed A) → Fit W v → W.good T (TFrame dims (more_terms (val W v) (put_terms env ts)) tt) → RunsAll (put_terms env ts) (eval_all W.rules enter (k + opens t) env ts) → (b : Bool) → forms (dims ++ v.dims) ≡ b
            → Runs W K (TFrame dims (more_terms (val W v) (put_terms env ts)) tt)
            (elim b as (λ b. Comp (Arrayed A)) [ true ↦ count 1 (eval_all W.rules enter (k + opens t) env ts then_run (λ vs. frame_val W.rules enter dims (v ∷ vs))) | false ↦ tick (count 1 (stop trap.Size)) ])
        room v hv gv i true e =
            reduces_count (one W.defs) 1
            (then_all T (λ us. TFrame dims (more_terms (val W v) us) tt) (put_terms env ts) (eval_all W.rules enter (k + opens t) env ts) (λ vs. frame_val W.rules enter dims (v ∷ vs))
            (in_frame_rest W.defs dims (val W v) (value_rests W v hv) (ap (λ d. forms (dims ++ d)) (dims_are v.dims (each W.cell v.atoms)) ∙ e)) gv i
            (λ vs hvs gvs. runs_frame W enter K T dims v vs hv hvs e gvs))
        room v hv gv i false e =
            reduces_trap (one W.defs) (val_term W.cell) (FitArray W.bodies W.cell W.fits) trap.Size
            (frame_step W.defs dims (val W v) (put_terms env ts) false (value_rests W v hv) (ap (λ d. forms (dims ++ d)) (dims_are v.dims (each W.cell v.atoms)) ∙ e))
    runs_term T k (TNoCells w) env at s h g = runs_empty W enter K T env w s g
    runs_term T k (TApp f ts cs r) env at s h g =
        let f_has = W.typing.function T (plugged W.cell env f) (put_terms env ts) (words_in W env cs) (word_in W env r) g in
        let ts_have = W.typing.arguments T (plugged W.cell env f) (put_terms env ts) (words_in W env cs) (word_in W env r) g in
        then_whole T (λ u. TApp u (put_terms env ts) (words_in W env cs) (word_in W env r)) (plugged W.cell env f) (eval W.rules enter k env f)
        (λ v. eval_all W.rules enter (k + opens f) env ts then_run (λ vs. app_val W.rules enter env.indices cs r v vs))
        (in_function W.defs (put_terms env ts) (words_in W env cs) (word_in W env r)) g (runs_term f_has.0 k f env (stand_app W.bodies k f ts at).0 s.0 h f_has.1)
        (λ v hv gv. then_all T (λ us. TApp (val W v) us (words_in W env cs) (word_in W env r)) (put_terms env ts) (eval_all W.rules enter (k + opens f) env ts)
        (λ vs. app_val W.rules enter env.indices cs r v vs)
        (in_arguments W.defs (val W v) (words_in W env cs) (word_in W env r) (value_rests W v hv)) gv (runs_terms (k + opens f) ts env (stand_app W.bodies k f ts at).1 s.1 h ts_have)
        (λ vs hvs gvs. rules.app T env cs r v vs hv hvs s.2 s.3 gvs))
    runs_term T k (TTypeApp t us r) env at s h g =
        let has = W.typing.under_types T (plugged W.cell env t) (word_in W env r) g in
        then_whole T (λ u. TTypeApp u tt (word_in W env r)) (plugged W.cell env t) (eval W.rules enter k env t)
        (λ v. ticks (over_ticks v) (begun_val W.rules enter (type_begun env.indices v r)))
        (in_types W.defs (word_in W env r)) g (runs_term has.0 k t env at s.0 h has.1)
        (λ v hv gv. rules.types T env r v hv s.1 gv)
    runs_term T k (TIndexApp t is r) env at s h g =
        let has = W.typing.under_indices T (plugged W.cell env t) (norms_in W env is) (word_in W env r) g in
        then_whole T (λ u. TIndexApp u (norms_in W env is) (word_in W env r)) (plugged W.cell env t) (eval W.rules enter k env t)
        (λ v. ticks (over_ticks v) (begun_val W.rules enter (index_begun env.indices v (each code_index is) r)))
        (in_indices W.defs (norms_in W env is) (word_in W env r)) g (runs_term has.0 k t env at s.0 h has.1)
        (λ v hv gv. rules.indices T env is r v hv s.1 s.2 gv)
    runs_term T k (TUnbox n t b r) env at s h g =
        let has = W.typing.under_unbox T n (plugged W.cell env t) (put_body env n b) (word_in W env r) g in
        let parts = stand_unbox W.bodies (suc k) t b at.1 in
        then_whole T (λ u. TUnbox n u (put_body env n b) (word_in W env r)) (plugged W.cell env t) (eval W.rules enter (suc k) env t)
        (λ v. ticks (over_ticks v) (begun_val W.rules enter (unbox_begun env v k n r)))
        (in_unbox W.defs n (put_body env n b) (word_in W env r)) g (runs_term has.0 (suc k) t env parts.0 s.0 h has.1)
        (λ v hv gv. rules.unbox T env k (suc k + opens t) n b r v at.0 parts.1 s.1 h hv s.2 gv)

    runs_terms : (k : ℕ) (ts : Terms erased) (env : Env A) → Stand W.bodies k (terms_bodies k ts) → TermsScoped false (with_values env.indices) ts → EnvFits env → Each (SomeType W.good) (term_items (put_terms env ts))
        → RunsAll (put_terms env ts) (eval_all W.rules enter k env ts)
    runs_terms k no_terms env at s h g = reduces_give (some W.defs) no_terms (λ xs. term_list (vals W xs)) (Each (Fit W)) [] refl tt
    runs_terms k (more_terms t ts) env at s h g =
        reduces_then (some W.defs)
        (reduces_inside (one W.defs) (some W.defs) (λ u. more_terms u (put_terms env ts)) (in_first W.defs (put_terms env ts)) (runs_term g.0.0 k t env (stand_app W.bodies k t ts at).0 s.0 h g.0.1))
        (λ v hv. reduces_then (some W.defs)
        (reduces_inside (some W.defs) (some W.defs) (more_terms (val W v)) (in_rest W.defs (val W v) (value_rests W v hv)) (runs_terms (k + opens t) ts env (stand_app W.bodies k t ts at).1 s.1 h g.1))
        (λ vs hvs. reduces_give (some W.defs) (more_terms (val W v) (term_list (vals W vs))) (λ xs. term_list (vals W xs)) (Each (Fit W)) (v ∷ vs) refl (hv, hvs)))

    runs_cell : (k : ℕ) (a : Cell erased) (env : Env A) → Stand W.bodies k (cell_bodies k a) → CellScoped false (with_values env.indices) a → EnvFits env → ContentIs (SomeType W.good) (put_cell env a)
        → RunsCell (put_cell env a) (eval_cell W.rules enter k env a)
    runs_cell k (TInt z) env at s h g = reduces_push (one_cell W.defs) (TInt z) W.cell W.fits (W.rules.made (IntAtom z)) (sym (made_is W enter K (IntAtom z))) (W.reads.fit_made (IntAtom z) tt)
    runs_cell k (TBool b) env at s h g = reduces_push (one_cell W.defs) (TBool b) W.cell W.fits (W.rules.made (BoolAtom b)) (sym (made_is W enter K (BoolAtom b))) (W.reads.fit_made (BoolAtom b) tt)
    runs_cell k (TChar c) env at s h g = reduces_push (one_cell W.defs) (TChar c) W.cell W.fits (W.rules.made (CharAtom c)) (sym (made_is W enter K (CharAtom c))) (W.reads.fit_made (CharAtom c) tt)
    runs_cell k (TPrim p None None) env at s h g =
        reduces_push (one_cell W.defs) (TPrim p None None) W.cell W.fits (W.rules.made (PrimAtom p false None)) (sym (made_is W enter K (PrimAtom p false None))) (W.reads.fit_made (PrimAtom p false None) tt)
    runs_cell k (TPrim p None (Some is)) env at s h g = absurd s
    runs_cell k (TPrim p (Some u) None) env at s h g = absurd s
    runs_cell k (TPrim p (Some u) (Some is)) env at s h g = absurd s
    runs_cell k (TFn n t) env at s h g =
        reduces_push (one_cell W.defs) (put_cell env (TFn n t)) W.cell W.fits (W.rules.made (Closure close.Fn k n env))
        (ap (λ o. TFn n (term_put erased_rules (put_first env.indices) (terms_under n (env_terms W.cell env)) (term_of o))) (sym at.0) ∙ sym (made_is W enter K (Closure close.Fn k n env)))
        (W.reads.fit_made (Closure close.Fn k n env) ((body_at (suc k) t, at.0, at.1, s), h))
    runs_cell k (TTypeFn n t) env at s h g =
        reduces_push (one_cell W.defs) (put_cell env (TTypeFn n t)) W.cell W.fits (W.rules.made (Closure close.TypeFn k 0 env))
        (ap (λ o. TTypeFn tt (plugged W.cell env (term_of o))) (sym at.0) ∙ sym (made_is W enter K (Closure close.TypeFn k 0 env)))
        (W.reads.fit_made (Closure close.TypeFn k 0 env) ((body_at (suc k) t, at.0, at.1, s), h))
    runs_cell k (TIndexFn n t) env at s h g =
        reduces_push (one_cell W.defs) (put_cell env (TIndexFn n t)) W.cell W.fits (W.rules.made (Closure close.IndexFn k n env))
        (ap (λ o. TIndexFn n (term_put erased_rules (erased_rules.under_sorts n (put_first env.indices)) (env_terms W.cell env) (term_of o))) (sym at.0) ∙ sym (made_is W enter K (Closure close.IndexFn k n env)))
        (W.reads.fit_made (Closure close.IndexFn k n env) ((body_at (suc k) t, at.0, at.1, s), h))
    runs_cell k (TBoxed is t b) env at s h g =
        reduces_then (one_cell W.defs)
        (reduces_inside (one W.defs) (one_cell W.defs) (λ u. TBoxed (norms_in W env is) u tt) (in_box W.defs (norms_in W env is)) (runs_term g.0 k t env at s.1 h g.1))
        (λ v hv. rules.box env is v hv s.0)

    runs_cells : (k : ℕ) (xs : Cells erased) (env : Env A) → Stand W.bodies k (cells_bodies k xs) → CellsScoped false (with_values env.indices) xs → EnvFits env → ContentsAre (SomeType W.good) (put_cells env xs)
        → RunsCells (put_cells env xs) (eval_cells W.rules enter k env xs)
    runs_cells k no_cells env at s h g = reduces_give (some_cells W.defs) no_cells (λ xs. cell_list (each W.cell xs)) (Each W.fits) [] refl tt
    runs_cells k (more_cells a xs) env at s h g =
        reduces_then (some_cells W.defs)
        (reduces_inside (one_cell W.defs) (some_cells W.defs) (λ b. more_cells b (put_cells env xs)) (in_first_cell W.defs (put_cells env xs)) (runs_cell k a env (stand_cells W.bodies k a xs at).0 s.0 h g.0))
        (λ v hv. reduces_then (some_cells W.defs)
        (reduces_inside (some_cells W.defs) (some_cells W.defs) (more_cells (W.cell v)) (in_rest_cells W.defs (W.cell v) (W.reads.rests W.defs v hv)) (runs_cells (k + cell_opens a) xs env (stand_cells W.bodies k a xs at).1 s.1 h g.1))
        (λ vs hvs. reduces_give (some_cells W.defs) (more_cells (W.cell v) (cell_list (each W.cell vs))) (λ xs. cell_list (each W.cell xs)) (Each W.fits) (v ∷ vs) refl (hv, hvs)))
