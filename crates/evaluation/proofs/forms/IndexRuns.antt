-- The rules of an `i-app`, an `unbox` and a box: what each comes to on values is its reduction.
use Rattle.std.proofs.Common.{◌≡◌, refl, sym, ap, subst, ◌∙◌, ℕ, suc, arith, Bool, true, false, List, [], ◌∷◌, length, Option, Some, None}
use Rattle.std.specs.Prelude.{◌&&◌, is_some}
use Rattle.core_syntax.specs.declared.errors.TrapKind.TheVariants as trap
use Rattle.core_syntax.specs.declared.errors.StuckKind.TheVariants as stuck
use Rattle.core_syntax.specs.declared.index.Sort.{Sort}
use Rattle.core_syntax.specs.declared.primitive.Primitive.{Primitive}
use Rattle.core_syntax.specs.declared.norm.NormIndex.{NormIndex}
use Rattle.core_syntax.specs.Syntax.{Ty}
use Rattle.core_syntax.specs.Lists.{onto, each, Each, product}
use Rattle.core_syntax.specs.Word.{Word}
use Rattle.core_syntax.specs.Prims.{prim_type}
use Rattle.core_syntax.specs.Fits.{forms, all_fit}
use Rattle.core_syntax.specs.Subst.{kept, put_first, put_all}
use Rattle.core_syntax.specs.Arrays.{Arrayed, array, single}
use Rattle.core_syntax.specs.Terms.{IndexValue, TFrame, TIndexApp, term_list, Cell, TPrim, scalar_of}
use Rattle.core_syntax.specs.TermPut.{term_put}
use Rattle.core_syntax.specs.Move.{Move, Trapped, Goes, Lost, first_move}
use Rattle.core_syntax.specs.Rules.{has_types, agrees, index_beta, index_beta_at, over_value}
use Rattle.core_syntax.specs.NormPut.{norm_value}
use Rattle.erasure.specs.Erased.{erased, ErasedTerm, erased_rules}
use Rattle.core_syntax.specs.DeltaStuck.{row_sorts, have_sorts}
use Rattle.array_values.specs.declared.closure.CloseKind.TheVariants as close
use Rattle.machine_table.specs.Values.{Env, Atom, IntAtom, BoolAtom, CharAtom, PrimAtom, Closure, BoxAtom, with_indices}
use Rattle.machine_table.specs.Indices.{index_under, code_index}
use Rattle.machine_table.specs.Begins.{EntersIndex, Entry, Refuses, Enters, Answers, if_taken, index_atom, prim_indices, place_entry}
use Rattle.machine_table.specs.Instructions.{Begun, Halts, Maps, unless, fitting, over_begun, index_begun}
use Rattle.lowering.specs.Runs.{Comp, tick, ticks, count, stop}
use Rattle.lowering.specs.Evals.{entered, over_ticks, begun_val}
use Rattle.evaluation.specs.Plugged.{val_term, env_terms, term_of, atom_cell}
use Rattle.evaluation.specs.Scoped.{with_values, Scoped}
use Rattle.evaluation.specs.Lawful.{FitArray, FitAtom}
use Rattle.evaluation.specs.Typing.{SomeType}
use Rattle.evaluation.specs.Setting.{Setting}
use Rattle.evaluation.proofs.steps.Reduces.{reduces_tick, reduces_trap}
use Rattle.evaluation.proofs.steps.Contexts.{one, in_frame_first}
use Rattle.evaluation.proofs.environments.Entered.{length_each, enters_indices}
use Rattle.evaluation.proofs.environments.Rescoped.{rescoped}
use Rattle.evaluation.proofs.environments.Indices.{indices_ok, indices_value}
use Rattle.evaluation.proofs.forms.Comes.{val, Fit, word_in, norms_in, WordIn, IndexIn, Runs, EntersWell}
use Rattle.evaluation.proofs.steps.Collapsed.{value_rests}
use Rattle.evaluation.proofs.forms.Leaves.{made_is, same_count}
use Rattle.evaluation.proofs.forms.MapRuns.{StepsAs}
use Rattle.evaluation.proofs.forms.BindRuns.{body_comes}
use Rattle.evaluation.proofs.forms.OverRuns.{array_full, over_frame, over_comes}

-- a test that is met
both_met : (a b : Bool) → a ≡ true → b ≡ true → a && b ≡ true
both_met true true e f = refl
both_met true false e f = absurd (cc)
both_met false b e f = absurd (cc)

module _ {A : Type 0} (W : Setting A) (enter : Env A → ℕ → Comp (Arrayed A)) (K : ℕ) (enters : EntersWell W K enter) where
  -- as many are given as are taken
  taken : (U : Ty) (t : ErasedTerm) (m n : ℕ) (x : Entry A) → m ≡ n → StepsAs W enter K U t x → StepsAs W enter K U t (if_taken m n x)
  taken U t m n x e h = subst (λ b. StepsAs W enter K U t (elim b as (λ b. Entry A) [ true ↦ x | false ↦ Refuses stuck.Operand ])) (sym (same_count m n e)) h

  -- ---- `i-app`

  module _ (is : List NormIndex) (vs : List IndexValue) (values : each norm_value is ≡ vs) (r : Word) where
    index_term : Cell erased → ErasedTerm
    index_term c = TIndexApp (scalar_of c) is r

    count_is : length is ≡ length vs
    count_is = sym (length_each norm_value is) ∙ ap length values

    -- a primitive gets its indices
    prim_steps : (U : Ty) (q : Primitive) (typed : Bool) (us : Option (Unit {0})) → is_some us ≡ typed → W.good U (TIndexApp (scalar_of (TPrim q us None)) is r)
        → one W.defs (TIndexApp (scalar_of (TPrim q us None)) is r) ≡ Goes (val W (single (W.rules.made (PrimAtom q typed (Some vs)))))
        → (ss : List Sort) → row_sorts (prim_type q) ≡ ss → StepsAs W enter K U (TIndexApp (scalar_of (TPrim q us None)) is r) (prim_indices W.rules q typed None vs ss)
    prim_steps U q typed us same g e [] row = let f = W.typing.indexed_prim U q us is r g in absurd (f.1 row)
    prim_steps U q typed us same g e (s ∷ ss) row =
        let f = W.typing.indexed_prim U q us is r g in
        let takes : length (s ∷ ss) ≡ length vs = ap length (sym row) ∙ f.0 ∙ count_is in
        let sorts : have_sorts (s ∷ ss) vs ≡ true = (λ i. have_sorts (sym row i) (sym values i)) ∙ f.3 in
        let has : agrees (has_types q) typed ≡ true = ap (agrees (has_types q)) (sym same) ∙ f.2 in
        taken U (TIndexApp (scalar_of (TPrim q us None)) is r) (length (s ∷ ss)) (length vs)
        (elim (agrees (has_types q) typed && true && have_sorts (s ∷ ss) vs) as (λ b. Entry A) [ true ↦ Answers (single (W.rules.made (PrimAtom q typed (Some vs)))) | false ↦ Refuses stuck.Kind ]) takes
        (subst (λ b. StepsAs W enter K U (TIndexApp (scalar_of (TPrim q us None)) is r) (elim b as (λ b. Entry A) [ true ↦ Answers (single (W.rules.made (PrimAtom q typed (Some vs)))) | false ↦ Refuses stuck.Kind ]))
        (sym (both_met (agrees (has_types q) typed && true) (have_sorts (s ∷ ss) vs) (both_met (agrees (has_types q) typed) true has refl) sorts))
        (e, (refl, (W.reads.fit_made (PrimAtom q typed (Some vs)) tt, tt))))

    lost_at : (U : Ty) (c : Cell erased) → W.good U (TIndexApp (scalar_of c) is r) → one W.defs (TIndexApp (scalar_of c) is r) ≡ Lost → ⊥
    lost_at U c g e = W.typing.never_lost U (TIndexApp (scalar_of c) is r) g e

    index_steps : (U : Ty) (y : Atom A) → FitAtom W.bodies W.cell W.fits y → W.good U (TIndexApp (scalar_of (atom_cell W.cell W.bodies y)) is r)
        → one W.defs (TIndexApp (scalar_of (atom_cell W.cell W.bodies y)) is r) ≡ index_beta_at erased_rules vs (atom_cell W.cell W.bodies y ∷ [])
        → StepsAs W enter K U (TIndexApp (scalar_of (atom_cell W.cell W.bodies y)) is r) (index_atom W.rules vs y)
    index_steps U (IntAtom z) h g e = absurd (lost_at U (atom_cell W.cell W.bodies (IntAtom z)) g e)
    index_steps U (BoolAtom z) h g e = absurd (lost_at U (atom_cell W.cell W.bodies (BoolAtom z)) g e)
    index_steps U (CharAtom z) h g e = absurd (lost_at U (atom_cell W.cell W.bodies (CharAtom z)) g e)
    index_steps U (BoxAtom js a) h g e = absurd (lost_at U (atom_cell W.cell W.bodies (BoxAtom js a)) g e)
    index_steps U (PrimAtom q true (Some js)) h g e = absurd (lost_at U (atom_cell W.cell W.bodies (PrimAtom q true (Some js))) g e)
    index_steps U (PrimAtom q false (Some js)) h g e = absurd (lost_at U (atom_cell W.cell W.bodies (PrimAtom q false (Some js))) g e)
    index_steps U (PrimAtom q true None) h g e =
        prim_steps U q true (Some tt) refl g (e ∙ ap (λ c. Goes (scalar_of c)) (sym (made_is W enter K (PrimAtom q true (Some vs))))) (row_sorts (prim_type q)) refl
    index_steps U (PrimAtom q false None) h g e =
        prim_steps U q false None refl g (e ∙ ap (λ c. Goes (scalar_of c)) (sym (made_is W enter K (PrimAtom q false (Some vs))))) (row_sorts (prim_type q)) refl
    index_steps U (Closure close.Fn b n env) h g e = absurd (lost_at U (atom_cell W.cell W.bodies (Closure close.Fn b n env)) g e)
    index_steps U (Closure close.TypeFn b n env) h g e = absurd (lost_at U (atom_cell W.cell W.bodies (Closure close.TypeFn b n env)) g e)
    index_steps U (Closure close.IndexFn b n env) h g e =
        let opens = h.0 in
        let inner = term_put erased_rules (erased_rules.under_sorts n (put_first env.indices)) (env_terms W.cell env) (term_of (entered W.bodies b)) in
        let count : n ≡ length vs = W.typing.index_count U n inner is r g ∙ count_is in
        let body : term_of (entered W.bodies b) ≡ opens.0.term = ap term_of opens.1 in
        let scope : Scoped true (with_values (onto vs [])) (term_put erased_rules (erased_rules.under_sorts n (put_first env.indices)) (env_terms W.cell env) opens.0.term) =
        subst (λ t. Scoped true (with_values (onto vs [])) (term_put erased_rules (erased_rules.under_sorts n (put_first env.indices)) (env_terms W.cell env) t)) body
        (subst (λ ws. Scoped true (with_values (onto ws [])) inner) values (W.typing.index_scope U n inner is r g)) in
        taken U (TIndexApp (scalar_of (atom_cell W.cell W.bodies (Closure close.IndexFn b n env))) is r) n (length vs) (Enters (with_indices vs env) b) count
        (body_comes W enter K enters U (TIndexApp (scalar_of (atom_cell W.cell W.bodies (Closure close.IndexFn b n env))) is r) (with_indices vs env) b opens.0 opens.1 opens.2
        (rescoped n vs env.indices (env_terms W.cell env) opens.0.term count opens.3 scope) h.1 g
        (e ∙ ap (λ t. Goes (term_put erased_rules (put_all vs) kept (term_put erased_rules (erased_rules.under_sorts n (put_first env.indices)) (env_terms W.cell env) t))) body
        ∙ ap Goes (enters_indices W.bodies W.cell W.fits n vs env opens.0.term count h.1 opens.3)))

    -- the step of a value under indices
    value_step : (a : Arrayed A) → Fit W a → one W.defs (TIndexApp (val W a) is r) ≡ over_value erased_rules (val W a) (λ a. TIndexApp a is r) (index_beta erased_rules is) r
    value_step a h = ap (λ m. first_move m (λ u. TIndexApp u is r) (over_value erased_rules (val W a) (λ a. TIndexApp a is r) (index_beta erased_rules is) r)) (value_rests W a h)

    scalar_fits : (x : A) → W.fits x → Fit W (single x)
    scalar_fits x h = (refl, (h, tt))

    index_at : all_fit vs ≡ true → (U : Ty) (x : A) → W.fits x → W.good U (TIndexApp (scalar_of (W.cell x)) is r) → StepsAs W enter K U (TIndexApp (scalar_of (W.cell x)) is r) (place_entry W.rules (EntersIndex vs x))
    index_at fit U x h g =
        let at = W.reads.cells x in
        let step : one W.defs (TIndexApp (scalar_of (W.cell x)) is r) ≡ index_beta_at erased_rules vs (W.cell x ∷ []) =
        value_step (single x) (scalar_fits x h)
        ∙ (λ i. elim (all_fit (values i)) as (λ b. Move ErasedTerm) [ true ↦ index_beta_at erased_rules (values i) (W.cell x ∷ []) | false ↦ Trapped trap.Size ])
        ∙ ap (λ b. elim b as (λ b. Move ErasedTerm) [ true ↦ index_beta_at erased_rules vs (W.cell x ∷ []) | false ↦ Trapped trap.Size ]) fit in
        subst (λ c. StepsAs W enter K U (TIndexApp (scalar_of c) is r) (index_atom W.rules vs (W.rules.parts x))) (sym at)
        (index_steps U (W.rules.parts x) (W.reads.fit_parts x h) (subst (λ c. W.good U (TIndexApp (scalar_of c) is r)) at g)
        (subst (λ c. one W.defs (TIndexApp (scalar_of c) is r) ≡ index_beta_at erased_rules vs (c ∷ [])) at step))

    -- an index that doesn't fit, at one atom
    index_traps : all_fit vs ≡ false → (x : A) → W.fits x → one W.defs (TIndexApp (scalar_of (W.cell x)) is r) ≡ Trapped trap.Size
    index_traps fit x h =
        value_step (single x) (scalar_fits x h)
        ∙ (λ i. elim (all_fit (values i)) as (λ b. Move ErasedTerm) [ true ↦ index_beta_at erased_rules (values i) (W.cell x ∷ []) | false ↦ Trapped trap.Size ])
        ∙ ap (λ b. elim b as (λ b. Move ErasedTerm) [ true ↦ index_beta_at erased_rules vs (W.cell x ∷ []) | false ↦ Trapped trap.Size ]) fit

  two_atoms : {B : Type 0} (xs : List B) → suc (suc (length xs)) ≡ 1 → ⊥
  two_atoms xs e = omega arith

  pub runs_indices : (T : Ty) (env : Env A) (is : List NormIndex) (r : Word) (a : Arrayed A) → Fit W a → Each (IndexIn W env) is → WordIn W env r → W.good T (TIndexApp (val W a) (norms_in W env is) (word_in W env r))
      → Runs W K (TIndexApp (val W a) (norms_in W env is) (word_in W env r)) (ticks (over_ticks a) (begun_val W.rules enter (index_begun env.indices a (each code_index is) r)))
  runs_indices T env is r a h scoped rs g =
      subst (λ o. Runs W K (TIndexApp (val W a) (norms_in W env is) (word_in W env r)) (ticks (over_ticks a) (begun_val W.rules enter (over_begun env.indices a r (unless o (fitting vs (Maps a.dims (each (EntersIndex vs) a.atoms))))))))
      (sym (indices_ok env.indices is scoped)) (by (all_fit vs) refl)
    where
      vs : List IndexValue
      vs = each (index_under env.indices) (each code_index is)

      values : each norm_value (norms_in W env is) ≡ each (index_under env.indices) (each code_index is)
      values = indices_value env.indices is scoped

      has : SomeType W.good (val W a)
      has = W.typing.under_indices T (val W a) (norms_in W env is) (word_in W env r) g

      by : (b : Bool) → all_fit (each (index_under env.indices) (each code_index is)) ≡ b
          → Runs W K (TIndexApp (val W a) (norms_in W env is) (word_in W env r))
          (ticks (over_ticks a) (begun_val W.rules enter (over_begun env.indices a r (elim b as (λ b. Begun A) [
            | true ↦ Maps a.dims (each (EntersIndex (each (index_under env.indices) (each code_index is))) a.atoms)
            | false ↦ Halts trap.Size
          ]))))
      by true fit =
          over_comes W enter K env r rs (λ u. TIndexApp u (norms_in W env is) (word_in W env r)) (index_beta erased_rules (norms_in W env is)) (EntersIndex (each (index_under env.indices) (each code_index is)))
          (index_at (norms_in W env is) (each (index_under env.indices) (each code_index is)) values (word_in W env r) fit) T a h has g
          (value_step (norms_in W env is) (each (index_under env.indices) (each code_index is)) values (word_in W env r) a h)
      by false fit = traps a.dims a.atoms h.0 h.1 (array_full W enter K a h has) g
        where
          traps : (dims : List ℕ) (xs : List A) → forms dims ≡ true → Each W.fits xs → length xs ≡ product dims → W.good T (TIndexApp (val W (array dims xs)) (norms_in W env is) (word_in W env r))
              → Runs W K (TIndexApp (val W (array dims xs)) (norms_in W env is) (word_in W env r)) (ticks (over_ticks (array dims xs)) (begun_val W.rules enter (over_begun env.indices (array dims xs) r (Halts trap.Size))))
          traps [] [] room fits full g = absurd (let e : 0 ≡ 1 = full in omega arith)
          traps [] (x ∷ []) room fits full g =
              reduces_trap (one W.defs) (val_term W.cell) (FitArray W.bodies W.cell W.fits) trap.Size
              (index_traps (norms_in W env is) (each (index_under env.indices) (each code_index is)) values (word_in W env r) fit x fits.0)
          traps [] (x ∷ y ∷ xs) room fits full g = absurd (two_atoms xs full)
          traps (n ∷ F) xs room fits full g =
              over_frame W enter K env r rs (λ u. TIndexApp u (norms_in W env is) (word_in W env r)) (index_beta erased_rules (norms_in W env is)) (EntersIndex (each (index_under env.indices) (each code_index is))) (λ dims xs. Halts trap.Size) T n F xs g
              (value_step (norms_in W env is) (each (index_under env.indices) (each code_index is)) values (word_in W env r) (array (n ∷ F) xs) (room, fits))
              (λ some gf e. reduces_tick (one W.defs) e (first xs fits (λ z. some (sym full ∙ z))))
            where
              first : (xs : List A) → Each W.fits xs → (length xs ≡ 0 → ⊥)
                  → Runs W K (TFrame (n ∷ F) (term_list (each (λ c. TIndexApp (scalar_of c) (norms_in W env is) (word_in W env r)) (each W.cell xs))) tt) (tick (count 1 (stop trap.Size)))
              first [] fits some = absurd (some refl)
              first (x ∷ xs) fits some =
                  reduces_trap (one W.defs) (val_term W.cell) (FitArray W.bodies W.cell W.fits) trap.Size
                  ((in_frame_first W.defs (n ∷ F) (term_list (each (λ c. TIndexApp (scalar_of c) (norms_in W env is) (word_in W env r)) (each W.cell xs)))).traps
                  (TIndexApp (scalar_of (W.cell x)) (norms_in W env is) (word_in W env r)) trap.Size
                  (index_traps (norms_in W env is) (each (index_under env.indices) (each code_index is)) values (word_in W env r) fit x fits.0))
