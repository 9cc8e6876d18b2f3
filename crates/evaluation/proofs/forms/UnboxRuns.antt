-- The rules of an `unbox` and a box: what each comes to on values is its reduction.
use Rattle.std.proofs.Common.{◌≡◌, refl, sym, ap, subst, ◌∙◌, ℕ, suc, Bool, true, false, List, [], ◌∷◌, length, Some, None}
use Rattle.core_syntax.specs.declared.errors.TrapKind.TheVariants as trap
use Rattle.core_syntax.specs.declared.errors.StuckKind.TheVariants as stuck
use Rattle.core_syntax.specs.declared.norm.NormIndex.{NormIndex}
use Rattle.core_syntax.specs.Syntax.{Ty}
use Rattle.core_syntax.specs.Lists.{onto, each, Each}
use Rattle.core_syntax.specs.Word.{Word}
use Rattle.core_syntax.specs.Fits.{all_fit}
use Rattle.core_syntax.specs.Subst.{put_first, put_all}
use Rattle.core_syntax.specs.Arrays.{Arrayed, single}
use Rattle.core_syntax.specs.Terms.{IndexValue, TUnbox, Cell, TBoxed, no_cells, more_cells, scalar_of}
use Rattle.core_syntax.specs.TermPut.{term_put, terms_under}
use Rattle.core_syntax.specs.Move.{Move, Rests, Trapped, Goes, Lost, first_move}
use Rattle.core_syntax.specs.Rules.{unbox_one, over_value, box_rests}
use Rattle.core_syntax.specs.NormPut.{value_norm}
use Rattle.erasure.specs.Erased.{erased, ErasedTerm, erased_rules}
use Rattle.array_values.specs.declared.closure.CloseKind.TheVariants as close
use Rattle.machine_table.specs.Values.{Env, Atom, IntAtom, BoolAtom, CharAtom, PrimAtom, Closure, BoxAtom, with_arrays, with_indices}
use Rattle.machine_table.specs.Indices.{index_under, code_index}
use Rattle.machine_table.specs.Begins.{EntersBox, Entry, Refuses, Enters, box_atom, place_entry}
use Rattle.machine_table.specs.Instructions.{unbox_begun}
use Rattle.lowering.specs.Lower.{body_at, bodies_in}
use Rattle.lowering.specs.Runs.{Comp, give, tick, ticks, count, stop, lost}
use Rattle.lowering.specs.Evals.{entered, over_ticks, fitting_box, box_val, begun_val}
use Rattle.evaluation.specs.Plugged.{env_terms, atom_cell}
use Rattle.evaluation.specs.Scoped.{bound, with_values, Scoped}
use Rattle.evaluation.specs.Lawful.{FitAtom, FitEnv, Stand}
use Rattle.evaluation.specs.Setting.{Setting}
use Rattle.evaluation.proofs.steps.Reduces.{Reduces, reduces_push, reduces_trap}
use Rattle.evaluation.proofs.steps.Contexts.{one, one_cell}
use Rattle.evaluation.proofs.steps.Rests.{norms_back}
use Rattle.evaluation.proofs.environments.Entered.{length_each, enters_box}
use Rattle.evaluation.proofs.environments.Rescoped.{rescoped}
use Rattle.evaluation.proofs.environments.Indices.{indices_ok, indices_gone}
use Rattle.evaluation.proofs.forms.Comes.{val, Fit, word_in, norms_in, WordIn, IndexIn, Runs, EntersWell}
use Rattle.evaluation.proofs.steps.Collapsed.{value_rests}
use Rattle.evaluation.proofs.forms.Leaves.{made_is, same_count}
use Rattle.evaluation.proofs.forms.MapRuns.{StepsAs}
use Rattle.evaluation.proofs.forms.BindRuns.{body_comes}
use Rattle.evaluation.proofs.forms.OverRuns.{over_comes}

module _ {A : Type 0} (W : Setting A) (enter : Env A → ℕ → Comp (Arrayed A)) (K : ℕ) (enters : EntersWell W K enter) where
  -- ---- `unbox`

  module _ (env : Env A) (k j n : ℕ) (b : ErasedTerm) (r : Word) (at : entered W.bodies k ≡ Some (body_at j b)) (placed : Stand W.bodies j (bodies_in j b)) (scoped : Scoped false (bound n (with_values env.indices)) b)
      (fits : FitEnv W.bodies W.cell W.fits env) where
    -- the body with the environment in place
    abbrev inner : ErasedTerm
    inner = term_put erased_rules (erased_rules.under_sorts n (put_first env.indices)) (terms_under 1 (env_terms W.cell env)) b

    abbrev unbox_term : ErasedTerm → ErasedTerm
    unbox_term u = TUnbox n u (term_put erased_rules (erased_rules.under_sorts n (put_first env.indices)) (terms_under 1 (env_terms W.cell env)) b) (word_in W env r)

    lost_at : (U : Ty) (c : Cell erased) → W.good U (unbox_term (scalar_of c))
        → one W.defs (unbox_term (scalar_of c)) ≡ Lost → ⊥
    lost_at U c g e = W.typing.never_lost U (unbox_term (scalar_of c)) g e

    unbox_steps : (U : Ty) (y : Atom A) → FitAtom W.bodies W.cell W.fits y
        → W.good U (unbox_term (scalar_of (atom_cell W.cell W.bodies y)))
        → one W.defs (unbox_term (scalar_of (atom_cell W.cell W.bodies y)))
        ≡ unbox_one erased_rules inner (atom_cell W.cell W.bodies y ∷ [])
        → StepsAs W enter K U (unbox_term (scalar_of (atom_cell W.cell W.bodies y))) (box_atom W.rules k n env y)
    unbox_steps U (IntAtom z) h g e = absurd (lost_at U (atom_cell W.cell W.bodies (IntAtom z)) g e)
    unbox_steps U (BoolAtom z) h g e = absurd (lost_at U (atom_cell W.cell W.bodies (BoolAtom z)) g e)
    unbox_steps U (CharAtom z) h g e = absurd (lost_at U (atom_cell W.cell W.bodies (CharAtom z)) g e)
    unbox_steps U (PrimAtom q true is) h g e = absurd (lost_at U (atom_cell W.cell W.bodies (PrimAtom q true is)) g e)
    unbox_steps U (PrimAtom q false is) h g e = absurd (lost_at U (atom_cell W.cell W.bodies (PrimAtom q false is)) g e)
    unbox_steps U (Closure close.Fn c m env') h g e = absurd (lost_at U (atom_cell W.cell W.bodies (Closure close.Fn c m env')) g e)
    unbox_steps U (Closure close.TypeFn c m env') h g e = absurd (lost_at U (atom_cell W.cell W.bodies (Closure close.TypeFn c m env')) g e)
    unbox_steps U (Closure close.IndexFn c m env') h g e = absurd (lost_at U (atom_cell W.cell W.bodies (Closure close.IndexFn c m env')) g e)
    unbox_steps U (BoxAtom js a) h g e =
        let c = atom_cell W.cell W.bodies (BoxAtom js a) in
        let back = norms_back js in
        let count : n ≡ length js = W.typing.unbox_count U n (each value_norm js) (val W a) inner (word_in W env r) g ∙ length_each value_norm js in
        let scope : Scoped true (with_values (onto js [])) inner = subst (λ ws. Scoped true (with_values (onto ws [])) inner) back (W.typing.unbox_scope U n (each value_norm js) (val W a) inner (word_in W env r) g) in
        let box_has = W.typing.under_unbox U n (scalar_of c) inner (word_in W env r) g in
        let has = (W.typing.contents box_has.0 [] (more_cells c no_cells) box_has.1).0 in
        subst (λ o. StepsAs W enter K U (unbox_term (scalar_of c))
        (elim o as (λ b. Entry A) [ true ↦ Enters (with_arrays (a ∷ []) (with_indices js env)) k | false ↦ Refuses stuck.Operand ])) (sym (same_count n (length js) count))
        (body_comes W enter K enters U (unbox_term (scalar_of c))
        (with_arrays (a ∷ []) (with_indices js env)) k (body_at j b) at placed (rescoped n js env.indices (terms_under 1 (env_terms W.cell env)) b count scoped scope) ((h.1, W.typing.closed has.0 (val W a) has.1), fits) g
        (e ∙ ap (λ ws. Goes (term_put erased_rules (put_all ws) (put_first (val W a ∷ [])) inner)) back ∙ ap Goes (enters_box W.bodies W.cell W.fits n js a env b count fits scoped)))

    -- the step of a value that is opened
    value_step : (a : Arrayed A) → Fit W a
        → one W.defs (unbox_term (val W a))
        ≡ over_value erased_rules (val W a) unbox_term
        (unbox_one erased_rules inner) (word_in W env r)
    value_step a h = ap (λ m. first_move m unbox_term (over_value erased_rules (val W a) unbox_term (unbox_one erased_rules inner) (word_in W env r))) (value_rests W a h)

    unbox_at : (U : Ty) (x : A) → W.fits x
        → W.good U (unbox_term (scalar_of (W.cell x)))
        → StepsAs W enter K U (unbox_term (scalar_of (W.cell x))) (place_entry W.rules (EntersBox k n env x))
    unbox_at U x h g =
        let is = W.reads.cells x in
        subst (λ c. StepsAs W enter K U (unbox_term (scalar_of c)) (box_atom W.rules k n env (W.rules.parts x))) (sym is)
        (unbox_steps U (W.rules.parts x) (W.reads.fit_parts x h) (subst (λ c. W.good U (unbox_term (scalar_of c))) is g)
        (subst (λ c. one W.defs (unbox_term (scalar_of c)) ≡ unbox_one erased_rules inner (c ∷ [])) is (value_step (single x) (refl, (h, tt)))))

    pub runs_unbox : (T : Ty) (a : Arrayed A) → Fit W a → WordIn W env r
        → W.good T (unbox_term (val W a))
        → Runs W K (unbox_term (val W a))
        (ticks (over_ticks a) (begun_val W.rules enter (unbox_begun env a k n r)))
    runs_unbox T a h rs g =
        over_comes W enter K env r rs unbox_term (unbox_one erased_rules inner) (EntersBox k n env) unbox_at T a h (W.typing.under_unbox T n (val W a) inner (word_in W env r) g) g (value_step a h)

  -- ---- a box

  pub runs_box : (env : Env A) (js : List NormIndex) (a : Arrayed A) → Fit W a → Each (IndexIn W env) js
      → Reduces (one_cell W.defs) (suc K) (TBoxed (norms_in W env js) (val W a) tt) W.cell W.fits (box_val W.rules env.indices (each code_index js) a)
  runs_box env js a h scoped =
      subst (λ o. Reduces (one_cell W.defs) (suc K) (TBoxed (norms_in W env js) (val W a) tt) W.cell W.fits (elim o as (λ o. Comp A) [ Some k ↦ lost | None ↦ fitting_box W.rules (each (index_under env.indices) (each code_index js)) a ]))
      (sym (indices_ok env.indices js scoped))
      (subst (λ is. Reduces (one_cell W.defs) (suc K) (TBoxed is (val W a) tt) W.cell W.fits (fitting_box W.rules (each (index_under env.indices) (each code_index js)) a)) (sym (indices_gone env.indices js scoped))
      (by (each (index_under env.indices) (each code_index js)) (all_fit (each (index_under env.indices) (each code_index js))) refl))
    where
      by : (vs : List IndexValue) (b : Bool) → all_fit vs ≡ b
          → Reduces (one_cell W.defs) (suc K) (TBoxed (each value_norm vs) (val W a) tt) W.cell W.fits (elim b as (λ b. Comp A) [ true ↦ count 1 (give (W.rules.made (BoxAtom vs a))) | false ↦ tick (count 1 (stop trap.Size)) ])
      by vs true e =
          reduces_push (one_cell W.defs) (TBoxed (each value_norm vs) (val W a) tt) W.cell W.fits (W.rules.made (BoxAtom vs a)) (sym (made_is W enter K (BoxAtom vs a))) (W.reads.fit_made (BoxAtom vs a) (e, h))
      by vs false e =
          reduces_trap (one_cell W.defs) W.cell W.fits trap.Size
          (ap (λ m. first_move m (λ u. TBoxed (each value_norm vs) u tt) (box_rests erased_rules (each value_norm vs))) (value_rests W a h)
          ∙ ap (λ ws. elim (all_fit ws) as (λ b. Move (Cell erased)) [ true ↦ Rests | false ↦ Trapped trap.Size ]) (norms_back vs)
          ∙ ap (λ b. elim b as (λ b. Move (Cell erased)) [ true ↦ Rests | false ↦ Trapped trap.Size ]) e)
