-- The rules of a definition, a `t-app`, an `i-app`, an `unbox` and a box: what each comes to on values is its reduction.
use Rattle.std.proofs.Common.{◌≡◌, refl, sym, ap, subst, ◌∙◌, ℕ, suc, true, false, [], ◌∷◌, Option, Some, None}
use Rattle.std.specs.Prelude.{slice_get}
use Rattle.core_syntax.specs.declared.errors.StuckKind.TheVariants as stuck
use Rattle.core_syntax.specs.Syntax.{Ty}
use Rattle.core_syntax.specs.Word.{Word}
use Rattle.core_syntax.specs.Subst.{kept, put_first}
use Rattle.core_syntax.specs.Arrays.{Arrayed, single}
use Rattle.core_syntax.specs.Terms.{TDef, TTypeApp, TPrim, scalar_of}
use Rattle.core_syntax.specs.TermPut.{term_put}
use Rattle.core_syntax.specs.Move.{Rests, Goes, first_move, if_there}
use Rattle.core_syntax.specs.Rules.{type_beta, over_value}
use Rattle.erasure.specs.Erased.{ErasedTerm, erased_rules}
use Rattle.array_values.specs.declared.closure.CloseKind.TheVariants as close
use Rattle.machine_table.specs.Values.{Env, Atom, IntAtom, BoolAtom, CharAtom, PrimAtom, Closure, BoxAtom, no_env}
use Rattle.machine_table.specs.Begins.{EntersType, Entry, Refuses, Enters, Answers, type_atom, place_entry}
use Rattle.machine_table.specs.Instructions.{type_begun}
use Rattle.lowering.specs.Lower.{Body, body_at, bodies_in}
use Rattle.lowering.specs.Runs.{Comp, ◌then_run◌, tick, ticks, count}
use Rattle.lowering.specs.Evals.{entered, hand_over, over_ticks, begun_val}
use Rattle.evaluation.specs.Plugged.{val_term, term_of, atom_cell, plugged}
use Rattle.evaluation.specs.Scoped.{with_values, Scoped}
use Rattle.evaluation.specs.Lawful.{FitArray, FitAtom, FitEnv, Stand}
use Rattle.evaluation.specs.Setting.{Setting}
use Rattle.evaluation.proofs.steps.Reduces.{reduces_push, reduces_count, reduces_enter, reduces_then}
use Rattle.evaluation.proofs.steps.Contexts.{one}
use Rattle.evaluation.proofs.steps.Rests.{array_rests}
use Rattle.evaluation.proofs.environments.Puts.{put_kept}
use Rattle.evaluation.proofs.environments.Entered.{enters_types}
use Rattle.evaluation.proofs.forms.Comes.{val, Fit, word_in, WordIn, Runs, EntersWell}
use Rattle.evaluation.proofs.steps.Collapsed.{value_rests}
use Rattle.evaluation.proofs.forms.Leaves.{made_is}
use Rattle.evaluation.proofs.forms.MapRuns.{StepsAs}
use Rattle.evaluation.proofs.forms.OverRuns.{over_comes}

module _ {A : Type 0} (W : Setting A) (enter : Env A → ℕ → Comp (Arrayed A)) (K : ℕ) (enters : EntersWell W K enter) where
  -- a body that is entered
  pub body_comes : (U : Ty) (t : ErasedTerm) (env : Env A) (b : ℕ) (body : Body) → entered W.bodies b ≡ Some body → Stand W.bodies body.first (bodies_in body.first body.term) → Scoped false (with_values env.indices) body.term
      → FitEnv W.bodies W.cell W.fits env → W.good U t → one W.defs t ≡ Goes (plugged W.cell env body.term) → StepsAs W enter K U t (Enters env b)
  body_comes U t env b body at placed scoped fits g e = (plugged W.cell env body.term, e, enters.well U env b body at placed scoped fits (W.typing.keeps U t (plugged W.cell env body.term) g e))

  -- ---- a definition

  pub runs_def : (T : Ty) (j : ℕ) → W.good T (TDef j) → Runs W K (TDef j) (tick (count 1 (enter no_env (suc j) then_run hand_over)))
  runs_def T j g = by (slice_get W.defs j) refl
    where
      by : (o : Option ErasedTerm) → slice_get W.defs j ≡ o → Runs W K (TDef j) (tick (count 1 (enter no_env (suc j) then_run hand_over)))
      by None e = absurd (W.typing.never_lost T (TDef j) g (ap (λ o. if_there o (λ t. Goes t)) e))
      by (Some t) e =
          let d = W.defined j t e in
          let stays : plugged W.cell no_env t ≡ t = put_kept false [] (put_first []) (put_first []) (λ k. refl) (λ k. refl) t d.3 in
          let step : one W.defs (TDef j) ≡ Goes (plugged W.cell no_env t) = ap (λ o. if_there o (λ t. Goes t)) e ∙ ap Goes (sym stays) in
          reduces_enter (one W.defs) step
          (reduces_count (one W.defs) 1
          (reduces_then (one W.defs) (enters.well T no_env (suc j) (body_at d.0 t) d.1 d.2 d.3 tt (W.typing.keeps T (TDef j) (plugged W.cell no_env t) g step))
          (λ a p. reduces_push (one W.defs) (val W a) (val_term W.cell) (FitArray W.bodies W.cell W.fits) a refl p.0)))

  -- ---- an atom of a scalar array

  atom_rests : (x : A) → W.fits x → one W.defs (scalar_of (W.cell x)) ≡ Rests
  atom_rests x h = array_rests W.defs [] (W.cell x ∷ []) (W.reads.rests W.defs x h, tt)

  -- a primitive that is made, as a scalar
  made_scalar : (x : Atom A) → scalar_of (atom_cell W.cell W.bodies x) ≡ val W (single (W.rules.made x))
  made_scalar x = ap scalar_of (sym (made_is W enter K x))

  -- ---- `t-app`

  module _ (env : Env A) (r : Word) where
    types_form : ErasedTerm → ErasedTerm
    types_form u = TTypeApp u tt (word_in W env r)

    type_steps : (U : Ty) (y : Atom A) → FitAtom W.bodies W.cell W.fits y → W.good U (TTypeApp (scalar_of (atom_cell W.cell W.bodies y)) tt (word_in W env r))
        → one W.defs (TTypeApp (scalar_of (atom_cell W.cell W.bodies y)) tt (word_in W env r)) ≡ type_beta erased_rules tt (atom_cell W.cell W.bodies y ∷ [])
        → StepsAs W enter K U (TTypeApp (scalar_of (atom_cell W.cell W.bodies y)) tt (word_in W env r)) (type_atom W.rules y)
    type_steps U (IntAtom z) h g e = absurd (W.typing.never_lost U (TTypeApp (scalar_of (atom_cell W.cell W.bodies (IntAtom z))) tt (word_in W env r)) g e)
    type_steps U (BoolAtom z) h g e = absurd (W.typing.never_lost U (TTypeApp (scalar_of (atom_cell W.cell W.bodies (BoolAtom z))) tt (word_in W env r)) g e)
    type_steps U (CharAtom z) h g e = absurd (W.typing.never_lost U (TTypeApp (scalar_of (atom_cell W.cell W.bodies (CharAtom z))) tt (word_in W env r)) g e)
    type_steps U (BoxAtom is a) h g e = absurd (W.typing.never_lost U (TTypeApp (scalar_of (atom_cell W.cell W.bodies (BoxAtom is a))) tt (word_in W env r)) g e)
    type_steps U (PrimAtom p true None) h g e = absurd (W.typing.never_lost U (TTypeApp (scalar_of (atom_cell W.cell W.bodies (PrimAtom p true None))) tt (word_in W env r)) g e)
    type_steps U (PrimAtom p true (Some is)) h g e = absurd (W.typing.never_lost U (TTypeApp (scalar_of (atom_cell W.cell W.bodies (PrimAtom p true (Some is)))) tt (word_in W env r)) g e)
    type_steps U (PrimAtom p false (Some is)) h g e = absurd (W.typing.never_lost U (TTypeApp (scalar_of (atom_cell W.cell W.bodies (PrimAtom p false (Some is)))) tt (word_in W env r)) g e)
    type_steps U (PrimAtom p false None) h g e =
        subst (λ b. StepsAs W enter K U (TTypeApp (scalar_of (TPrim p None None)) tt (word_in W env r)) (elim b as (λ b. Entry A) [ true ↦ Answers (single (W.rules.made (PrimAtom p true None))) | false ↦ Refuses stuck.Kind ]))
        (sym (W.typing.typed_prim U p (word_in W env r) g)) (e ∙ ap Goes (made_scalar (PrimAtom p true None)), (refl, (W.reads.fit_made (PrimAtom p true None) tt, tt)))
    type_steps U (Closure close.Fn b n env') h g e = absurd (W.typing.never_lost U (TTypeApp (scalar_of (atom_cell W.cell W.bodies (Closure close.Fn b n env'))) tt (word_in W env r)) g e)
    type_steps U (Closure close.IndexFn b n env') h g e = absurd (W.typing.never_lost U (TTypeApp (scalar_of (atom_cell W.cell W.bodies (Closure close.IndexFn b n env'))) tt (word_in W env r)) g e)
    type_steps U (Closure close.TypeFn b n env') h g e =
        let opens = h.0 in
        body_comes U (TTypeApp (scalar_of (atom_cell W.cell W.bodies (Closure close.TypeFn b n env'))) tt (word_in W env r)) env' b opens.0 opens.1 opens.2 opens.3 h.1 g
        (e ∙ ap (λ o. Goes (term_put erased_rules kept kept (plugged W.cell env' (term_of o)))) opens.1 ∙ ap Goes (enters_types W.bodies W.cell W.fits env' opens.0.term h.1 opens.3))

    type_at : (U : Ty) (x : A) → W.fits x → W.good U (TTypeApp (scalar_of (W.cell x)) tt (word_in W env r)) → StepsAs W enter K U (TTypeApp (scalar_of (W.cell x)) tt (word_in W env r)) (place_entry W.rules (EntersType x))
    type_at U x h g =
        let is = W.reads.cells x in
        let step : one W.defs (TTypeApp (scalar_of (W.cell x)) tt (word_in W env r)) ≡ type_beta erased_rules tt (W.cell x ∷ []) =
        ap (λ m. first_move m (λ u. TTypeApp u tt (word_in W env r)) (over_value erased_rules (scalar_of (W.cell x)) (λ a. TTypeApp a tt (word_in W env r)) (type_beta erased_rules tt) (word_in W env r))) (atom_rests x h) in
        subst (λ c. StepsAs W enter K U (TTypeApp (scalar_of c) tt (word_in W env r)) (type_atom W.rules (W.rules.parts x))) (sym is)
        (type_steps U (W.rules.parts x) (W.reads.fit_parts x h) (subst (λ c. W.good U (TTypeApp (scalar_of c) tt (word_in W env r))) is g)
        (subst (λ c. one W.defs (TTypeApp (scalar_of c) tt (word_in W env r)) ≡ type_beta erased_rules tt (c ∷ [])) is step))

  pub runs_types : (T : Ty) (env : Env A) (r : Word) (a : Arrayed A) → Fit W a → WordIn W env r → W.good T (TTypeApp (val W a) tt (word_in W env r))
      → Runs W K (TTypeApp (val W a) tt (word_in W env r)) (ticks (over_ticks a) (begun_val W.rules enter (type_begun env.indices a r)))
  runs_types T env r a h scoped g =
      over_comes W enter K env r scoped (λ u. TTypeApp u tt (word_in W env r)) (type_beta erased_rules tt) EntersType (type_at env r) T a h (W.typing.under_types T (val W a) (word_in W env r) g) g
      (ap (λ m. first_move m (λ u. TTypeApp u tt (word_in W env r)) (over_value erased_rules (val W a) (λ a. TTypeApp a tt (word_in W env r)) (type_beta erased_rules tt) (word_in W env r))) (value_rests W a h))
