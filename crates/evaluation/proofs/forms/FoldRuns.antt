-- The turns of a fold are the reduction of its nested applications, from the innermost.
use Rattle.std.proofs.Common.{◌≡◌, refl, sym, ◌∙◌, ℕ, suc, Bool, List, [], ◌∷◌}
use Rattle.core_syntax.specs.Syntax.{Ty}
use Rattle.core_syntax.specs.Lists.{each, Each}
use Rattle.core_syntax.specs.Word.{Word}
use Rattle.core_syntax.specs.Arrays.{Arrayed}
use Rattle.core_syntax.specs.Terms.{TApp, no_terms, more_terms, scalar_of}
use Rattle.core_syntax.specs.Move.{Trapped, Goes}
use Rattle.core_syntax.specs.Rules.{fold_term}
use Rattle.core_syntax.specs.NormPut.{word_value}
use Rattle.erasure.specs.Erased.{ErasedTerm, erased_rules}
use Rattle.machine_table.specs.Values.{Env}
use Rattle.machine_table.specs.Begins.{Entry, Refuses, Enters, Answers, Faults, Folds, apply_entry}
use Rattle.lowering.specs.Runs.{Comp, lost}
use Rattle.lowering.specs.Evals.{hand_over, entry_val, turns}
use Rattle.evaluation.specs.Plugged.{val_term}
use Rattle.evaluation.specs.Typing.{SomeType}
use Rattle.evaluation.specs.Setting.{Setting}
use Rattle.evaluation.proofs.steps.Reduces.{Reduces, Inside, inside_both, itself, reduces_push, reduces_count, reduces_enter, reduces_tick, reduces_trap, reduces_then, reduces_inside, reduces_keeps}
use Rattle.evaluation.proofs.steps.Contexts.{one, some, in_first, in_arguments}
use Rattle.evaluation.proofs.steps.Rests.{dims_are, array_rests}
use Rattle.evaluation.proofs.forms.Comes.{val, vals, Fit, FitOf, Comes}
use Rattle.evaluation.proofs.steps.Collapsed.{value_rests}
use Rattle.evaluation.proofs.forms.MapRuns.{FitsAnd, Takes}

module _ {A : Type 0} (W : Setting A) (enter : Env A → ℕ → Comp (Arrayed A)) (K : ℕ) where
  -- a term of a type steps as a turn's entry says, which begins no other fold
  abbrev pub TurnsAs : Ty → ErasedTerm → Entry A → Type 0
  TurnsAs U t (Refuses k) = ⊥
  TurnsAs U t (Enters env b) = (u : ErasedTerm) × (one W.defs t ≡ Goes u) × Reduces (one W.defs) K u (val_term W.cell) (FitOf W U) (enter env b)
  TurnsAs U t (Answers a) = (one W.defs t ≡ Goes (val W a)) × Fit W a
  TurnsAs U t (Faults k) = one W.defs t ≡ Trapped k
  TurnsAs U t (Folds f acc xs) = ⊥

  turn_comes : (U : Ty) (t : ErasedTerm) (x : Entry A) → W.good U t → TurnsAs U t x → Comes W K U t (entry_val W.rules enter (λ f acc xs. lost) hand_over x)
  turn_comes U t (Refuses k) g h = absurd h
  turn_comes U t (Enters env b) g h = reduces_enter (one W.defs) h.1 (reduces_count (one W.defs) 1 (reduces_then (one W.defs) h.2 (λ a p. reduces_push (one W.defs) (val W a) (val_term W.cell) (FitOf W U) a refl p)))
  turn_comes U t (Answers a) g h = reduces_tick (one W.defs) h.0 (reduces_push (one W.defs) (val W a) (val_term W.cell) (FitOf W U) a refl (h.1, W.typing.keeps U t (val W a) g h.0))
  turn_comes U t (Faults k) g h = reduces_trap (one W.defs) (val_term W.cell) (FitOf W U) k h
  turn_comes U t (Folds f acc xs) g h = absurd h

  module _ (f : A) (fits : W.fits f) (cs : List Word) (r : Word) where
    -- the nested applications, and one of them
    abbrev nested : ErasedTerm → List (Arrayed A) → ErasedTerm
    nested t xs = fold_term erased_rules (W.cell f) cs r t (vals W xs)

    abbrev pub turn_term : ErasedTerm → Arrayed A → ErasedTerm
    turn_term t x = TApp (scalar_of (W.cell f)) (more_terms t (more_terms (val W x) no_terms)) cs r

    -- the accumulator's place in the nested applications
    in_fold : (xs : List (Arrayed A)) → Inside (one W.defs) (one W.defs) (λ u. nested u xs)
    in_fold [] = itself (one W.defs)
    in_fold (x ∷ xs) =
        inside_both (one W.defs) (one W.defs) (one W.defs) (λ u. turn_term u x) (λ u. nested u xs)
        (inside_both (one W.defs) (some W.defs) (one W.defs) (λ u. more_terms u (more_terms (val W x) no_terms)) (λ us. TApp (scalar_of (W.cell f)) us cs r) (in_first W.defs (more_terms (val W x) no_terms))
        (in_arguments W.defs (scalar_of (W.cell f)) cs r (array_rests W.defs [] (W.cell f ∷ []) (W.reads.rests W.defs f fits, tt))))
        (in_fold xs)

    -- the accumulator has a type
    fold_part : (T : Ty) (xs : List (Arrayed A)) (t : ErasedTerm) → W.good T (nested t xs) → SomeType W.good t
    fold_part T [] t g = (T, g)
    fold_part T (x ∷ xs) t g =
        let whole = fold_part T xs (turn_term t x) g in
        (W.typing.arguments whole.0 (scalar_of (W.cell f)) (more_terms t (more_terms (val W x) no_terms)) cs r whole.1).0

    -- the accumulator and an item have these dims
    module _ (acc_dims item_dims : List ℕ) (result_is : word_value r ≡ acc_dims)
        (dims_after : (U : Ty) (acc x : Arrayed A) → Fit W acc → Fit W x → acc.dims ≡ acc_dims → x.dims ≡ item_dims → W.good U (turn_term (val W acc) x) → W.type_dims U ≡ word_value r)
        (steps : (U : Ty) (acc x : Arrayed A) → Fit W acc → Fit W x → acc.dims ≡ acc_dims → x.dims ≡ item_dims → W.good U (turn_term (val W acc) x) → TurnsAs U (turn_term (val W acc) x) (apply_entry W.rules f (acc ∷ x ∷ [])))
      where
        -- from the turns' applications
        pub turns_come : (T : Ty) (C : ErasedTerm → ErasedTerm) (J : Arrayed A → ErasedTerm) (q : Arrayed A → Bool) (hand : Arrayed A → Comp (Arrayed A)) → Inside (one W.defs) (one W.defs) C → Takes W enter K T C J q hand
            → (acc : Arrayed A) → Fit W acc → acc.dims ≡ acc_dims → (xs : List (Arrayed A)) → Each (λ x. Fit W x × (x.dims ≡ item_dims)) xs → W.good T (nested (val W acc) xs)
            → Reduces (one W.defs) (suc K) (C (nested (val W acc) xs)) J (FitsAnd W enter K T q) (turns W.rules enter hand f acc xs)
        turns_come T C J q hand inside takes acc fit e [] all g = takes acc (fit, g)
        turns_come T C J q hand inside takes acc fit e (x ∷ xs) all g =
            let whole = fold_part T xs (turn_term (val W acc) x) g in
            let turn = turn_comes whole.0 (turn_term (val W acc) x) (apply_entry W.rules f (acc ∷ x ∷ [])) whole.1 (steps whole.0 acc x fit all.0.0 e all.0.1 whole.1) in
            let dims = dims_after whole.0 acc x fit all.0.0 e all.0.1 whole.1 in
            reduces_then (one W.defs)
            (reduces_inside (one W.defs) (one W.defs) C inside
            (reduces_keeps (one W.defs) (W.good T) (W.typing.keeps T) g (reduces_inside (one W.defs) (one W.defs) (λ u. nested u xs) (in_fold xs) turn)))
            (λ a p. turns_come T C J q hand inside takes a p.0.0
            (sym (dims_are a.dims (each W.cell a.atoms)) ∙ W.typing.value_dims whole.0 (val W a) p.0.1 (value_rests W a p.0.0) ∙ dims ∙ result_is) xs all.1 p.1)
