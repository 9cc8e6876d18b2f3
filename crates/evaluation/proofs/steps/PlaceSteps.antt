-- `reduce` and `fold` on cells: the fold that each begins is what its application steps to; and so what any atom on cells begins.
use Rattle.std.proofs.Common.{◌≡◌, refl, sym, ap, subst, ◌∙◌, ℕ, ◌+◌, Bool, true, false, List, [], ◌∷◌, ◌++◌, Option, Some, None, append-nil}
use Rattle.std.specs.Prelude.{option_map}
use Rattle.core_syntax.specs.declared.primitive.Primitive.{Primitive}
use Rattle.core_syntax.specs.declared.primitive.Primitive.TheVariants as p
use Rattle.core_syntax.specs.Syntax.{Ty}
use Rattle.core_syntax.specs.Lists.{each, Each, product}
use Rattle.core_syntax.specs.Word.{Word}
use Rattle.core_syntax.specs.Prims.{prim_type}
use Rattle.core_syntax.specs.Arrays.{Arrayed, array, runs}
use Rattle.core_syntax.specs.Answer as answers
use Rattle.core_syntax.specs.Answer.{Answer}
use Rattle.core_syntax.specs.Delta.{delta}
use Rattle.core_syntax.specs.Terms.{IndexValue, DimValue, ShapeValue, TApp, term_list, Cell, TPrim, scalar_of}
use Rattle.core_syntax.specs.Move.{Goes}
use Rattle.core_syntax.specs.Rules.{fold_term, goes_fold}
use Rattle.core_syntax.specs.NormPut.{value_norm, word_value, norm_letters_of, number_letters}
use Rattle.erasure.specs.Erased.{erased, ErasedTerm, erased_rules}
use Rattle.core_syntax.specs.DeltaStuck.{given_values, have_sorts, row_sorts, row_inputs, row_valuation}
use Rattle.naturality.specs.WholeArrays.{IsWhole, IsWholeAnswer}
use Rattle.naturality.specs.Respects.{arr}
use Rattle.naturality.proofs.Suited.{Suits, suits_row}
use Rattle.naturality.proofs.DeltaWhole.{delta_whole}
use Rattle.machine_table.specs.Values as values
use Rattle.machine_table.specs.Values.{Env, Atom, PrimAtom}
use Rattle.machine_table.specs.Begins.{Entry, Refuses, Enters, Answers, Faults, Folds, answer_entry, apply_entry}
use Rattle.lowering.specs.Runs.{Comp}
use Rattle.evaluation.specs.Plugged.{norm_values, atom_cell}
use Rattle.evaluation.specs.Typing.{CellsOnly}
use Rattle.evaluation.specs.Setting.{Setting}
use Rattle.evaluation.proofs.steps.Contexts.{one}
use Rattle.evaluation.proofs.forms.Comes.{val, vals, Fit, EntersWell}
use Rattle.evaluation.proofs.forms.MapRuns.{StepsAs}
use Rattle.evaluation.proofs.forms.PrimRuns.{types_note, AppliesAs, FoldSteps, applies}
use Rattle.evaluation.proofs.forms.FoldEntries.{FoldOf, fold_of, items_fit, items_are, not_reduce_is, fold_steps}
use Rattle.evaluation.proofs.forms.DeltaFits.{AnswerFits, IsHeldArray, IsFolding, all_runs}
use Rattle.evaluation.proofs.forms.DeltaFitRows.{delta_fits}

letters_back : (ns : List ℕ) → word_value (number_letters ns) ≡ ns
letters_back [] = refl
letters_back (n ∷ ns) = ap (λ z. n ∷ z) (letters_back ns)

-- a Shape among the index arguments
abbrev IsShape : IndexValue → List ℕ → Type 0
IsShape v s = word_value (norm_letters_of (value_norm v)) ≡ s

tail_is : (m n : ℕ) (s t : List ℕ) → m ∷ s ≡ n ∷ t → s ≡ t
tail_is m n s t e = cc

module _ {A : Type 0} (W : Setting A) where
  -- the items of a reduce have the dims of its Shape
  reduce_dims : (dv sv : IndexValue) (fa it : Arrayed A) (n : ℕ) (s : List ℕ) → Suits (values.atom_rules W.rules) (row_valuation (dv ∷ sv ∷ [])) (row_inputs (prim_type p.Reduce)) (fa ∷ it ∷ [])
      → have_sorts (row_sorts (prim_type p.Reduce)) (dv ∷ sv ∷ []) ≡ true → it.dims ≡ n ∷ s → IsShape sv s
  reduce_dims (DimValue d) (ShapeValue ns) fa it n s suits sorts e = letters_back ns ∙ sym (append-nil ns) ∙ tail_is (1 + (d + 0)) n (ns ++ []) s (suits.2.1 ∙ e)
  reduce_dims (DimValue d) (DimValue m) fa it n s suits sorts e = absurd (cc)
  reduce_dims (ShapeValue t) sv fa it n s suits sorts e = absurd (cc)

  -- those of a fold, and its first accumulator those of the other
  fold_dims : (dv sv rv : IndexValue) (fa z it : Arrayed A) (n : ℕ) (s : List ℕ) → Suits (values.atom_rules W.rules) (row_valuation (dv ∷ sv ∷ rv ∷ [])) (row_inputs (prim_type p.Fold)) (fa ∷ z ∷ it ∷ [])
      → have_sorts (row_sorts (prim_type p.Fold)) (dv ∷ sv ∷ rv ∷ []) ≡ true → it.dims ≡ n ∷ s → IsShape sv s × IsShape rv z.dims
  fold_dims (DimValue d) (ShapeValue ns) (ShapeValue rs) fa z it n s suits sorts e = (letters_back ns ∙ sym (append-nil ns) ∙ tail_is d n (ns ++ []) s (suits.2.2.1 ∙ e), letters_back rs ∙ suits.2.1)
  fold_dims (DimValue d) (ShapeValue ns) (DimValue m) fa z it n s suits sorts e = absurd (cc)
  fold_dims (DimValue d) (DimValue m) rv fa z it n s suits sorts e = absurd (cc)
  fold_dims (ShapeValue t) sv rv fa z it n s suits sorts e = absurd (cc)

module _ {A : Type 0} (W : Setting A) (enter : Env A → ℕ → Comp (Arrayed A)) (K : ℕ) (enters : EntersWell W K enter) where
  -- folds step to their nested applications
  abbrev FoldOn : Ty → ErasedTerm → A → Arrayed A → List (Arrayed A) → Type 0
  FoldOn U t f acc xs = StepsAs W enter K U t (Folds f acc xs)

  to_steps : (U : Ty) (t : ErasedTerm) (x : Entry A) → AppliesAs W enter K enters (FoldOn U t) U t x → StepsAs W enter K U t x
  to_steps U t (Refuses k) h = h
  to_steps U t (Enters env b) h = h
  to_steps U t (Answers a) h = h
  to_steps U t (Faults k) h = h
  to_steps U t (Folds f acc xs) h = h

  -- an item's dims are those of a word
  same_items : (s : List ℕ) (w : Word) → word_value w ≡ s → (xs : List (Arrayed A)) → Each (λ x. Fit W x × (x.dims ≡ s)) xs → Each (λ x. Fit W x × (x.dims ≡ word_value w)) xs
  same_items s w e [] h = tt
  same_items s w e (x ∷ xs) h = ((h.0.0, h.0.1 ∙ sym e), same_items s w e xs h.1)

  -- the one function of a fold
  function_fits : (fa : Arrayed A) (f : A) → fa.atoms ≡ f ∷ [] → Each W.fits fa.atoms → W.fits f
  function_fits fa f e h = (subst (Each W.fits) e h).0

  items_held : (it : Arrayed A) (n : ℕ) (s : List ℕ) (items : List (Arrayed A)) → items ≡ each (array s) (runs n (product s) it.atoms) → Each IsWhole items → Each W.fits it.atoms → Each (λ x. Fit W x × (x.dims ≡ s)) items
  items_held it n s items e whole fits =
      subst (Each (λ x. Fit W x × (x.dims ≡ s))) (sym e) (items_fit W enter K enters s (runs n (product s) it.atoms) (subst (Each IsWhole) e whole) (all_runs W.fits n (product s) it.atoms fits))

  module _ (U : Ty) (cs : List Word) (r : Word) where
    -- `reduce`
    reduce_entry : (fa it : Arrayed A) (f : A) (acc : Option (Arrayed A)) (items : List (Arrayed A)) → Each (IsHeldArray W.fits) (fa ∷ it ∷ []) → FoldOf W enter K enters fa.atoms None it f acc items → IsWholeAnswer (answers.Folds f acc items)
        → (typed : Bool) (is : Option (List IndexValue)) → Suits (values.atom_rules W.rules) (row_valuation (given_values is)) (row_inputs (prim_type p.Reduce)) (fa ∷ it ∷ []) → have_sorts (row_sorts (prim_type p.Reduce)) (given_values is) ≡ true
        → W.good U (TApp (scalar_of (TPrim p.Reduce (types_note typed) (norm_values is))) (term_list (vals W (fa ∷ it ∷ []))) cs r)
        → one W.defs (TApp (scalar_of (TPrim p.Reduce (types_note typed) (norm_values is))) (term_list (vals W (fa ∷ it ∷ []))) cs r)
        ≡ goes_fold erased_rules (types_note typed) (norm_values is) (W.cell f) (option_map (arr W.cell) acc) (each (arr W.cell) items)
        → StepsAs W enter K U (TApp (scalar_of (TPrim p.Reduce (types_note typed) (norm_values is))) (term_list (vals W (fa ∷ it ∷ []))) cs r) (answer_entry (answers.Folds f acc items))
    reduce_entry fa it f (Some z) items held fold whole typed is suits sorts g step = absurd (let e = fold.3 in cc)
    reduce_entry fa it f None items held fold whole false is suits sorts g step = absurd (W.typing.never_lost U (TApp (scalar_of (TPrim p.Reduce None (norm_values is))) (term_list (vals W (fa ∷ it ∷ []))) cs r) g step)
    reduce_entry fa it f None items held fold whole true None suits sorts g step = absurd (W.typing.never_lost U (TApp (scalar_of (TPrim p.Reduce (Some tt) None)) (term_list (vals W (fa ∷ it ∷ []))) cs r) g step)
    reduce_entry fa it f None items held fold whole true (Some []) suits sorts g step = absurd (W.typing.never_lost U (TApp (scalar_of (TPrim p.Reduce (Some tt) (Some []))) (term_list (vals W (fa ∷ it ∷ []))) cs r) g step)
    reduce_entry fa it f None items held fold whole true (Some (dv ∷ [])) suits sorts g step = absurd (W.typing.never_lost U (TApp (scalar_of (TPrim p.Reduce (Some tt) (Some (value_norm dv ∷ [])))) (term_list (vals W (fa ∷ it ∷ []))) cs r) g step)
    reduce_entry fa it f None items held fold whole true (Some (dv ∷ sv ∷ rv ∷ [])) suits sorts g step =
        absurd (W.typing.never_lost U (TApp (scalar_of (TPrim p.Reduce (Some tt) (Some (value_norm dv ∷ value_norm sv ∷ value_norm rv ∷ [])))) (term_list (vals W (fa ∷ it ∷ []))) cs r) g step)
    reduce_entry fa it f None items held fold whole true (Some (dv ∷ sv ∷ rv ∷ v ∷ vs)) suits sorts g step =
        absurd (W.typing.never_lost U (TApp (scalar_of (TPrim p.Reduce (Some tt) (Some (value_norm dv ∷ value_norm sv ∷ value_norm rv ∷ value_norm v ∷ each value_norm vs)))) (term_list (vals W (fa ∷ it ∷ []))) cs r) g step)
    reduce_entry fa it f None [] held fold whole true (Some (dv ∷ sv ∷ [])) suits sorts g step = absurd (W.typing.never_lost U (TApp (scalar_of (TPrim p.Reduce (Some tt) (Some (value_norm dv ∷ value_norm sv ∷ [])))) (term_list (vals W (fa ∷ it ∷ []))) cs r) g step)
    reduce_entry fa it f None (x ∷ items) held fold whole true (Some (dv ∷ sv ∷ [])) suits sorts g step =
        let w = norm_letters_of (value_norm sv) in
        let s = fold.1 in
        let dims : word_value w ≡ s = reduce_dims W dv sv fa it fold.0 s suits sorts fold.4 in
        let all = same_items s w dims (x ∷ items) (items_held it fold.0 s (x ∷ items) fold.5 whole held.1.0.1) in
        let t = TApp (scalar_of (TPrim p.Reduce (Some tt) (Some (value_norm dv ∷ value_norm sv ∷ [])))) (term_list (vals W (fa ∷ it ∷ []))) cs r in
        fold_steps W enter K enters f (function_fits fa f fold.2 held.0.1) (not_reduce_is W enter K enters U p.Reduce true (Some (dv ∷ sv ∷ [])) fa (it ∷ []) cs r f tt fold.2 g) w w U t x items all.0.0 all.0.1 all.1 g
        (step ∙ ap (λ ts. Goes (fold_term erased_rules (W.cell f) (w ∷ w ∷ []) w (val W x) ts)) (items_are W enter K enters items))

    -- `fold`
    fold_entry : (fa z it : Arrayed A) (f : A) (acc : Option (Arrayed A)) (items : List (Arrayed A)) → Each (IsHeldArray W.fits) (fa ∷ z ∷ it ∷ []) → FoldOf W enter K enters fa.atoms (Some z) it f acc items → IsWholeAnswer (answers.Folds f acc items)
        → (typed : Bool) (is : Option (List IndexValue)) → Suits (values.atom_rules W.rules) (row_valuation (given_values is)) (row_inputs (prim_type p.Fold)) (fa ∷ z ∷ it ∷ []) → have_sorts (row_sorts (prim_type p.Fold)) (given_values is) ≡ true
        → W.good U (TApp (scalar_of (TPrim p.Fold (types_note typed) (norm_values is))) (term_list (vals W (fa ∷ z ∷ it ∷ []))) cs r)
        → one W.defs (TApp (scalar_of (TPrim p.Fold (types_note typed) (norm_values is))) (term_list (vals W (fa ∷ z ∷ it ∷ []))) cs r)
        ≡ goes_fold erased_rules (types_note typed) (norm_values is) (W.cell f) (option_map (arr W.cell) acc) (each (arr W.cell) items)
        → StepsAs W enter K U (TApp (scalar_of (TPrim p.Fold (types_note typed) (norm_values is))) (term_list (vals W (fa ∷ z ∷ it ∷ []))) cs r) (answer_entry (answers.Folds f acc items))
    fold_entry fa z it f None items held fold whole typed is suits sorts g step = absurd (let e = fold.3 in cc)
    fold_entry fa z it f (Some y) items held fold whole false is suits sorts g step = absurd (W.typing.never_lost U (TApp (scalar_of (TPrim p.Fold None (norm_values is))) (term_list (vals W (fa ∷ z ∷ it ∷ []))) cs r) g step)
    fold_entry fa z it f (Some y) items held fold whole true None suits sorts g step = absurd (W.typing.never_lost U (TApp (scalar_of (TPrim p.Fold (Some tt) None)) (term_list (vals W (fa ∷ z ∷ it ∷ []))) cs r) g step)
    fold_entry fa z it f (Some y) items held fold whole true (Some []) suits sorts g step = absurd (W.typing.never_lost U (TApp (scalar_of (TPrim p.Fold (Some tt) (Some []))) (term_list (vals W (fa ∷ z ∷ it ∷ []))) cs r) g step)
    fold_entry fa z it f (Some y) items held fold whole true (Some (dv ∷ [])) suits sorts g step = absurd (W.typing.never_lost U (TApp (scalar_of (TPrim p.Fold (Some tt) (Some (value_norm dv ∷ [])))) (term_list (vals W (fa ∷ z ∷ it ∷ []))) cs r) g step)
    fold_entry fa z it f (Some y) items held fold whole true (Some (dv ∷ sv ∷ [])) suits sorts g step =
        absurd (W.typing.never_lost U (TApp (scalar_of (TPrim p.Fold (Some tt) (Some (value_norm dv ∷ value_norm sv ∷ [])))) (term_list (vals W (fa ∷ z ∷ it ∷ []))) cs r) g step)
    fold_entry fa z it f (Some y) items held fold whole true (Some (dv ∷ sv ∷ rv ∷ v ∷ vs)) suits sorts g step =
        absurd (W.typing.never_lost U (TApp (scalar_of (TPrim p.Fold (Some tt) (Some (value_norm dv ∷ value_norm sv ∷ value_norm rv ∷ value_norm v ∷ each value_norm vs)))) (term_list (vals W (fa ∷ z ∷ it ∷ []))) cs r) g step)
    fold_entry fa z it f (Some y) items held fold whole true (Some (dv ∷ sv ∷ rv ∷ [])) suits sorts g step =
        let wi = norm_letters_of (value_norm sv) in
        let wa = norm_letters_of (value_norm rv) in
        let s = fold.1 in
        let same : y ≡ z = (let e = fold.3 in cc) in
        let dims = fold_dims W dv sv rv fa z it fold.0 s suits sorts fold.4 in
        let all = same_items s wi dims.0 items (items_held it fold.0 s items fold.5 whole.1 held.1.1.0.1) in
        let first : Fit W y = subst (Fit W) (sym same) (held.1.0.0.0, held.1.0.1) in
        let t = TApp (scalar_of (TPrim p.Fold (Some tt) (Some (value_norm dv ∷ value_norm sv ∷ value_norm rv ∷ [])))) (term_list (vals W (fa ∷ z ∷ it ∷ []))) cs r in
        fold_steps W enter K enters f (function_fits fa f fold.2 held.0.1) (not_reduce_is W enter K enters U p.Fold true (Some (dv ∷ sv ∷ rv ∷ [])) fa (z ∷ it ∷ []) cs r f tt fold.2 g) wa wi U t y items first (ap (λ a. a.dims) same ∙ sym dims.1) all g
        (step ∙ ap (λ ts. Goes (fold_term erased_rules (W.cell f) (wa ∷ wi ∷ []) wa (val W y) ts)) (items_are W enter K enters items))

    -- any primitive that folds
    prim_folds : (xs : List (Arrayed A)) (q : Primitive) (typed : Bool) (is : Option (List IndexValue)) (f : A) (acc : Option (Arrayed A)) (items : List (Arrayed A)) → IsFolding q → Each (IsHeldArray W.fits) xs
        → Suits (values.atom_rules W.rules) (row_valuation (given_values is)) (row_inputs (prim_type q)) xs → have_sorts (row_sorts (prim_type q)) (given_values is) ≡ true
        → delta (values.atom_rules W.rules) q (given_values is) xs ≡ answers.Folds f acc items → IsWholeAnswer (answers.Folds f acc items)
        → W.good U (TApp (scalar_of (TPrim q (types_note typed) (norm_values is))) (term_list (vals W xs)) cs r)
        → one W.defs (TApp (scalar_of (TPrim q (types_note typed) (norm_values is))) (term_list (vals W xs)) cs r)
        ≡ goes_fold erased_rules (types_note typed) (norm_values is) (W.cell f) (option_map (arr W.cell) acc) (each (arr W.cell) items)
        → StepsAs W enter K U (TApp (scalar_of (TPrim q (types_note typed) (norm_values is))) (term_list (vals W xs)) cs r) (answer_entry (answers.Folds f acc items))
    prim_folds [] p.Reduce typed is f acc items folding held suits sorts e whole g step = absurd (cc)
    prim_folds (fa ∷ []) p.Reduce typed is f acc items folding held suits sorts e whole g step = absurd (cc)
    prim_folds (fa ∷ it ∷ []) p.Reduce typed is f acc items folding held suits sorts e whole g step =
        reduce_entry fa it f acc items held (fold_of W enter K enters fa.atoms None it f acc items e) whole typed is suits sorts g step
    prim_folds (fa ∷ it ∷ b ∷ xs) p.Reduce typed is f acc items folding held suits sorts e whole g step = absurd (cc)
    prim_folds [] p.Fold typed is f acc items folding held suits sorts e whole g step = absurd (cc)
    prim_folds (fa ∷ []) p.Fold typed is f acc items folding held suits sorts e whole g step = absurd (cc)
    prim_folds (fa ∷ z ∷ []) p.Fold typed is f acc items folding held suits sorts e whole g step = absurd (cc)
    prim_folds (fa ∷ z ∷ it ∷ []) p.Fold typed is f acc items folding held suits sorts e whole g step =
        fold_entry fa z it f acc items held (fold_of W enter K enters fa.atoms (Some z) it f acc items e) whole typed is suits sorts g step
    prim_folds (fa ∷ z ∷ it ∷ b ∷ xs) p.Fold typed is f acc items folding held suits sorts e whole g step = absurd (cc)
    prim_folds xs _ typed is f acc items folding held suits sorts e whole g step = absurd folding

  held_whole : (xs : List (Arrayed A)) → Each (IsHeldArray W.fits) xs → Each IsWhole xs
  held_whole [] h = tt
  held_whole (x ∷ xs) h = (h.0.0, held_whole xs h.1)

  -- what an atom on cells begins
  pub place_steps : (U : Ty) (f : A) (xs : List (Arrayed A)) (cs : List Word) (r : Word) → W.fits f → Each (Fit W) xs → CellsOnly (vals W xs) cs → W.good U (TApp (scalar_of (W.cell f)) (term_list (vals W xs)) cs r)
      → StepsAs W enter K U (TApp (scalar_of (W.cell f)) (term_list (vals W xs)) cs r) (apply_entry W.rules f xs)
  place_steps U f xs cs r h hs cells g =
      to_steps U (TApp (scalar_of (W.cell f)) (term_list (vals W xs)) cs r) (apply_entry W.rules f xs)
      (applies W enter K enters (FoldOn U (TApp (scalar_of (W.cell f)) (term_list (vals W xs)) cs r)) U xs cs r hs cells f h g folds)
    where
      cell_is : (q : Primitive) (typed : Bool) (is : Option (List IndexValue)) → W.rules.parts f ≡ PrimAtom q typed is → W.cell f ≡ TPrim q (types_note typed) (norm_values is)
      cell_is q true is e = W.reads.cells f ∙ ap (atom_cell W.cell W.bodies) e
      cell_is q false is e = W.reads.cells f ∙ ap (atom_cell W.cell W.bodies) e

      folds : (q : Primitive) (typed : Bool) (is : Option (List IndexValue)) → W.rules.parts f ≡ PrimAtom q typed is
          → FoldSteps W enter K enters (FoldOn U (TApp (scalar_of (W.cell f)) (term_list (vals W xs)) cs r)) U xs cs r hs cells q typed is
      folds q typed is at h first items held unstuck e step =
          let suits = suits_row (values.atom_rules W.rules) q typed is xs unstuck in
          let whole = subst IsWholeAnswer e (delta_whole (values.atom_rules W.rules) q typed is xs (held_whole xs held) unstuck) in
          let folding : IsFolding q =
          subst (AnswerFits W.fits (IsFolding q)) e (delta_fits (values.atom_rules W.rules) W.fits (λ z. W.reads.fit_made (values.IntAtom z) tt) (λ b. W.reads.fit_made (values.BoolAtom b) tt) (λ vs a e f k. W.reads.fit_made (values.BoxAtom vs a) (e, (f, k))) q (given_values is) xs held) in
          let c : W.cell f ≡ TPrim q (types_note typed) (norm_values is) = cell_is q typed is at in
          let made = prim_folds U cs r xs q typed is h first items folding held suits.0 suits.1 e whole (subst (λ c. W.good U (TApp (scalar_of c) (term_list (vals W xs)) cs r)) c g) step in
          from_steps (answer_entry (answers.Folds h first items)) (sym c) made
        where
          from_steps : (x : Entry A) {c d : Cell erased} → c ≡ d → StepsAs W enter K U (TApp (scalar_of c) (term_list (vals W xs)) cs r) x
              → AppliesAs W enter K enters (FoldOn U (TApp (scalar_of d) (term_list (vals W xs)) cs r)) U (TApp (scalar_of c) (term_list (vals W xs)) cs r) x
          from_steps (Refuses k) same h = h
          from_steps (Enters env b) same h = h
          from_steps (Answers a) same h = h
          from_steps (Faults k) same h = h
          from_steps (Folds f acc xs') {c} same h = subst (λ d. FoldOn U (TApp (scalar_of d) (term_list (vals W xs)) cs r) f acc xs') same h
