-- A scalar function on cells: what it begins is what its application steps to.
use Rattle.std.proofs.Common.{◌≡◌, refl, sym, ap, subst, ◌∙◌, ℕ, Bool, true, false, List, [], ◌∷◌, length, Option, Some, None}
use Rattle.std.proofs.lemmas.Bool.{eqb-true}
use Rattle.std.specs.Prelude.{◌&&◌, ◌==◌, is_some, option_map}
use Rattle.core_syntax.specs.declared.errors.StuckKind.TheVariants as stuck
use Rattle.core_syntax.specs.declared.primitive.Primitive.{Primitive}
use Rattle.core_syntax.specs.Syntax.{Ty}
use Rattle.core_syntax.specs.Lists.{onto, each, Each}
use Rattle.core_syntax.specs.Word.{Word}
use Rattle.core_syntax.specs.Subst.{kept, put_first, put_all}
use Rattle.core_syntax.specs.Arrays.{Arrayed, array}
use Rattle.core_syntax.specs.Answer as answers
use Rattle.core_syntax.specs.Answer.{AtomRules, Answer}
use Rattle.core_syntax.specs.Delta.{delta}
use Rattle.core_syntax.specs.Terms.{IndexValue, TApp, term_list, Cell, TPrim, scalar_of}
use Rattle.core_syntax.specs.TermPut.{term_put, terms_under}
use Rattle.core_syntax.specs.Move.{Move, Trapped, Goes, Lost}
use Rattle.core_syntax.specs.Rules as rules
use Rattle.core_syntax.specs.Rules.{has_types, has_indices, agrees, dims_of, atoms_of, values_of, array_term, apply_atom, answered, goes_fold}
use Rattle.core_syntax.specs.NormPut.{norm_value}
use Rattle.erasure.specs.Erased.{erased, ErasedTerm, erased_rules}
use Rattle.core_syntax.specs.DeltaStuck.{given_values, delta_stuck}
use Rattle.naturality.specs.WholeArrays.{IsWhole, IsWholeAnswer}
use Rattle.naturality.specs.Respects as natural
use Rattle.naturality.specs.Respects.{arr, Respects}
use Rattle.naturality.proofs.Delta.{delta_natural}
use Rattle.naturality.proofs.StuckNatural.{delta_stuck_natural}
use Rattle.naturality.proofs.DeltaWhole.{delta_whole}
use Rattle.array_values.specs.declared.closure.CloseKind.TheVariants as close
use Rattle.machine_table.specs.Values as values
use Rattle.machine_table.specs.Values.{Env, Atom, IntAtom, BoolAtom, CharAtom, PrimAtom, Closure, BoxAtom, with_arrays}
use Rattle.machine_table.specs.Begins as begins
use Rattle.machine_table.specs.Begins.{Entry, Refuses, Enters, Answers, Faults, Folds, if_taken, answer_entry, apply_entry}
use Rattle.lowering.specs.Runs.{Comp}
use Rattle.lowering.specs.Evals.{entered}
use Rattle.evaluation.specs.Plugged.{norm_values, val_term, env_terms, term_of, atom_cell, plugged}
use Rattle.evaluation.specs.Lawful.{IsClosed, FitAtom}
use Rattle.evaluation.specs.Typing.{SomeType, CellsOnly, arrays_of}
use Rattle.evaluation.specs.Setting.{Setting}
use Rattle.evaluation.proofs.steps.Reduces.{Reduces}
use Rattle.evaluation.proofs.steps.Contexts.{one}
use Rattle.evaluation.proofs.steps.Rests.{norms_back, dims_are, atoms_are, items_back, array_rests}
use Rattle.evaluation.proofs.environments.Entered.{length_each, enters_fn}
use Rattle.evaluation.proofs.forms.Comes.{val, vals, Fit, FitOf, EntersWell}
use Rattle.evaluation.proofs.steps.Collapsed.{values_rest}
use Rattle.evaluation.proofs.forms.Leaves.{made_is, same_count}
use Rattle.evaluation.proofs.forms.OverRuns.{array_full}
use Rattle.evaluation.proofs.steps.ScalarSteps.{scalar_step}
use Rattle.evaluation.proofs.forms.DeltaFits.{AnswerFits, IsHeldArray, IsFolding}
use Rattle.evaluation.proofs.forms.DeltaFitRows.{delta_fits}

-- values of indices and their normal forms
pub values_back : (is : Option (List IndexValue)) → option_map (each norm_value) (norm_values is) ≡ is
values_back None = refl
values_back (Some is) = ap Some (norms_back is)

given_back : (is : Option (List IndexValue)) → values_of norm_value (norm_values is) ≡ given_values is
given_back None = refl
given_back (Some is) = norms_back is

-- whether a primitive has its types, as a note
abbrev pub types_note : Bool → Option (Unit {0})
types_note true = Some tt
types_note false = None

note_is : (b : Bool) → is_some (types_note b) ≡ b
note_is true = refl
note_is false = refl

module _ {A : Type 0} (W : Setting A) (enter : Env A → ℕ → Comp (Arrayed A)) (K : ℕ) (enters : EntersWell W K enter) where
  -- how primitives look at atoms
  abbrev pub seen : AtomRules A
  seen = values.atom_rules W.rules

  -- an atom of a primitive
  prim_is : (q : Primitive) (typed : Bool) (is : Option (List IndexValue)) → atom_cell W.cell W.bodies (PrimAtom q typed is) ≡ TPrim q (types_note typed) (norm_values is)
  prim_is q true is = refl
  prim_is q false is = refl

  -- ---- primitives don't notice that atoms are read as cells

  look_of : (y : Atom A) → rules.look erased_rules (atom_cell W.cell W.bodies y) ≡ values.look y
  look_of (IntAtom z) = refl
  look_of (BoolAtom b) = refl
  look_of (CharAtom c) = refl
  look_of (PrimAtom q true is) = refl
  look_of (PrimAtom q false is) = refl
  look_of (Closure close.Fn b n env) = refl
  look_of (Closure close.TypeFn b n env) = refl
  look_of (Closure close.IndexFn b n env) = refl
  look_of (BoxAtom is a) = refl

  looks_alike : (a : A) → rules.look erased_rules (W.cell a) ≡ values.look (W.rules.parts a)
  looks_alike a = ap (rules.look erased_rules) (W.reads.cells a) ∙ look_of (W.rules.parts a)

  pub respects : (r : Word) → Respects W.cell (values.atom_rules W.rules) (rules.atom_rules erased_rules r)
  respects r =
      record {
        looks = looks_alike;
        ints = λ z. made_is W enter K (IntAtom z);
        bools = λ b. made_is W enter K (BoolAtom b);
        boxes = λ vs a. made_is W enter K (BoxAtom vs a);
      }

  -- arguments as arrays of cells
  arrays_are : (xs : List (Arrayed A)) → arrays_of (vals W xs) ≡ each (arr W.cell) xs
  arrays_are [] = refl
  arrays_are (x ∷ xs) = λ i. array (dims_are x.dims (each W.cell x.atoms) i) (atoms_are x.dims (each W.cell x.atoms) i) ∷ arrays_are xs i

  -- arguments that can be held, and whose atoms fit
  args_held : (xs : List (Arrayed A)) → Each (Fit W) xs → Each (SomeType W.good) (vals W xs) → Each (IsHeldArray W.fits) xs
  args_held [] h g = tt
  args_held (x ∷ xs) h g = (((h.0.0, array_full W enter K x h.0 g.0), h.0.1), args_held xs h.1 g.1)

  held_whole : (xs : List (Arrayed A)) → Each (IsHeldArray W.fits) xs → Each IsWhole xs
  held_whole [] h = tt
  held_whole (x ∷ xs) h = (h.0.0, held_whole xs h.1)

  -- arguments that are closed
  args_closed : (xs : List (Arrayed A)) → Each (Fit W) xs → Each (SomeType W.good) (vals W xs) → Each (λ a. Fit W a × IsClosed (val W a)) xs
  args_closed [] h g = tt
  args_closed (x ∷ xs) h g = ((h.0, W.typing.closed g.0.0 (val W x) g.0.1), args_closed xs h.1 g.1)

  env_more : (xs ys : List (Arrayed A)) → Each (λ a. Fit W a × IsClosed (val W a)) xs → Each (λ a. Fit W a × IsClosed (val W a)) ys → Each (λ a. Fit W a × IsClosed (val W a)) (onto xs ys)
  env_more [] ys h k = k
  env_more (x ∷ xs) ys h k = env_more xs (x ∷ ys) h.1 (h.0, k)

  -- ---- what an atom on cells begins

  module _ (Fold : A → Arrayed A → List (Arrayed A) → Type 0) where
    -- a term of a type steps as an entry says, where folds are as Fold says
    abbrev pub AppliesAs : Ty → ErasedTerm → Entry A → Type 0
    AppliesAs U t (Refuses k) = ⊥
    AppliesAs U t (Enters env b) = (u : ErasedTerm) × (one W.defs t ≡ Goes u) × Reduces (one W.defs) K u (val_term W.cell) (FitOf W U) (enter env b)
    AppliesAs U t (Answers a) = (one W.defs t ≡ Goes (val W a)) × Fit W a
    AppliesAs U t (Faults k) = one W.defs t ≡ Trapped k
    AppliesAs U t (Folds f acc xs) = Fold f acc xs

    module _ (U : Ty) (xs : List (Arrayed A)) (cs : List Word) (r : Word) (hs : Each (Fit W) xs) (cells : CellsOnly (vals W xs) cs) where
      abbrev pub on_cells : Cell erased → ErasedTerm
      on_cells c = TApp (scalar_of c) (term_list (vals W xs)) cs r

      args_have : (c : Cell erased) → W.good U (on_cells c) → Each (SomeType W.good) (vals W xs)
      args_have c g = subst (Each (SomeType W.good)) (items_back (vals W xs)) (W.typing.arguments U (scalar_of c) (term_list (vals W xs)) cs r g)

      -- what handles folds
      abbrev pub FoldSteps : Primitive → Bool → Option (List IndexValue) → Type 0
      FoldSteps q typed is =
          (f : A) (acc : Option (Arrayed A)) (items : List (Arrayed A)) → Each (IsHeldArray W.fits) xs → delta_stuck (values.atom_rules W.rules) q typed is xs ≡ None
          → delta (values.atom_rules W.rules) q (given_values is) xs ≡ answers.Folds f acc items
          → one W.defs (on_cells (TPrim q (types_note typed) (norm_values is))) ≡ goes_fold erased_rules (types_note typed) (norm_values is) (W.cell f) (option_map (arr W.cell) acc) (each (arr W.cell) items)
          → AppliesAs U (on_cells (TPrim q (types_note typed) (norm_values is))) (answer_entry (answers.Folds f acc items))

      -- a primitive
      prim_applies : (q : Primitive) (typed : Bool) (is : Option (List IndexValue)) → W.good U (on_cells (TPrim q (types_note typed) (norm_values is)))
          → one W.defs (on_cells (TPrim q (types_note typed) (norm_values is))) ≡ apply_atom erased_rules (TPrim q (types_note typed) (norm_values is) ∷ []) (vals W xs) r
          → FoldSteps q typed is → AppliesAs U (on_cells (TPrim q (types_note typed) (norm_values is))) (begins.prim_entry W.rules q typed is xs)
      prim_applies q typed is g step folds =
          subst (λ o. AppliesAs U t (elim o as (λ o. Entry A) [ Some k ↦ Refuses k | None ↦ answer_entry (delta (values.atom_rules W.rules) q (given_values is) xs) ])) (sym unstuck)
          (by (agrees (has_types q) (is_some (types_note typed)) && agrees (has_indices q) (is_some (norm_values is))) step (delta (values.atom_rules W.rules) q (given_values is) xs) refl)
        where
          t : ErasedTerm
          t = on_cells (TPrim q (types_note typed) (norm_values is))

          held : Each (IsHeldArray W.fits) xs
          held = args_held xs hs (args_have (TPrim q (types_note typed) (norm_values is)) g)

          -- nothing makes it stuck
          unstuck : delta_stuck (values.atom_rules W.rules) q typed is xs ≡ None
          unstuck =
              sym (delta_stuck_natural W.cell (values.atom_rules W.rules) (rules.atom_rules erased_rules r) (looks_alike) q typed is xs)
              ∙ (λ i. delta_stuck (rules.atom_rules erased_rules r) q (sym (note_is typed) i) (sym (values_back is) i) (sym (arrays_are xs) i))
              ∙ W.typing.prim_fits U q (types_note typed) (norm_values is) (vals W xs) cs r g (values_rest W xs hs) cells

          -- the answer of the primitive on cells
          on_terms : delta (rules.atom_rules erased_rules r) q (values_of norm_value (norm_values is)) (arrays_of (vals W xs)) ≡ natural.answer W.cell (delta (values.atom_rules W.rules) q (given_values is) xs)
          on_terms = (λ i. delta (rules.atom_rules erased_rules r) q (given_back is i) (arrays_are xs i)) ∙ delta_natural W.cell (values.atom_rules W.rules) (rules.atom_rules erased_rules r) (respects r) q (given_values is) xs

          whole : (a : Arrayed A) → delta (values.atom_rules W.rules) q (given_values is) xs ≡ answers.Gives a → Fit W a
          whole a e =
              let w = delta_whole (values.atom_rules W.rules) q typed is xs (held_whole xs held) unstuck in
              let f = delta_fits (values.atom_rules W.rules) W.fits (λ z. W.reads.fit_made (IntAtom z) tt) (λ b. W.reads.fit_made (BoolAtom b) tt) (λ vs a e f k. W.reads.fit_made (BoxAtom vs a) (e, (f, k))) q (given_values is) xs held in
              ((subst IsWholeAnswer e w).0, subst (AnswerFits W.fits (IsFolding q)) e f)

          by : (b : Bool)
              → one W.defs (on_cells (TPrim q (types_note typed) (norm_values is)))
              ≡ elim b as (λ b. Move ErasedTerm) [
                | true ↦ answered erased_rules r (types_note typed) (norm_values is) (delta (rules.atom_rules erased_rules r) q (values_of norm_value (norm_values is)) (arrays_of (vals W xs)))
                | false ↦ Lost
              ]
              → (x : Answer A) → delta (values.atom_rules W.rules) q (given_values is) xs ≡ x → AppliesAs U (on_cells (TPrim q (types_note typed) (norm_values is))) (answer_entry x)
          by false step x e = absurd (W.typing.never_lost U (on_cells (TPrim q (types_note typed) (norm_values is))) g step)
          by true step x e = at x e (step ∙ ap (answered erased_rules r (types_note typed) (norm_values is)) (on_terms ∙ ap (natural.answer W.cell) e))
            where
              at : (x : Answer A) → delta (values.atom_rules W.rules) q (given_values is) xs ≡ x
                  → one W.defs (on_cells (TPrim q (types_note typed) (norm_values is))) ≡ answered erased_rules r (types_note typed) (norm_values is) (natural.answer W.cell x)
                  → AppliesAs U (on_cells (TPrim q (types_note typed) (norm_values is))) (answer_entry x)
              at (answers.Gives a) e s = (s, whole a e)
              at (answers.Traps k) e s = s
              at (answers.Folds f acc items) e s = folds f acc items held unstuck e s
              at answers.Unfit e s = absurd (W.typing.never_lost U (on_cells (TPrim q (types_note typed) (norm_values is))) g s)

      -- an atom by its parts
      atom_applies : (y : Atom A) → FitAtom W.bodies W.cell W.fits y → W.good U (on_cells (atom_cell W.cell W.bodies y))
          → one W.defs (on_cells (atom_cell W.cell W.bodies y)) ≡ apply_atom erased_rules (atom_cell W.cell W.bodies y ∷ []) (vals W xs) r
          → ((q : Primitive) (typed : Bool) (is : Option (List IndexValue)) → y ≡ PrimAtom q typed is → FoldSteps q typed is)
          → AppliesAs U (on_cells (atom_cell W.cell W.bodies y)) (begins.apply_atom W.rules y xs)
      atom_applies (IntAtom z) h g e folds = absurd (W.typing.never_lost U (on_cells (atom_cell W.cell W.bodies (IntAtom z))) g e)
      atom_applies (BoolAtom z) h g e folds = absurd (W.typing.never_lost U (on_cells (atom_cell W.cell W.bodies (BoolAtom z))) g e)
      atom_applies (CharAtom z) h g e folds = absurd (W.typing.never_lost U (on_cells (atom_cell W.cell W.bodies (CharAtom z))) g e)
      atom_applies (BoxAtom is a) h g e folds = absurd (W.typing.never_lost U (on_cells (atom_cell W.cell W.bodies (BoxAtom is a))) g e)
      atom_applies (PrimAtom q true is) h g e folds = prim_applies q true is g e (folds q true is refl)
      atom_applies (PrimAtom q false is) h g e folds = prim_applies q false is g e (folds q false is refl)
      atom_applies (Closure close.TypeFn b n env) h g e folds = absurd (W.typing.never_lost U (on_cells (atom_cell W.cell W.bodies (Closure close.TypeFn b n env))) g e)
      atom_applies (Closure close.IndexFn b n env) h g e folds = absurd (W.typing.never_lost U (on_cells (atom_cell W.cell W.bodies (Closure close.IndexFn b n env))) g e)
      atom_applies (Closure close.Fn b n env) h g e folds = by (n == length (vals W xs)) refl e
        where
          inner : ErasedTerm
          inner = term_put erased_rules (put_first env.indices) (terms_under n (env_terms W.cell env)) (term_of (entered W.bodies b))

          by : (c : Bool) → (n == length (vals W xs)) ≡ c
              → one W.defs (on_cells (atom_cell W.cell W.bodies (Closure close.Fn b n env)))
              ≡ elim c as (λ c. Move ErasedTerm) [
                | true ↦ Goes (term_put erased_rules kept (put_all (vals W xs)) (term_put erased_rules (put_first env.indices) (terms_under n (env_terms W.cell env)) (term_of (entered W.bodies b))))
                | false ↦ Lost
              ]
              → AppliesAs U (on_cells (atom_cell W.cell W.bodies (Closure close.Fn b n env))) (if_taken n (length xs) (Enters (with_arrays xs env) b))
          by false c e = absurd (W.typing.never_lost U (on_cells (atom_cell W.cell W.bodies (Closure close.Fn b n env))) g e)
          by true c e =
              let count : n ≡ length xs = eqb-true n (length (vals W xs)) c ∙ length_each (val_term W.cell) xs in
              let opens = h.0 in
              let body : term_of (entered W.bodies b) ≡ opens.0.term = ap term_of opens.1 in
              let step : one W.defs (on_cells (atom_cell W.cell W.bodies (Closure close.Fn b n env))) ≡ Goes (plugged W.cell (with_arrays xs env) opens.0.term) =
              e ∙ ap (λ t. Goes (term_put erased_rules kept (put_all (vals W xs)) (term_put erased_rules (put_first env.indices) (terms_under n (env_terms W.cell env)) t))) body
              ∙ ap Goes (enters_fn W.bodies W.cell W.fits n xs env opens.0.term count h.1 opens.3) in
              let closed = args_closed xs hs (args_have (atom_cell W.cell W.bodies (Closure close.Fn b n env)) g) in
              subst (λ c. AppliesAs U (on_cells (atom_cell W.cell W.bodies (Closure close.Fn b n env))) (elim c as (λ c. Entry A) [ true ↦ Enters (with_arrays xs env) b | false ↦ Refuses stuck.Operand ])) (sym (same_count n (length xs) count)) (
                plugged W.cell (with_arrays xs env) opens.0.term,
                step,
                enters.well U (with_arrays xs env) b opens.0 opens.1 opens.2 opens.3 (env_more xs env.arrays closed h.1) (W.typing.keeps U (on_cells (atom_cell W.cell W.bodies (Closure close.Fn b n env))) (plugged W.cell (with_arrays xs env) opens.0.term) g step),
              )

      -- an atom
      pub applies : (f : A) → W.fits f → W.good U (on_cells (W.cell f)) → ((q : Primitive) (typed : Bool) (is : Option (List IndexValue)) → W.rules.parts f ≡ PrimAtom q typed is → FoldSteps q typed is)
          → AppliesAs U (on_cells (W.cell f)) (apply_entry W.rules f xs)
      applies f h g folds =
          let is = W.reads.cells f in
          let step = scalar_step W.defs (W.cell f) (vals W xs) cs r (array_rests W.defs [] (W.cell f ∷ []) (W.reads.rests W.defs f h, tt)) (values_rest W xs hs) cells in
          subst (λ c. AppliesAs U (on_cells c) (begins.apply_atom W.rules (W.rules.parts f) xs)) (sym is)
          (atom_applies (W.rules.parts f) (W.reads.fit_parts f h) (subst (λ c. W.good U (on_cells c)) is g) (subst (λ c. one W.defs (on_cells c) ≡ apply_atom erased_rules (c ∷ []) (vals W xs) r) is step) folds)
