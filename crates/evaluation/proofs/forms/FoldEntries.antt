-- A `reduce` or a `fold` on cells: the fold that it begins is what its application steps to.
use Rattle.std.proofs.Common.{◌≡◌, refl, sym, ap, subst, ◌∙◌, ℕ, ◌^◌, Bool, true, false, List, [], ◌∷◌, Option}
use Rattle.std.specs.Prelude.{⊤, nat_le}
use Rattle.core_syntax.specs.declared.errors.TrapKind.TheVariants as trap
use Rattle.core_syntax.specs.declared.primitive.Primitive.{Primitive}
use Rattle.core_syntax.specs.declared.primitive.Primitive.TheVariants as p
use Rattle.core_syntax.specs.Syntax.{Ty}
use Rattle.core_syntax.specs.Lists.{each, Each, product}
use Rattle.core_syntax.specs.Word.{Word}
use Rattle.core_syntax.specs.Arrays.{Arrayed, array, runs}
use Rattle.core_syntax.specs.Answer as answers
use Rattle.core_syntax.specs.Answer.{Answer}
use Rattle.core_syntax.specs.Delta as d
use Rattle.core_syntax.specs.Delta.{delta}
use Rattle.core_syntax.specs.Terms.{IndexValue, TApp, term_list, TPrim, scalar_of}
use Rattle.core_syntax.specs.Move.{Goes}
use Rattle.core_syntax.specs.Rules.{atoms_of, array_term, fold_term}
use Rattle.core_syntax.specs.NormPut.{word_value, number_letters}
use Rattle.erasure.specs.Erased.{ErasedTerm, erased_rules}
use Rattle.core_syntax.specs.DeltaStuck.{given_values}
use Rattle.naturality.specs.WholeArrays.{IsWhole}
use Rattle.naturality.specs.Respects.{arr}
use Rattle.machine_table.specs.Values as values
use Rattle.machine_table.specs.Values.{Env, Atom, PrimAtom}
use Rattle.machine_table.specs.Begins.{Entry, Refuses, Enters, Answers, Faults, Folds, apply_entry}
use Rattle.lowering.specs.Runs.{Comp}
use Rattle.evaluation.specs.Plugged.{norm_values, atom_cell}
use Rattle.evaluation.specs.Typing.{CellsOnly, IsReduce}
use Rattle.evaluation.specs.Setting.{Setting}
use Rattle.evaluation.proofs.steps.Contexts.{one}
use Rattle.evaluation.proofs.steps.Rests.{dims_are, atoms_are}
use Rattle.evaluation.proofs.forms.Comes.{val, vals, Fit, EntersWell}
use Rattle.evaluation.proofs.steps.Collapsed.{value_rests}
use Rattle.evaluation.proofs.forms.MapRuns.{StepsAs}
use Rattle.evaluation.proofs.forms.FoldRuns.{TurnsAs, turns_come}
use Rattle.evaluation.proofs.forms.PrimRuns.{types_note, AppliesAs, FoldSteps, applies}
use Rattle.evaluation.proofs.forms.DeltaFits.{AnswerFits, IsFolding}
use Rattle.evaluation.proofs.forms.DeltaFitRows.{delta_fits}

letters_back : (ns : List ℕ) → word_value (number_letters ns) ≡ ns
letters_back [] = refl
letters_back (n ∷ ns) = ap (λ z. n ∷ z) (letters_back ns)

module _ {A : Type 0} (W : Setting A) (enter : Env A → ℕ → Comp (Arrayed A)) (K : ℕ) (enters : EntersWell W K enter) where
  -- no other fold begins
  abbrev NoFold : A → Arrayed A → List (Arrayed A) → Type 0
  NoFold f acc xs = ⊥

  to_turn : (U : Ty) (t : ErasedTerm) (x : Entry A) → AppliesAs W enter K enters NoFold U t x → TurnsAs W enter K U t x
  to_turn U t (Refuses k) h = h
  to_turn U t (Enters env b) h = h
  to_turn U t (Answers a) h = h
  to_turn U t (Faults k) h = h
  to_turn U t (Folds f acc xs) h = h

  -- a function that isn't `reduce`
  abbrev pub NotReduce : A → Type 0
  NotReduce f = (typed : Bool) (is : Option (List IndexValue)) → W.rules.parts f ≡ PrimAtom p.Reduce typed is → ⊥

  folding_two : (q : Primitive) (is : List IndexValue) (a b : Arrayed A) (g : A) (acc : Option (Arrayed A)) (items : List (Arrayed A)) → IsFolding q → delta (values.atom_rules W.rules) q is (a ∷ b ∷ []) ≡ answers.Folds g acc items → q ≡ p.Reduce
  folding_two p.Reduce is a b g acc items f e = refl
  folding_two p.Fold is a b g acc items f e = absurd (cc)
  folding_two _ is a b g acc items f e = absurd f

  -- a turn's application
  turn_steps : (f : A) → W.fits f → NotReduce f → (cs : List Word) (r : Word) (U : Ty) (acc x : Arrayed A) → Fit W acc → Fit W x → CellsOnly (vals W (acc ∷ x ∷ [])) cs → W.good U (TApp (scalar_of (W.cell f)) (term_list (vals W (acc ∷ x ∷ []))) cs r)
      → TurnsAs W enter K U (TApp (scalar_of (W.cell f)) (term_list (vals W (acc ∷ x ∷ []))) cs r) (apply_entry W.rules f (acc ∷ x ∷ []))
  turn_steps f fits not_reduce cs r U acc x ha hx cells g =
      to_turn U (TApp (scalar_of (W.cell f)) (term_list (vals W (acc ∷ x ∷ []))) cs r) (apply_entry W.rules f (acc ∷ x ∷ []))
      (applies W enter K enters NoFold U (acc ∷ x ∷ []) cs r (ha, (hx, tt)) cells f fits g folds)
    where
      folds : (q : Primitive) (typed : Bool) (is : Option (List IndexValue)) → W.rules.parts f ≡ PrimAtom q typed is → FoldSteps W enter K enters NoFold U (acc ∷ x ∷ []) cs r (ha, (hx, tt)) cells q typed is
      folds q typed is at h first items held unstuck e step =
          let f = delta_fits (values.atom_rules W.rules) (λ a. ⊤) (λ z. tt) (λ b. tt) (λ vs a e f k. tt) q (given_values is) (acc ∷ x ∷ []) ((held.0.0, all_true acc.atoms), ((held.1.0.0, all_true x.atoms), tt)) in
          let folding : IsFolding q = subst (AnswerFits (λ a. ⊤) (IsFolding q)) e f in
          let is_reduce = folding_two q (given_values is) acc x h first items folding e in
          absurd (not_reduce typed is (at ∙ ap (λ q. PrimAtom q typed is) is_reduce))
        where
          all_true : (xs : List A) → Each (λ a. ⊤) xs
          all_true [] = tt
          all_true (x ∷ xs) = (tt, all_true xs)

  -- ---- the nested applications of a fold

  pub items_are : (xs : List (Arrayed A)) → each (array_term erased_rules tt) (each (arr W.cell) xs) ≡ vals W xs
  items_are [] = refl
  items_are (x ∷ xs) = ap (λ ts. val W x ∷ ts) (items_are xs)

  two_cells : (wa wi : Word) (acc x : Arrayed A) → acc.dims ≡ word_value wa → x.dims ≡ word_value wi → CellsOnly (vals W (acc ∷ x ∷ [])) (wa ∷ wi ∷ [])
  two_cells wa wi acc x e f = λ i. (dims_are acc.dims (each W.cell acc.atoms) ∙ e) i ∷ (dims_are x.dims (each W.cell x.atoms) ∙ f) i ∷ []

  pub fold_steps : (f : A) → W.fits f → NotReduce f → (wa wi : Word) (U : Ty) (t : ErasedTerm) (acc : Arrayed A) (items : List (Arrayed A)) → Fit W acc → acc.dims ≡ word_value wa → Each (λ x. Fit W x × (x.dims ≡ word_value wi)) items → W.good U t
      → one W.defs t ≡ Goes (fold_term erased_rules (W.cell f) (wa ∷ wi ∷ []) wa (val W acc) (vals W items)) → StepsAs W enter K U t (Folds f acc items)
  fold_steps f fits not_reduce wa wi U t acc items ha ea hs g e = (
    fold_term erased_rules (W.cell f) (wa ∷ wi ∷ []) wa (val W acc) (vals W items),
    e,
    (λ C J q hand inside takes.
        turns_come W enter K f fits (wa ∷ wi ∷ []) wa (word_value wa) (word_value wi) refl
        (λ U acc x ha hx ea ex g. W.typing.app_dims U (W.cell f) (vals W (acc ∷ x ∷ [])) (wa ∷ wi ∷ []) wa g (value_rests W acc ha, (value_rests W x hx, tt)) (two_cells wa wi acc x ea ex))
        (λ U acc x ha hx ea ex g. turn_steps f fits not_reduce (wa ∷ wi ∷ []) wa U acc x ha hx (two_cells wa wi acc x ea ex) g)
        U C J q hand inside takes acc ha ea items hs (W.typing.keeps U t (fold_term erased_rules (W.cell f) (wa ∷ wi ∷ []) wa (val W acc) (vals W items)) g e)),
  )

  -- ---- what a fold's arguments are

  -- the function, the first accumulator and the items
  abbrev pub FoldOf : (fs : List A) (first : Option (Arrayed A)) (items : Arrayed A) → A → Option (Arrayed A) → List (Arrayed A) → Type 0
  FoldOf fs first items f acc xs =
      (n : ℕ) × (s : List ℕ) × (fs ≡ f ∷ []) × (acc ≡ first) × (items.dims ≡ n ∷ s) × (xs ≡ each (array s) (runs n (product s) items.atoms))

  pub fold_of : (fs : List A) (first : Option (Arrayed A)) (items : Arrayed A) (f : A) (acc : Option (Arrayed A)) (xs : List (Arrayed A)) → d.folds (values.atom_rules W.rules) fs first items ≡ answers.Folds f acc xs → FoldOf fs first items f acc xs
  fold_of [] first items f acc xs e = absurd (cc)
  fold_of (g ∷ h ∷ fs) first items f acc xs e = absurd (cc)
  fold_of (g ∷ []) first items f acc xs e = by items.dims refl e
    where
      by : (dims : List ℕ) → items.dims ≡ dims
          → d.by_leading (values.atom_rules W.rules) dims items.atoms (λ n s xs. elim (nat_le n (2 ^ 24)) as (λ b. Answer A) [ true ↦ answers.Folds g first (each (array s) (runs n (product s) xs)) | false ↦ answers.Traps trap.Size ])
          ≡ answers.Folds f acc xs
          → FoldOf (g ∷ []) first items f acc xs
      by [] at e = absurd (cc)
      by (n ∷ s) at e = within (nat_le n (2 ^ 24)) e
        where
          within : (b : Bool) → elim b as (λ b. Answer A) [ true ↦ answers.Folds g first (each (array s) (runs n (product s) items.atoms)) | false ↦ answers.Traps trap.Size ] ≡ answers.Folds f acc xs → FoldOf (g ∷ []) first items f acc xs
          within false e = absurd (cc)
          within true e =
              let fun : g ≡ f = cc in
              let start : first ≡ acc = cc in
              let rest : each (array s) (runs n (product s) items.atoms) ≡ xs = cc in
              (n, s, ap (λ g. g ∷ []) fun, sym start, at, sym rest)

  -- items that fit
  pub items_fit : (s : List ℕ) (rows : List (List A)) → Each IsWhole (each (array s) rows) → Each (Each W.fits) rows → Each (λ x. Fit W x × (x.dims ≡ s)) (each (array s) rows)
  items_fit s [] h k = tt
  items_fit s (r ∷ rows) h k = (((h.0.0, k.0), refl), items_fit s rows h.1 k.1)

  -- the function of a fold isn't `reduce`
  pub not_reduce_is : (U : Ty) (q : Primitive) (typed : Bool) (is : Option (List IndexValue)) (fa : Arrayed A) (rest : List (Arrayed A)) (cs : List Word) (r : Word) (f : A) → IsFolding q → fa.atoms ≡ f ∷ []
      → W.good U (TApp (scalar_of (TPrim q (types_note typed) (norm_values is))) (term_list (vals W (fa ∷ rest))) cs r) → NotReduce f
  not_reduce_is U q typed is fa rest cs r f folding at g typed' is' e =
      by q folding (W.typing.no_inner_fold U q (types_note typed) (norm_values is) (val W fa) (vals W rest) cs r g (subst IsReduce (sym atoms) (reduce typed')))
    where
      cell_is : (typed' : Bool) → W.rules.parts f ≡ PrimAtom p.Reduce typed' is' → W.cell f ≡ TPrim p.Reduce (types_note typed') (norm_values is')
      cell_is true e = W.reads.cells f ∙ ap (atom_cell W.cell W.bodies) e
      cell_is false e = W.reads.cells f ∙ ap (atom_cell W.cell W.bodies) e

      reduce : (typed' : Bool) → IsReduce (TPrim p.Reduce (types_note typed') (norm_values is') ∷ [])
      reduce typed' = tt

      atoms : atoms_of erased_rules (val W fa) ≡ TPrim p.Reduce (types_note typed') (norm_values is') ∷ []
      atoms = atoms_are fa.dims (each W.cell fa.atoms) ∙ ap (each W.cell) at ∙ ap (λ c. c ∷ []) (cell_is typed' e)

      by : (q : Primitive) → IsFolding q → (q ≡ p.Reduce → ⊥) × (q ≡ p.Fold → ⊥) → ⊥
      by p.Reduce folding h = h.0 refl
      by p.Fold folding h = h.1 refl
      by _ folding h = absurd folding
