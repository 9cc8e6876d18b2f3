-- A step of an erased term is the step of the typed one, erased.
use Rattle.std.proofs.Common.{◌≡◌, refl, sym, ◌∙◌, ap, ℕ, zero, suc, List, [], ◌∷◌, ◌++◌, Bool, true, false, length}
use Rattle.std.specs.Prelude.{slice_get}
use Rattle.core_syntax.specs.declared.errors.TrapKind.TheVariants as trap
use Rattle.core_syntax.specs.Fits.{forms, all_fit}
use Rattle.core_syntax.specs.Lists.{each, Each, onto}
use Rattle.core_syntax.specs.Move.{Move, if_there, Goes, Trapped, Rests, first_move}
use Rattle.core_syntax.specs.Norm.{norm_word}
use Rattle.core_syntax.specs.Prims.{array_of}
use Rattle.core_syntax.specs.Rules.{goes_empty, if_room, box_rests, atoms_of, dims_of, collapse, apply, over_value, type_beta, index_beta, unbox_one}
use Rattle.core_syntax.specs.Step.{step, terms_step, cells_step, cell_step}
use Rattle.core_syntax.specs.Subst.{with_indices}
use Rattle.core_syntax.specs.Syntax.{Ty, Index, Tys, more_tys, Arr, no_tys, Fun, no_span, Forall, Pi, Sigma}
use Rattle.core_syntax.specs.TermTyping.{HasTerm, HasCell, TermArgsHave, TermsHave, CellsHave, DefTermsTyped}
use Rattle.core_syntax.specs.Terms.{Cell, Terms, Cells, term_items, no_terms, more_terms, TVar, TDef, TArray, no_cells, more_cells, TNoAtoms, TFrame, TNoCells, TApp, TTypeApp, TIndexApp, TUnbox, TBoxed, TInt, TBool, TChar, TPrim, TFn, TTypeFn, TIndexFn}
use Rattle.core_syntax.specs.Typed.{typed, Whole, typed_rules, TypedTerm, closed_value}
use Rattle.core_syntax.specs.Typing.{defs_only}
use Rattle.core_syntax.specs.Value.{then_shape}
use Rattle.core_syntax.specs.Word.{Word}
use Rattle.reduction_laws.proofs.steps.Parts.{parts_of}
use Rattle.reduction_laws.proofs.runs.TypedRuns.{rests_array}
use Rattle.erasure.specs.Erased.{erased_rules, ErasedTerm, ErasedCell}
use Rattle.erasure.specs.Erasure.{er, cell_word, er_cell, norm_in, er_terms, er_cells}
use Rattle.core_syntax.specs.NormPut.{word_value, number_letters}
use Rattle.erasure.proofs.together.Acts.{er_type_acts, er_index_acts, er_unbox_acts}
use Rattle.erasure.proofs.together.Answers.{IsClosedIndex, values_erased}
use Rattle.erasure.proofs.together.Applied.{move_map, er_items, er_dims}
use Rattle.erasure.proofs.together.Bodies.{Closed}
use Rattle.erasure.proofs.together.Rules.{er_empty, er_result_dims, er_collapse, er_over_value}
use Rattle.erasure.proofs.together.Scalars.{first_erased, apply_erased, each_sorted}

-- ---- what needs no types

-- the value of the whole shape of a frame without cells
number_values : (ns : List ℕ) (w : Word) → word_value (number_letters ns ++ w) ≡ ns ++ word_value w
number_values [] w = refl
number_values (n ∷ ns) w = ap (λ z. n ∷ z) (number_values ns w)

none_erased : (w : Whole) → move_map (er []) (goes_empty typed_rules (typed_rules.whole_dims w) (typed_rules.whole_atom w)) ≡ goes_empty erased_rules (word_value (number_letters w.dims ++ cell_word w.cell)) tt
none_erased w =
    er_empty [] (typed_rules.whole_dims w) (typed_rules.whole_atom w)
    ∙ ap (λ d. goes_empty erased_rules d tt) (sym (number_values w.dims (cell_word w.cell) ∙ ap (λ d. w.dims ++ d) (er_result_dims [] w.cell)))

-- `unfold`
unfolded_erased : (defs : List TypedTerm) (k : ℕ) → move_map (er []) (if_there (slice_get defs k) (λ t. Goes t)) ≡ if_there (slice_get (each (er []) defs) k) (λ t. Goes t)
unfolded_erased [] k = refl
unfolded_erased (t ∷ defs) zero = refl
unfolded_erased (t ∷ defs) (suc k) = unfolded_erased defs k

-- the `size` of a frame
room_erased : (dims : List ℕ) (m : Move TypedTerm) (m' : Move ErasedTerm) → move_map (er []) m ≡ m' → move_map (er []) (if_room typed_rules dims m) ≡ if_room erased_rules dims m'
room_erased dims m m' e = by (forms dims)
  where
    by : (b : Bool) → move_map (er []) (elim b as (λ b. Move TypedTerm) [ true ↦ m | false ↦ Trapped trap.Size ]) ≡ (elim b as (λ b. Move ErasedTerm) [ true ↦ m' | false ↦ Trapped trap.Size ])
    by true = e
    by false = refl

-- a box whose content is a value
box_erased : (is : List Index) → Each IsClosedIndex is → move_map (er_cell []) (box_rests typed_rules is) ≡ box_rests erased_rules (each (norm_in []) is)
box_erased is h =
    by (all_fit (each closed_value is))
    ∙ ap (λ vs. elim (all_fit vs) as (λ b. Move ErasedCell) [ true ↦ Rests | false ↦ Trapped trap.Size ]) (sym (values_erased is h))
  where
    by : (b : Bool) → move_map (er_cell []) (elim b as (λ b. Move (Cell typed)) [ true ↦ Rests | false ↦ Trapped trap.Size ]) ≡ (elim b as (λ b. Move ErasedCell) [ true ↦ Rests | false ↦ Trapped trap.Size ])
    by true = refl
    by false = refl

-- ---- steps

module _ (D : List Ty) (defs : List TypedTerm) where
  -- arguments are closed and typed
  args_closed : (es : Terms typed) (us : Tys) (cs ps : List Index) → TermArgsHave (defs_only D) es us cs ps → Each (Closed D) (term_items es)
  args_closed no_terms us cs ps h = tt
  args_closed (more_terms e es) (more_tys (Arr at a w) us) (c ∷ cs) (p ∷ ps) h = ((array_of a (then_shape p w), h.0.0), args_closed es us cs ps h.1)
  args_closed (more_terms e es) (more_tys _ us) (c ∷ cs) (p ∷ ps) h = absurd h.0
  args_closed (more_terms e es) no_tys cs ps h = absurd h
  args_closed (more_terms e es) (more_tys u us) [] ps h = absurd h
  args_closed (more_terms e es) (more_tys u us) (c ∷ cs) [] h = absurd h

  module _ (typed_defs : DefTermsTyped D defs) where
    -- the atoms of a value have the atom type of its type
    atoms : (t : TypedTerm) (a : Ty) (s : Index) → HasTerm (defs_only D) t (array_of a s) → step typed_rules defs t ≡ Rests → Each (λ x. HasCell (defs_only D) x a) (atoms_of typed_rules t)
    atoms t a s h e = (parts_of D t a s (rests_array D defs typed_defs t (array_of a s) h e) h).atoms

    abbrev E : TypedTerm → ErasedTerm
    E = er []

    abbrev ED : List ErasedTerm
    ED = each (er []) defs

    -- the first term of a list and then the others
    both_erased : (e : TypedTerm) (es : Terms typed) → move_map E (step typed_rules defs e) ≡ step erased_rules ED (E e) → move_map (er_terms []) (terms_step typed_rules defs es) ≡ terms_step erased_rules ED (er_terms [] es)
        → move_map (er_terms []) (terms_step typed_rules defs (more_terms e es)) ≡ terms_step erased_rules ED (er_terms [] (more_terms e es))
    both_erased e es first others =
        first_erased (er_terms []) E (λ u. more_terms u es) (λ u. more_terms u (er_terms [] es)) (step typed_rules defs e) (first_move (terms_step typed_rules defs es) (more_terms e) Rests)
        (first_move (terms_step erased_rules ED (er_terms [] es)) (more_terms (E e)) Rests) (λ u. refl)
        (λ k.
        first_erased (er_terms []) (er_terms []) (more_terms e) (more_terms (E e)) (terms_step typed_rules defs es) Rests Rests (λ us. refl) (λ l. refl)
        ∙ ap (λ m. first_move m (more_terms (E e)) Rests) others)
        ∙ ap (λ m. first_move m (λ u. more_terms u (er_terms [] es)) (first_move (terms_step erased_rules ED (er_terms [] es)) (more_terms (E e)) Rests)) first

    mutual
      pub step_erased : (t : TypedTerm) (T : Ty) → HasTerm (defs_only D) t T → move_map E (step typed_rules defs t) ≡ step erased_rules ED (E t)
      step_erased (TVar k) T h = refl
      step_erased (TDef k) T h = unfolded_erased defs k
      step_erased (TArray dims no_cells) T h = absurd h
      step_erased (TArray dims (more_cells x xs)) T h =
          first_erased E (er_cells []) (TArray dims) (TArray dims) (cells_step typed_rules defs (more_cells x xs)) Rests Rests (λ ys. refl) (λ k. refl)
          ∙ ap (λ m. first_move m (TArray dims) Rests) (cells_erased (more_cells x xs) h.0 (h.1, h.2))
      step_erased (TNoAtoms dims a) T h = refl
      step_erased (TFrame dims no_terms note) T h = refl
      step_erased (TFrame dims (more_terms e es) note) T h =
          first_erased E E (λ u. TFrame dims (more_terms u es) note) (λ u. TFrame dims (more_terms u (er_terms [] es)) tt) (step typed_rules defs e) _ later (λ u. refl)
          (λ k.
          room_erased (dims ++ dims_of typed_rules e) _ _
          (first_erased E (er_terms []) (λ us. TFrame dims (more_terms e us) note) (λ us. TFrame dims (more_terms (E e) us) tt) (terms_step typed_rules defs es) (Goes (collapse typed_rules dims e (term_items es) note)) collapsed (λ us. refl)
          (λ k. ap Goes (er_collapse [] dims e (term_items es) note ∙ ap (λ ts. collapse erased_rules dims (E e) ts tt) (sym (er_items [] es))))
          ∙ ap (λ m. first_move m (λ us. TFrame dims (more_terms (E e) us) tt) collapsed) (terms_erased es (array_of h.0 h.1) h.3))
          ∙ ap (λ d. if_room erased_rules (dims ++ d) (first_move (terms_step erased_rules ED (er_terms [] es)) (λ us. TFrame dims (more_terms (E e) us) tt) collapsed)) (sym (er_dims [] e)))
          ∙ ap (λ m. first_move m (λ u. TFrame dims (more_terms u (er_terms [] es)) tt) later) (step_erased e (array_of h.0 h.1) h.2)
        where
          collapsed : Move ErasedTerm
          collapsed = Goes (collapse erased_rules dims (E e) (term_items (er_terms [] es)) tt)

          later : Move ErasedTerm
          later = if_room erased_rules (dims ++ dims_of erased_rules (E e)) (first_move (terms_step erased_rules ED (er_terms [] es)) (λ us. TFrame dims (more_terms (E e) us) tt) collapsed)
      step_erased (TNoCells w) T h = none_erased w
      step_erased (TApp f es cs note) T h =
          first_erased E E (λ g. TApp g es cs note) (λ g. TApp g (er_terms [] es) (each norm_word cs) (cell_word note)) (step typed_rules defs f) _ later (λ g. refl)
          (λ k.
          first_erased E (er_terms []) (λ us. TApp f us cs note) (λ us. TApp (E f) us (each norm_word cs) (cell_word note)) (terms_step typed_rules defs es) (apply typed_rules f (term_items es) cs note) applied (λ us. refl)
          (λ l.
          apply_erased D f (Fun no_span h.0 h.1) (atoms f (Fun no_span h.0 h.1) h.2 h.3 k) (term_items es) (args_closed es h.0 cs h.4.0 h.4.1) cs note
          ∙ ap (λ ts. apply erased_rules (E f) ts (each norm_word cs) (cell_word note)) (sym (er_items [] es)))
          ∙ ap (λ m. first_move m (λ us. TApp (E f) us (each norm_word cs) (cell_word note)) applied) (args_erased es h.0 cs h.4.0 h.4.1))
          ∙ ap (λ m. first_move m (λ g. TApp g (er_terms [] es) (each norm_word cs) (cell_word note)) later) (step_erased f (array_of (Fun no_span h.0 h.1) h.2) h.3)
        where
          applied : Move ErasedTerm
          applied = apply erased_rules (E f) (term_items (er_terms [] es)) (each norm_word cs) (cell_word note)

          later : Move ErasedTerm
          later = first_move (terms_step erased_rules ED (er_terms [] es)) (λ us. TApp (E f) us (each norm_word cs) (cell_word note)) applied
      step_erased (TTypeApp e us note) T h =
          first_erased E E (λ u. TTypeApp u us note) (λ u. TTypeApp u tt (cell_word note)) (step typed_rules defs e) _ later (λ u. refl)
          (λ k. er_over_value [] e (λ a. TTypeApp a us note) (λ a. TTypeApp a tt (cell_word note)) (type_beta typed_rules us) (type_beta erased_rules tt) note (λ a. refl) (er_type_acts D us h.5 (atoms_of typed_rules e)))
          ∙ ap (λ m. first_move m (λ u. TTypeApp u tt (cell_word note)) later) (step_erased e (array_of (Forall no_span h.0 h.1) h.2) h.3)
        where
          later : Move ErasedTerm
          later = over_value erased_rules (E e) (λ a. TTypeApp a tt (cell_word note)) (type_beta erased_rules tt) (cell_word note)
      step_erased (TIndexApp e is note) T h =
          first_erased E E (λ u. TIndexApp u is note) (λ u. TIndexApp u (each (norm_in []) is) (cell_word note)) (step typed_rules defs e) _ later (λ u. refl)
          (λ k.
          er_over_value [] e (λ a. TIndexApp a is note) (λ a. TIndexApp a (each (norm_in []) is) (cell_word note)) (index_beta typed_rules is) (index_beta erased_rules (each (norm_in []) is)) note (λ a. refl)
          (er_index_acts D is h.0 h.1 h.4 (atoms_of typed_rules e) (atoms e (Pi no_span h.0 h.1) h.2 h.3 k)))
          ∙ ap (λ m. first_move m (λ u. TIndexApp u (each (norm_in []) is) (cell_word note)) later) (step_erased e (array_of (Pi no_span h.0 h.1) h.2) h.3)
        where
          later : Move ErasedTerm
          later = over_value erased_rules (E e) (λ a. TIndexApp a (each (norm_in []) is) (cell_word note)) (index_beta erased_rules (each (norm_in []) is)) (cell_word note)
      step_erased (TUnbox ss e b note) T h =
          first_erased E E (λ u. TUnbox ss u b note) (λ u. TUnbox (length ss) u (er (onto ss []) b) (cell_word note)) (step typed_rules defs e) _ later (λ u. refl)
          (λ k.
          er_over_value [] e (λ a. TUnbox ss a b note) (λ a. TUnbox (length ss) a (er (onto ss []) b) (cell_word note)) (unbox_one typed_rules b) (unbox_one erased_rules (er (onto ss []) b)) note (λ a. refl)
          (er_unbox_acts D ss h.0 b (atoms_of typed_rules e) (atoms e (Sigma no_span ss h.0) h.1 h.2 k)))
          ∙ ap (λ m. first_move m (λ u. TUnbox (length ss) u (er (onto ss []) b) (cell_word note)) later) (step_erased e (array_of (Sigma no_span ss h.0) h.1) h.2)
        where
          later : Move ErasedTerm
          later = over_value erased_rules (E e) (λ a. TUnbox (length ss) a (er (onto ss []) b) (cell_word note)) (unbox_one erased_rules (er (onto ss []) b)) (cell_word note)

      terms_erased : (es : Terms typed) (T : Ty) → TermsHave (defs_only D) es T → move_map (er_terms []) (terms_step typed_rules defs es) ≡ terms_step erased_rules ED (er_terms [] es)
      terms_erased no_terms T h = refl
      terms_erased (more_terms e es) T h = both_erased e es (step_erased e T h.0) (terms_erased es T h.1)

      args_erased : (es : Terms typed) (us : Tys) (cs ps : List Index) → TermArgsHave (defs_only D) es us cs ps → move_map (er_terms []) (terms_step typed_rules defs es) ≡ terms_step erased_rules ED (er_terms [] es)
      args_erased no_terms us cs ps h = refl
      args_erased (more_terms e es) (more_tys (Arr at a w) us) (c ∷ cs) (p ∷ ps) h = both_erased e es (step_erased e (array_of a (then_shape p w)) h.0.0) (args_erased es us cs ps h.1)
      args_erased (more_terms e es) (more_tys _ us) (c ∷ cs) (p ∷ ps) h = absurd h.0
      args_erased (more_terms e es) no_tys cs ps h = absurd h
      args_erased (more_terms e es) (more_tys u us) [] ps h = absurd h
      args_erased (more_terms e es) (more_tys u us) (c ∷ cs) [] h = absurd h

      cell_erased : (x : Cell typed) (a : Ty) → HasCell (defs_only D) x a → move_map (er_cell []) (cell_step typed_rules defs x) ≡ cell_step erased_rules ED (er_cell [] x)
      cell_erased (TBoxed is e (Sigma at ss b)) a h =
          first_erased (er_cell []) E (λ u. TBoxed is u (Sigma at ss b)) (λ u. TBoxed (each (norm_in []) is) u tt) (step typed_rules defs e) (box_rests typed_rules is) (box_rests erased_rules (each (norm_in []) is)) (λ u. refl)
          (λ k. box_erased is (each_sorted ss is h.1.0))
          ∙ ap (λ m. first_move m (λ u. TBoxed (each (norm_in []) is) u tt) (box_rests erased_rules (each (norm_in []) is))) (step_erased e (with_indices is b) h.1.1)
      cell_erased (TBoxed is e _) a h = absurd h.1
      cell_erased (TInt z) a h = refl
      cell_erased (TBool z) a h = refl
      cell_erased (TChar z) a h = refl
      cell_erased (TPrim q us is) a h = refl
      cell_erased (TFn i t) a h = refl
      cell_erased (TTypeFn n t) a h = refl
      cell_erased (TIndexFn ss t) a h = refl

      cells_erased : (xs : Cells typed) (a : Ty) → CellsHave (defs_only D) xs a → move_map (er_cells []) (cells_step typed_rules defs xs) ≡ cells_step erased_rules ED (er_cells [] xs)
      cells_erased no_cells a h = refl
      cells_erased (more_cells x xs) a h =
          first_erased (er_cells []) (er_cell []) (λ y. more_cells y xs) (λ y. more_cells y (er_cells [] xs)) (cell_step typed_rules defs x) (first_move (cells_step typed_rules defs xs) (more_cells x) Rests)
          (first_move (cells_step erased_rules ED (er_cells [] xs)) (more_cells (er_cell [] x)) Rests) (λ y. refl)
          (λ k.
          first_erased (er_cells []) (er_cells []) (more_cells x) (more_cells (er_cell [] x)) (cells_step typed_rules defs xs) Rests Rests (λ ys. refl) (λ l. refl)
          ∙ ap (λ m. first_move m (more_cells (er_cell [] x)) Rests) (cells_erased xs a h.1))
          ∙ ap (λ m. first_move m (λ y. more_cells y (er_cells [] xs)) (first_move (cells_step erased_rules ED (er_cells [] xs)) (more_cells (er_cell [] x)) Rests)) (cell_erased x a h.0)
