-- The places of a term at which it steps as its part does.
use Rattle.std.proofs.Common.{◌≡◌, refl, ap, ◌∙◌, ℕ, Bool, true, false, List, ◌++◌}
use Rattle.core_syntax.specs.declared.errors.TrapKind.TheVariants as trap
use Rattle.core_syntax.specs.declared.norm.NormIndex.{NormIndex}
use Rattle.core_syntax.specs.Fits.{forms}
use Rattle.core_syntax.specs.Terms.{TArray, TFrame, TApp, TTypeApp, TIndexApp, TUnbox, Terms, more_terms, term_items, Cell, TBoxed, Cells, more_cells}
use Rattle.core_syntax.specs.Word.{Word}
use Rattle.core_syntax.specs.Move.{Move, Rests, Trapped, Goes, first_move}
use Rattle.core_syntax.specs.Step.{step, terms_step, cell_step, cells_step}
use Rattle.core_syntax.specs.Rules.{dims_of, if_room, collapse, apply, over_value, type_beta, index_beta, unbox_one, box_rests}
use Rattle.erasure.specs.Erased.{erased, ErasedTerm, erased_rules}
use Rattle.evaluation.proofs.steps.Reduces.{Inside}

module _ (defs : List ErasedTerm) where
  -- the step of a term
  abbrev pub one : ErasedTerm → Move ErasedTerm
  one = step erased_rules defs

  -- of a list of terms: that of the first one that has one
  abbrev pub some : Terms erased → Move (Terms erased)
  some = terms_step erased_rules defs

  -- of an atom
  abbrev pub one_cell : Cell erased → Move (Cell erased)
  one_cell = cell_step erased_rules defs

  -- of a list of atoms
  abbrev pub some_cells : Cells erased → Move (Cells erased)
  some_cells = cells_step erased_rules defs

  -- a part whose move comes first, with what comes later; and one that comes behind a part that rests
  inside_first : {X Y : Type 0} (s : X → Move X) (w : Y → Move Y) (C : X → Y) (later : X → Move Y) → ((x : X) → w (C x) ≡ first_move (s x) C (later x)) → Inside s w C
  inside_first s w C later is = record { goes = λ x y e. is x ∙ ap (λ m. first_move m C (later x)) e; traps = λ x k e. is x ∙ ap (λ m. first_move m C (later x)) e }

  pub in_first : (ts : Terms erased) → Inside one some (λ t. more_terms t ts)
  in_first ts = inside_first one some (λ t. more_terms t ts) (λ t. first_move (some ts) (more_terms t) Rests) (λ t. refl)

  pub in_rest : (t : ErasedTerm) → one t ≡ Rests → Inside some some (more_terms t)
  in_rest t e = inside_first some some (more_terms t) (λ ts. Rests) (λ ts. ap (λ m. first_move m (λ u. more_terms u ts) (first_move (some ts) (more_terms t) Rests)) e)

  pub in_first_cell : (xs : Cells erased) → Inside one_cell some_cells (λ a. more_cells a xs)
  in_first_cell xs = inside_first one_cell some_cells (λ a. more_cells a xs) (λ a. first_move (some_cells xs) (more_cells a) Rests) (λ a. refl)

  pub in_rest_cells : (a : Cell erased) → one_cell a ≡ Rests → Inside some_cells some_cells (more_cells a)
  in_rest_cells a e = inside_first some_cells some_cells (more_cells a) (λ xs. Rests) (λ xs. ap (λ m. first_move m (λ b. more_cells b xs) (first_move (some_cells xs) (more_cells a) Rests)) e)

  pub in_array : (dims : List ℕ) → Inside some_cells one (TArray dims)
  in_array dims = inside_first some_cells one (TArray dims) (λ xs. Rests) (λ xs. refl)

  pub in_box : (is : List NormIndex) → Inside one one_cell (λ t. TBoxed is t tt)
  in_box is = inside_first one one_cell (λ t. TBoxed is t tt) (λ t. box_rests erased_rules is) (λ t. refl)

  pub in_frame_first : (dims : List ℕ) (ts : Terms erased) → Inside one one (λ t. TFrame dims (more_terms t ts) tt)
  in_frame_first dims ts =
      inside_first one one (λ t. TFrame dims (more_terms t ts) tt)
      (λ t. if_room erased_rules (dims ++ dims_of erased_rules t) (first_move (some ts) (λ us. TFrame dims (more_terms t us) tt) (Goes (collapse erased_rules dims t (term_items ts) tt)))) (λ t. refl)

  -- a frame behind its first cell, which has room
  pub frame_step : (dims : List ℕ) (t : ErasedTerm) (ts : Terms erased) (b : Bool) → one t ≡ Rests → forms (dims ++ dims_of erased_rules t) ≡ b
      → one (TFrame dims (more_terms t ts) tt)
      ≡ elim b as (λ b. Move ErasedTerm) [ true ↦ first_move (some ts) (λ us. TFrame dims (more_terms t us) tt) (Goes (collapse erased_rules dims t (term_items ts) tt)) | false ↦ Trapped trap.Size ]
  frame_step dims t ts b e f =
      ap (λ m. first_move m (λ u. TFrame dims (more_terms u ts) tt)
      (if_room erased_rules (dims ++ dims_of erased_rules t) (first_move (some ts) (λ us. TFrame dims (more_terms t us) tt) (Goes (collapse erased_rules dims t (term_items ts) tt))))) e
      ∙ ap (λ b. elim b as (λ b. Move ErasedTerm) [ true ↦ first_move (some ts) (λ us. TFrame dims (more_terms t us) tt) (Goes (collapse erased_rules dims t (term_items ts) tt)) | false ↦ Trapped trap.Size ]) f

  pub in_frame_rest : (dims : List ℕ) (t : ErasedTerm) → one t ≡ Rests → forms (dims ++ dims_of erased_rules t) ≡ true → Inside some one (λ ts. TFrame dims (more_terms t ts) tt)
  in_frame_rest dims t e f =
      inside_first some one (λ ts. TFrame dims (more_terms t ts) tt) (λ ts. Goes (collapse erased_rules dims t (term_items ts) tt)) (λ ts. frame_step dims t ts true e f)

  pub in_function : (ts : Terms erased) (cs : List Word) (r : Word) → Inside one one (λ f. TApp f ts cs r)
  in_function ts cs r = inside_first one one (λ f. TApp f ts cs r) (λ f. first_move (some ts) (λ us. TApp f us cs r) (apply erased_rules f (term_items ts) cs r)) (λ f. refl)

  pub in_arguments : (f : ErasedTerm) (cs : List Word) (r : Word) → one f ≡ Rests → Inside some one (λ ts. TApp f ts cs r)
  in_arguments f cs r e =
      inside_first some one (λ ts. TApp f ts cs r) (λ ts. apply erased_rules f (term_items ts) cs r)
      (λ ts. ap (λ m. first_move m (λ g. TApp g ts cs r) (first_move (some ts) (λ us. TApp f us cs r) (apply erased_rules f (term_items ts) cs r))) e)

  pub in_types : (r : Word) → Inside one one (λ t. TTypeApp t tt r)
  in_types r = inside_first one one (λ t. TTypeApp t tt r) (λ t. over_value erased_rules t (λ a. TTypeApp a tt r) (type_beta erased_rules tt) r) (λ t. refl)

  pub in_indices : (is : List NormIndex) (r : Word) → Inside one one (λ t. TIndexApp t is r)
  in_indices is r = inside_first one one (λ t. TIndexApp t is r) (λ t. over_value erased_rules t (λ a. TIndexApp a is r) (index_beta erased_rules is) r) (λ t. refl)

  pub in_unbox : (n : ℕ) (b : ErasedTerm) (r : Word) → Inside one one (λ t. TUnbox n t b r)
  in_unbox n b r = inside_first one one (λ t. TUnbox n t b r) (λ t. over_value erased_rules t (λ a. TUnbox n a b r) (unbox_one erased_rules b) r) (λ t. refl)
