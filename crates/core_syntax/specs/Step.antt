-- One step of reduction, the same for typed and for erased terms, and runs.
use Rattle.std.specs.Prelude.{ℕ, zero, suc, ◌≤◌, ◌≡◌, List, ◌++◌, Option, Some, slice_get}
use Rattle.core_syntax.specs.declared.errors.TrapKind.{TrapKind}
use Rattle.core_syntax.specs.Terms.{Notes, Term, TVar, TDef, TArray, TNoAtoms, TFrame, TNoCells, TApp, TTypeApp, TIndexApp, TUnbox, Terms, no_terms, more_terms, Cell, TBoxed, Cells, no_cells, more_cells, NoteRules, term_items}
use Rattle.core_syntax.specs.Move.{Move, Rests, Trapped, Goes, Lost, first_move, if_there, where_it_goes}
use Rattle.core_syntax.specs.Rules.{dims_of, goes_empty, apply, over_value, type_beta, index_beta, unbox_one, if_room, collapse, box_rests}

module _ {N : Notes} (O : NoteRules N) (defs : List (Term N)) where
  -- `unfold`
  abbrev pub unfolded : ℕ → Move (Term N)
  unfolded k = if_there (slice_get defs k) (λ t. Goes t)

  -- one step of a closed term
  abbrev mutual
    pub step : Term N → Move (Term N)
    step (TVar k) = Lost
    step (TDef k) = unfolded k
    step (TArray dims xs) = first_move (cells_step xs) (TArray dims) Rests
    step (TNoAtoms dims a) = Rests
    step (TFrame dims no_terms n) = Lost
    step (TFrame dims (more_terms t ts) n) =
        first_move (step t) (λ u. TFrame dims (more_terms u ts) n)
        (if_room O (dims ++ dims_of O t)
        (first_move (terms_step ts) (λ us. TFrame dims (more_terms t us) n) (Goes (collapse O dims t (term_items ts) n))))
    step (TNoCells w) = goes_empty O (O.whole_dims w) (O.whole_atom w)
    step (TApp f ts cs r) =
        first_move (step f) (λ g. TApp g ts cs r)
        (first_move (terms_step ts) (λ us. TApp f us cs r) (apply O f (term_items ts) cs r))
    step (TTypeApp t us r) = first_move (step t) (λ u. TTypeApp u us r) (over_value O t (λ a. TTypeApp a us r) (type_beta O us) r)
    step (TIndexApp t is r) = first_move (step t) (λ u. TIndexApp u is r) (over_value O t (λ a. TIndexApp a is r) (index_beta O is) r)
    step (TUnbox ss t b r) = first_move (step t) (λ u. TUnbox ss u b r) (over_value O t (λ a. TUnbox ss a b r) (unbox_one O b) r)

    -- of the terms of a list, from left to right
    pub terms_step : Terms N → Move (Terms N)
    terms_step no_terms = Rests
    terms_step (more_terms t ts) = first_move (step t) (λ u. more_terms u ts) (first_move (terms_step ts) (more_terms t) Rests)

    -- of a box
    pub cell_step : Cell N → Move (Cell N)
    cell_step (TBoxed is t b) = first_move (step t) (λ u. TBoxed is u b) (box_rests O is)
    cell_step _ = Rests

    -- of the boxes in an array literal, from left to right
    pub cells_step : Cells N → Move (Cells N)
    cells_step no_cells = Rests
    cells_step (more_cells a xs) = first_move (cell_step a) (λ b. more_cells b xs) (first_move (cells_step xs) (more_cells a) Rests)

  -- the term after exactly k steps, if there are as many
  abbrev pub after : ℕ → Term N → Option (Term N)
  after zero t = Some t
  after (suc k) t = where_it_goes (step t) (after k)

  -- after exactly k steps the term is this value
  abbrev pub ReachesValue : ℕ → Term N → Term N → Type 0
  ReachesValue k t v = (after k t ≡ Some v) × (step v ≡ Rests)

  -- the k-th step traps with this kind
  abbrev pub TrapsAt : ℕ → Term N → TrapKind → Type 0
  TrapsAt zero t kind = ⊥
  TrapsAt (suc k) t kind = (u : Term N) × (after k t ≡ Some u) × (step u ≡ Trapped kind)

  -- neither holds for k or a smaller number; a term without a rule would go on too, but no typed term is one
  abbrev pub GoesOn : ℕ → Term N → Type 0
  GoesOn k t = (j : ℕ) → j ≤ k → ((v : Term N) → ¬ ReachesValue j t v) × ((kind : TrapKind) → ¬ TrapsAt j t kind)

  -- a value is reached at k or before
  abbrev pub ReachedBy : ℕ → Term N → Type 0
  ReachedBy k t = (j : ℕ) × (j ≤ k) × ((v : Term N) × ReachesValue j t v)

  -- the run has trapped at k or before
  abbrev pub TrappedBy : ℕ → Term N → Type 0
  TrappedBy k t = (j : ℕ) × (j ≤ k) × ((kind : TrapKind) × TrapsAt j t kind)
