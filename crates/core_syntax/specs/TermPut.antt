-- Substitution in terms. What is put in the place of a variable is closed, so it stays as it is under binders.
use Rattle.std.specs.Prelude.{ℕ, option_map}
use Rattle.core_syntax.specs.Subst.{Fates, under_n, in_place}
use Rattle.core_syntax.specs.Lists.{each}
use Rattle.core_syntax.specs.Terms.{Notes, Term, TVar, TDef, TArray, TNoAtoms, TFrame, TNoCells, TApp, TTypeApp, TIndexApp, TUnbox, Terms, no_terms, more_terms, Cell, TInt, TBool, TChar, TPrim, TFn, TTypeFn, TIndexFn, TBoxed, Cells, no_cells, more_cells, NoteRules}

-- the fates of term variables under n binders more
abbrev pub terms_under : {A : Type 0} → ℕ → Fates A → Fates A
terms_under n τ = under_n n (λ a. a) τ

module _ {N : Notes} (O : NoteRules N) where
  -- a term with notes' variables put in place and with the fates of its term variables
  abbrev mutual
    pub term_put : O.Puts → Fates (Term N) → Term N → Term N
    term_put σ τ (TVar k) = in_place TVar (τ k)
    term_put σ τ (TDef k) = TDef k
    term_put σ τ (TArray dims xs) = TArray dims (cells_put σ τ xs)
    term_put σ τ (TNoAtoms dims a) = TNoAtoms dims (O.on_atom σ a)
    term_put σ τ (TFrame dims ts f) = TFrame dims (terms_put σ τ ts) (O.on_frame σ f)
    term_put σ τ (TNoCells w) = TNoCells (O.on_whole σ w)
    term_put σ τ (TApp f ts cs r) = TApp (term_put σ τ f) (terms_put σ τ ts) (each (O.on_cell σ) cs) (O.on_result σ r)
    term_put σ τ (TTypeApp t us r) = TTypeApp (term_put σ τ t) (O.on_types σ us) (O.on_result σ r)
    term_put σ τ (TIndexApp t is r) = TIndexApp (term_put σ τ t) (each (O.on_index σ) is) (O.on_result σ r)
    term_put σ τ (TUnbox ss t b r) = TUnbox ss (term_put σ τ t) (term_put (O.under_sorts ss σ) (terms_under 1 τ) b) (O.on_result σ r)

    -- the same in each term of a list
    pub terms_put : O.Puts → Fates (Term N) → Terms N → Terms N
    terms_put σ τ no_terms = no_terms
    terms_put σ τ (more_terms t ts) = more_terms (term_put σ τ t) (terms_put σ τ ts)

    -- in an atom
    pub cell_put : O.Puts → Fates (Term N) → Cell N → Cell N
    cell_put σ τ (TInt z) = TInt z
    cell_put σ τ (TBool b) = TBool b
    cell_put σ τ (TChar c) = TChar c
    cell_put σ τ (TPrim p us is) = TPrim p (option_map (O.on_types σ) us) (option_map (each (O.on_index σ)) is)
    cell_put σ τ (TFn i t) = TFn (O.on_inputs σ i) (term_put σ (terms_under (O.arity i) τ) t)
    cell_put σ τ (TTypeFn n t) = TTypeFn n (term_put (O.under_count n σ) τ t)
    cell_put σ τ (TIndexFn ss t) = TIndexFn ss (term_put (O.under_sorts ss σ) τ t)
    cell_put σ τ (TBoxed is t b) = TBoxed (each (O.on_index σ) is) (term_put σ τ t) (O.on_box σ b)

    -- and in each atom of a list
    pub cells_put : O.Puts → Fates (Term N) → Cells N → Cells N
    cells_put σ τ no_cells = no_cells
    cells_put σ τ (more_cells a xs) = more_cells (cell_put σ τ a) (cells_put σ τ xs)
