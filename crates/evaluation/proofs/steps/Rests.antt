-- Values as terms: they rest where their boxes' indices fit, and they have the dims and the atoms of the values.
use Rattle.std.proofs.Common.{◌≡◌, refl, ap, ◌∙◌, ℕ, List, [], ◌∷◌}
use Rattle.core_syntax.specs.Lists.{each, Each}
use Rattle.core_syntax.specs.Arrays.{Arrayed}
use Rattle.core_syntax.specs.Terms.{IndexValue, DimValue, ShapeValue, TArray, more_terms, term_list, term_items, Cell, more_cells, cell_items, cell_list}
use Rattle.core_syntax.specs.Move.{Rests, first_move}
use Rattle.core_syntax.specs.Rules.{dims_of, atoms_of, array_term_of}
use Rattle.core_syntax.specs.NormPut.{norm_value, value_norm, word_value, number_letters}
use Rattle.erasure.specs.Erased.{erased, ErasedTerm, erased_rules}
use Rattle.machine_table.specs.Values.{ValueRules}
use Rattle.lowering.specs.Lower.{Body}
use Rattle.evaluation.specs.Plugged.{val_term}
use Rattle.evaluation.specs.Lawful.{FitArray, Reads}
use Rattle.evaluation.proofs.steps.Contexts.{one, some, one_cell, some_cells}

-- ---- the value of a value's normal form

letters_back : (ns : List ℕ) → word_value (number_letters ns) ≡ ns
letters_back [] = refl
letters_back (n ∷ ns) = ap (λ ms. n ∷ ms) (letters_back ns)

pub norm_back : (i : IndexValue) → norm_value (value_norm i) ≡ i
norm_back (DimValue n) = refl
norm_back (ShapeValue ns) = ap ShapeValue (letters_back ns)

pub norms_back : (is : List IndexValue) → each norm_value (each value_norm is) ≡ is
norms_back [] = refl
norms_back (i ∷ is) = λ j. norm_back i j ∷ norms_back is j

-- ---- lists of parts as lists

pub cells_back : (xs : List (Cell erased)) → cell_items (cell_list xs) ≡ xs
cells_back [] = refl
cells_back (x ∷ xs) = ap (λ ys. x ∷ ys) (cells_back xs)

pub items_back : (ts : List ErasedTerm) → term_items (term_list ts) ≡ ts
items_back [] = refl
items_back (t ∷ ts) = ap (λ us. t ∷ us) (items_back ts)

-- ---- an array as a term

pub dims_are : (dims : List ℕ) (xs : List (Cell erased)) → dims_of erased_rules (array_term_of erased_rules tt dims xs) ≡ dims
dims_are dims [] = refl
dims_are dims (x ∷ xs) = refl

pub atoms_are : (dims : List ℕ) (xs : List (Cell erased)) → atoms_of erased_rules (array_term_of erased_rules tt dims xs) ≡ xs
atoms_are dims [] = refl
atoms_are dims (x ∷ xs) = cells_back (x ∷ xs)

-- a term is a value
abbrev pub Resting : List ErasedTerm → ErasedTerm → Type 0
Resting defs t = one defs t ≡ Rests

module _ (defs : List ErasedTerm) where
  -- atoms that rest
  pub list_rests : (xs : List (Cell erased)) → Each (λ x. one_cell defs x ≡ Rests) xs → some_cells defs (cell_list xs) ≡ Rests
  list_rests [] h = refl
  list_rests (x ∷ xs) h =
      ap (λ m. first_move m (λ b. more_cells b (cell_list xs)) (first_move (some_cells defs (cell_list xs)) (more_cells x) Rests)) h.0 ∙ ap (λ m. first_move m (more_cells x) Rests) (list_rests xs h.1)

  -- an array of them
  pub array_rests : (dims : List ℕ) (xs : List (Cell erased)) → Each (λ x. one_cell defs x ≡ Rests) xs → Resting defs (array_term_of erased_rules tt dims xs)
  array_rests dims [] h = refl
  array_rests dims (x ∷ xs) h = ap (λ m. first_move m (TArray dims) Rests) (list_rests (x ∷ xs) h)

  -- a list of terms that rest
  pub terms_rest : (ts : List ErasedTerm) → Each (Resting defs) ts → some defs (term_list ts) ≡ Rests
  terms_rest [] h = refl
  terms_rest (t ∷ ts) h = ap (λ m. first_move m (λ u. more_terms u (term_list ts)) (first_move (some defs (term_list ts)) (more_terms t) Rests)) h.0 ∙ ap (λ m. first_move m (more_terms t) Rests) (terms_rest ts h.1)

  module _ {A : Type 0} (bodies : List Body) (R : ValueRules A) (cell : A → Cell erased) (fits : A → Type 0) (reads : Reads bodies R cell fits) where
    pub each_rests : (xs : List A) → Each fits xs → Each (λ x. one_cell defs x ≡ Rests) (each cell xs)
    each_rests [] h = tt
    each_rests (x ∷ xs) h = (reads.rests defs x h.0, each_rests xs h.1)

    -- a value rests
    pub rests : (a : Arrayed A) → FitArray bodies cell fits a → Resting defs (val_term cell a)
    rests a h = array_rests a.dims (each cell a.atoms) (each_rests a.atoms h.1)

    pub all_rest : (xs : List (Arrayed A)) → Each (FitArray bodies cell fits) xs → Each (Resting defs) (each (val_term cell) xs)
    all_rest [] h = tt
    all_rest (x ∷ xs) h = (rests x h.0, all_rest xs h.1)
