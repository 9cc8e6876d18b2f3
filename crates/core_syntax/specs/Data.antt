-- Data: arrays of base atoms and boxes, without types.
use Rattle.std.specs.Prelude.{ℕ, suc, ℤ, pos, Bool, true, ◌≡◌, List, [], ◌∷◌, ⊤, IsTrue}
use Rattle.std.specs.Char.{IsScalar}
use Rattle.core_syntax.specs.declared.index.Sort.{Sort}
use Rattle.core_syntax.specs.declared.index.Sort.TheVariants as sort
use Rattle.core_syntax.specs.declared.ty.Base.TheVariants as base
use Rattle.core_syntax.specs.Syntax.{Ty, BaseTy, Sigma, Arr}
use Rattle.core_syntax.specs.Lists.{each, EachTwo, product}
use Rattle.core_syntax.specs.Value.{shape_val}
use Rattle.core_syntax.specs.Subst.{with_indices}
use Rattle.core_syntax.specs.Fits.{forms, all_fit}
use Rattle.core_syntax.specs.Delta.{is_int}
use Rattle.core_syntax.specs.Terms.{IndexValue, DimValue, ShapeValue, Notes, Term, TArray, TNoAtoms, Cell, TInt, TBool, TChar, TBoxed, Cells, no_cells, more_cells, NoteRules}
use Rattle.core_syntax.specs.Typed.{typed, TypedTerm, closed, value_index}

mutual
  -- an array of data: its dims and its atoms
  pub data Data : Type 0 where
    DataArray : List ℕ → DataAtoms → Data

  -- an atom of data
  pub data DataAtom : Type 0 where
    DataInt : ℤ → DataAtom
    DataBool : Bool → DataAtom
    DataChar : ℕ → DataAtom
    DataBox : List IndexValue → Data → DataAtom
    -- a function, which no data that fits holds
    DataFn : DataAtom

  -- a list of atoms
  pub data DataAtoms : Type 0 where
    no_data : DataAtoms
    more_data : DataAtom → DataAtoms → DataAtoms

-- how many atoms a list has
abbrev pub data_count : DataAtoms → ℕ
data_count no_data = 0
data_count (more_data a xs) = suc (data_count xs)

-- the value has the sort
abbrev pub HasSort : Sort → IndexValue → Type 0
HasSort sort.Dim (DimValue n) = ⊤
HasSort sort.Dim (ShapeValue s) = ⊥
HasSort sort.Shape (DimValue n) = ⊥
HasSort sort.Shape (ShapeValue s) = ⊤

-- data fits a closed type: its dims are the value of the type's shape, and each atom is of the atom type. All dims meet `forms`, integers are of 64 bits, characters are Unicode scalar values, and boxes' indices fit
abbrev mutual
  pub FitsType : Ty → Data → Type 0
  FitsType (Arr at t i) (DataArray dims xs) = (dims ≡ shape_val closed i) × (forms dims ≡ true) × (data_count xs ≡ product dims) × AtomsFit t xs
  FitsType _ (DataArray dims xs) = ⊥

  -- an atom fits an atom type
  pub AtomFits : Ty → DataAtom → Type 0
  AtomFits (BaseTy at base.Int) (DataInt z) = IsTrue (is_int z)
  AtomFits (BaseTy at base.Bool) (DataBool b) = ⊤
  AtomFits (BaseTy at base.Char) (DataChar c) = IsScalar c
  AtomFits (Sigma at ss t) (DataBox vs a) =
      EachTwo HasSort ss vs × (all_fit vs ≡ true) × FitsType (with_indices (each value_index vs) t) a
  AtomFits _ _ = ⊥

  -- each atom of a list fits
  pub AtomsFit : Ty → DataAtoms → Type 0
  AtomsFit t no_data = ⊤
  AtomsFit t (more_data a xs) = AtomFits t a × AtomsFit t xs

-- one array of data for each type, and each fits
abbrev pub FitsValues : List Ty → List Data → Type 0
FitsValues ts xs = EachTwo FitsType ts xs

-- data as a typed term of a closed type
abbrev mutual
  pub data_term : Ty → Data → TypedTerm
  data_term (Arr at t i) (DataArray dims no_data) = TNoAtoms dims t
  data_term (Arr at t i) (DataArray dims (more_data a xs)) = TArray dims (more_cells (data_cell t a) (data_cells t xs))
  data_term t (DataArray dims xs) = TNoAtoms dims t

  -- an atom of data as a typed atom
  pub data_cell : Ty → DataAtom → Cell typed
  data_cell t (DataInt z) = TInt z
  data_cell t (DataBool b) = TBool b
  data_cell t (DataChar c) = TChar c
  data_cell (Sigma at ss t) (DataBox vs a) = TBoxed (each value_index vs) (data_term (with_indices (each value_index vs) t) a) (Sigma at ss t)
  data_cell t (DataBox vs a) = TBoxed (each value_index vs) (data_term t a) t
  data_cell t DataFn = TInt (pos 0)

  -- each atom of a list
  pub data_cells : Ty → DataAtoms → Cells typed
  data_cells t no_data = no_cells
  data_cells t (more_data a xs) = more_cells (data_cell t a) (data_cells t xs)

-- each array of a list as a term of its type
abbrev pub data_terms : List Ty → List Data → List TypedTerm
data_terms (t ∷ ts) (a ∷ xs) = data_term t a ∷ data_terms ts xs
data_terms _ _ = []

module _ {N : Notes} (O : NoteRules N) where
  -- the dims and the atoms of a value, without types and with the values of its boxes' indices
  abbrev mutual
    pub array_of_value : Term N → Data
    array_of_value (TArray dims xs) = DataArray dims (atoms_of_cells xs)
    array_of_value (TNoAtoms dims a) = DataArray dims no_data
    array_of_value _ = DataArray [] no_data

    -- the atom of data of a typed or erased atom
    pub atom_of_cell : Cell N → DataAtom
    atom_of_cell (TInt z) = DataInt z
    atom_of_cell (TBool b) = DataBool b
    atom_of_cell (TChar c) = DataChar c
    atom_of_cell (TBoxed is t b) = DataBox (each O.index_value is) (array_of_value t)
    atom_of_cell _ = DataFn

    -- those of a list
    pub atoms_of_cells : Cells N → DataAtoms
    atoms_of_cells no_cells = no_data
    atoms_of_cells (more_cells a xs) = more_data (atom_of_cell a) (atoms_of_cells xs)
