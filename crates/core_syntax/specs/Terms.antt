-- Terms that run: typed ones with their annotations, and erased ones. Both have these forms, and differ in the notes at them.
use Rattle.std.specs.Prelude.{ℕ, ℤ, Bool, List, [], ◌∷◌, Option}
use Rattle.core_syntax.specs.declared.primitive.Primitive.{Primitive}

-- the value of an index
pub data IndexValue : Type 0 where
  DimValue : ℕ → IndexValue
  ShapeValue : List ℕ → IndexValue

-- the kinds of notes
pub record Notes : Type 1 where
  -- the atom type of an empty array
  pub atom : Type 0
  -- the result cell's type of a frame
  pub frame : Type 0
  -- the dims and the cell type of a frame without cells
  pub whole : Type 0
  -- an argument's cell shape
  pub cell : Type 0
  -- the result cell's type of an application, a `t-app`, an `i-app` or an `unbox`
  pub result : Type 0
  -- the types of a `t-app`
  pub types : Type 0
  -- one index of an `i-app` or a box
  pub index : Type 0
  -- the input types and the result type of a `fn`
  pub inputs : Type 0
  -- the binders of a `tfn`
  pub count : Type 0
  -- the binders of an `ifn` or an `unbox`
  pub sorts : Type 0
  -- the type of a box
  pub box : Type 0

mutual
  -- a term
  pub data Term (N : Notes) : Type 0 where
    TVar : ℕ → Term N
    TDef : ℕ → Term N
    TArray : List ℕ → Cells N → Term N
    TNoAtoms : List ℕ → N.atom → Term N
    TFrame : List ℕ → Terms N → N.frame → Term N
    TNoCells : N.whole → Term N
    TApp : Term N → Terms N → List N.cell → N.result → Term N
    TTypeApp : Term N → N.types → N.result → Term N
    TIndexApp : Term N → List N.index → N.result → Term N
    TUnbox : N.sorts → Term N → Term N → N.result → Term N

  -- a list of terms
  pub data Terms (N : Notes) : Type 0 where
    no_terms : Terms N
    more_terms : Term N → Terms N → Terms N

  -- an atom of a term
  pub data Cell (N : Notes) : Type 0 where
    TInt : ℤ → Cell N
    TBool : Bool → Cell N
    TChar : ℕ → Cell N
    TPrim : Primitive → Option N.types → Option (List N.index) → Cell N
    TFn : N.inputs → Term N → Cell N
    TTypeFn : N.count → Term N → Cell N
    TIndexFn : N.sorts → Term N → Cell N
    TBoxed : List N.index → Term N → N.box → Cell N

  -- a list of atoms
  pub data Cells (N : Notes) : Type 0 where
    no_cells : Cells N
    more_cells : Cell N → Cells N → Cells N

module _ {N : Notes} where
  -- the terms of a list
  abbrev pub term_items : Terms N → List (Term N)
  term_items no_terms = []
  term_items (more_terms t ts) = t ∷ term_items ts

  -- terms as a list of a term's parts
  abbrev pub term_list : List (Term N) → Terms N
  term_list [] = no_terms
  term_list (t ∷ ts) = more_terms t (term_list ts)

  -- the atoms of a list
  abbrev pub cell_items : Cells N → List (Cell N)
  cell_items no_cells = []
  cell_items (more_cells a xs) = a ∷ cell_items xs

  -- atoms as a list of an array's parts
  abbrev pub cell_list : List (Cell N) → Cells N
  cell_list [] = no_cells
  cell_list (a ∷ xs) = more_cells a (cell_list xs)

  -- the scalar array of an atom
  abbrev pub scalar_of : Cell N → Term N
  scalar_of a = TArray [] (more_cells a no_cells)

-- what reduction does with notes: it puts index values and types in the place of variables, it reads values, and it makes notes from notes. Notes of a closed term are closed
pub record NoteRules (N : Notes) : Type 1 where
  -- what is put in the place of index variables and type variables
  pub Puts : Type 0
  pub put_indices : List IndexValue → Puts
  pub put_types : N.types → Puts
  pub put_none : Puts
  -- the same under the binders of a `tfn`, and of an `ifn` or an `unbox`
  pub under_count : N.count → Puts → Puts
  pub under_sorts : N.sorts → Puts → Puts
  -- notes with that in place
  pub on_atom : Puts → N.atom → N.atom
  pub on_frame : Puts → N.frame → N.frame
  pub on_whole : Puts → N.whole → N.whole
  pub on_cell : Puts → N.cell → N.cell
  pub on_result : Puts → N.result → N.result
  pub on_types : Puts → N.types → N.types
  pub on_index : Puts → N.index → N.index
  pub on_inputs : Puts → N.inputs → N.inputs
  pub on_box : Puts → N.box → N.box
  -- the value of a cell shape, of a result cell's shape and of the whole shape of a frame without cells, and of an index
  pub cell_dims : N.cell → List ℕ
  pub result_dims : N.result → List ℕ
  pub whole_dims : N.whole → List ℕ
  pub index_value : N.index → IndexValue
  -- how many parameters a `fn` has, and how many binders an `ifn`
  pub arity : N.inputs → ℕ
  pub binders : N.sorts → ℕ
  -- an index with a value
  pub valued : IndexValue → N.index
  -- the atom type of a result cell, of a frame's cell and of a frame without cells
  pub result_atom : N.result → N.atom
  pub frame_atom : N.frame → N.atom
  pub whole_atom : N.whole → N.atom
  -- the note of the frame that is mapped over
  pub result_frame : N.result → N.frame
  -- the note of a box that is the result, and the atom type of its content under the values of its indices
  pub result_box : N.result → N.box
  pub box_atom : N.box → List IndexValue → N.atom
  -- the cell shape that is an index, and the result cell of the type with this number and that shape
  pub shape_cell : N.index → N.cell
  pub typed_result : N.types → ℕ → N.index → N.result
