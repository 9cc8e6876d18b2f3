-- What typed terms hold on a run: numbers, characters and dims that an array may have.
use Rattle.std.specs.Prelude.{ℕ, true, ◌≡◌, ◌⊎◌, List, [], ◌∷◌, ◌++◌, Option, Some, None, ⊤, IsTrue}
use Rattle.std.specs.Char.{IsScalar}
use Rattle.core_syntax.specs.Syntax.{Index}
use Rattle.core_syntax.specs.Value.{Valuation, shape_val}
use Rattle.core_syntax.specs.Nodes.{vector}
use Rattle.core_syntax.specs.Fits.{forms}
use Rattle.core_syntax.specs.Delta.{is_int}
use Rattle.core_syntax.specs.Terms.{TVar, TDef, TArray, TNoAtoms, TFrame, TNoCells, TApp, TTypeApp, TIndexApp, TUnbox, Terms, no_terms, more_terms, Cell, TInt, TBool, TChar, TPrim, TFn, TTypeFn, TIndexFn, TBoxed, Cells, no_cells, more_cells}
use Rattle.core_syntax.specs.Typed.{typed, TypedTerm, closed}

-- an array may have these dims
abbrev pub HasForm : List ℕ → Type 0
HasForm dims = forms dims ≡ true

-- a shape has one value, whatever its variables stand for
abbrev pub IsFixed : Index → Type 0
IsFixed c = (v : Valuation) → shape_val v c ≡ shape_val closed c

-- an array may have these dims, or they are those of a frame of cells of this shape, and each cell may have its dims
abbrev pub HasCells : Index → List ℕ → Type 0
HasCells c dims = HasForm dims ⊎ (IsFixed c × HasForm (shape_val closed c) × ((frame : List ℕ) × (dims ≡ frame ++ shape_val closed c)))

-- the dims at a place: those of an array, and where it is the place of a function or of an argument, with its cell's shape, also those of a frame of cells
abbrev pub HasRoom : Option Index → List ℕ → Type 0
HasRoom None dims = HasForm dims
HasRoom (Some c) dims = HasCells c dims

-- in a term at a place, integers are of 64 bits, characters are Unicode scalar values, and arrays have the dims of their places
abbrev mutual
  pub HeldAt : Option Index → TypedTerm → Type 0
  HeldAt o (TVar k) = ⊤
  HeldAt o (TDef k) = ⊤
  HeldAt o (TArray dims xs) = HasRoom o dims × CellsHeld xs
  HeldAt o (TNoAtoms dims t) = HasRoom o dims
  HeldAt o (TFrame dims ts t) = TermsHeld ts
  HeldAt o (TNoCells w) = ⊤
  HeldAt o (TApp f ts cs r) = HeldAt (Some (vector [])) f × ArgumentsHeld cs ts
  HeldAt o (TTypeApp t us r) = HeldAt None t
  HeldAt o (TIndexApp t is r) = HeldAt None t
  HeldAt o (TUnbox ss t b r) = HeldAt None t × HeldAt None b

  -- each term of a list
  pub TermsHeld : Terms typed → Type 0
  TermsHeld no_terms = ⊤
  TermsHeld (more_terms t ts) = HeldAt None t × TermsHeld ts

  -- arguments with these cell shapes
  pub ArgumentsHeld : List Index → Terms typed → Type 0
  ArgumentsHeld cs no_terms = ⊤
  ArgumentsHeld [] (more_terms t ts) = HeldAt None t × ArgumentsHeld [] ts
  ArgumentsHeld (c ∷ cs) (more_terms t ts) = HeldAt (Some c) t × ArgumentsHeld cs ts

  -- an atom
  pub CellHeld : Cell typed → Type 0
  CellHeld (TInt z) = IsTrue (is_int z)
  CellHeld (TBool b) = ⊤
  CellHeld (TChar c) = IsScalar c
  CellHeld (TPrim p us is) = ⊤
  CellHeld (TFn i t) = HeldAt None t
  CellHeld (TTypeFn n t) = HeldAt None t
  CellHeld (TIndexFn ss t) = HeldAt None t
  CellHeld (TBoxed is t b) = HeldAt None t

  -- each atom of a list
  pub CellsHeld : Cells typed → Type 0
  CellsHeld no_cells = ⊤
  CellsHeld (more_cells a xs) = CellHeld a × CellsHeld xs

-- a term holds only numbers, characters and arrays that a run may have
abbrev pub IsHeld : TypedTerm → Type 0
IsHeld t = HeldAt None t
