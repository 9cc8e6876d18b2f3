-- The typed term that a tree of the program stands for.
use Rattle.std.specs.Prelude.{List, [], ◌∷◌, option_map}
use Rattle.core_syntax.specs.declared.term.TermExpr.{TermExpr, Row_of-TermExpr, end_of-TermExpr, more_of-TermExpr, Row_of-TermAtom, end_of-TermAtom, more_of-TermAtom}
use Rattle.core_syntax.specs.declared.term.TermAtom.{TermAtom}
use Rattle.core_syntax.specs.declared.term.TermExpr.TheVariants as term
use Rattle.core_syntax.specs.declared.term.TermAtom.TheVariants as atom
use Rattle.core_syntax.specs.Lists.{each}
use Rattle.core_syntax.specs.Refine.{index_of, ty_of}
use Rattle.core_syntax.specs.Terms.{TVar, TDef, TArray, TNoAtoms, TFrame, TNoCells, TApp, TTypeApp, TIndexApp, TUnbox, Terms, no_terms, more_terms, Cell, TInt, TBool, TChar, TPrim, TFn, TTypeFn, TIndexFn, TBoxed, Cells, no_cells, more_cells}
use Rattle.core_syntax.specs.Typed.{typed, TypedTerm}

-- a typed atom
abbrev pub TypedCell : Type 0
TypedCell = Cell typed

abbrev mutual
  -- the term of a tree
  pub term_of : TermExpr → TypedTerm
  term_of (term.Var k) = TVar k
  term_of (term.Def k) = TDef k
  term_of (term.Array' dims s row) = TArray dims (cell_row_of row)
  term_of (term.NoAtoms dims t) = TNoAtoms dims (ty_of t)
  term_of (term.Frame' dims s row t) = TFrame dims (term_row_of row) (ty_of t)
  term_of (term.NoCells dims t) = TNoCells (record { dims = dims; cell = ty_of t })
  term_of (term.App' s f s' row cs t) = TApp (sole_term_of f) (term_row_of row) (each index_of cs) (ty_of t)
  term_of (term.TypeApp' s f us t) = TTypeApp (sole_term_of f) (each ty_of us) (ty_of t)
  term_of (term.IndexApp' s f is t) = TIndexApp (sole_term_of f) (each index_of is) (ty_of t)
  term_of (term.Unbox' ss s e s' b t) = TUnbox ss (sole_term_of e) (sole_term_of b) (ty_of t)

  -- the terms of the parts of a tree
  pub term_row_of : {m : _} → Row_of-TermExpr m → Terms typed
  term_row_of end_of-TermExpr = no_terms
  term_row_of (more_of-TermExpr t rest) = more_terms (term_of t) (term_row_of rest)

  -- a boxed term is a row of one
  pub sole_term_of : {m : _} → Row_of-TermExpr m → TypedTerm
  sole_term_of end_of-TermExpr = TVar 0
  sole_term_of (more_of-TermExpr t rest) = term_of t

  -- the atom of a tree
  pub cell_of : TermAtom → TypedCell
  cell_of (atom.Int z) = TInt z
  cell_of (atom.Bool b) = TBool b
  cell_of (atom.Char c) = TChar c
  cell_of (atom.Prim p us is) = TPrim p (option_map (each ty_of) us) (option_map (each index_of) is)
  cell_of (atom.Fn' ts r s e) = TFn (record { inputs = each ty_of ts; result = ty_of r }) (sole_term_of e)
  cell_of (atom.TypeFn' n s e) = TTypeFn n (sole_term_of e)
  cell_of (atom.IndexFn' ss s e) = TIndexFn ss (sole_term_of e)
  cell_of (atom.Boxed' is s e t) = TBoxed (each index_of is) (sole_term_of e) (ty_of t)

  -- the atoms of the parts of a tree
  pub cell_row_of : {m : _} → Row_of-TermAtom m → Cells typed
  cell_row_of end_of-TermAtom = no_cells
  cell_row_of (more_of-TermAtom a rest) = more_cells (cell_of a) (cell_row_of rest)

-- the terms of a list of trees
abbrev pub terms_of : List TermExpr → Terms typed
terms_of [] = no_terms
terms_of (t ∷ ts) = more_terms (term_of t) (terms_of ts)

-- the atoms of a list of trees
abbrev pub cells_of : List TermAtom → Cells typed
cells_of [] = no_cells
cells_of (a ∷ xs) = more_cells (cell_of a) (cells_of xs)
