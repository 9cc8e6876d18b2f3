-- The typed term of an expression: its annotations are the notes of its nodes.
use Rattle.std.specs.Prelude.{List, [], ◌∷◌, Option, Some, None}
use Rattle.core_syntax.specs.Syntax.{Ty, Expr, TermVar, DefVar, Array, NoAtoms, Frame, NoCells, App, TypeApp, IndexApp, Unbox, Exprs, no_exprs, more_exprs, Atom, IntAtom, BoolAtom, CharAtom, PrimAtom, Fn, TypeFn, IndexFn, Boxed, Atoms, no_atoms, more_atoms, Def, ty_items}
use Rattle.core_syntax.specs.Lists.{each}
use Rattle.core_syntax.specs.Prims.{scalar, int_ty}
use Rattle.core_syntax.specs.Norm.{word_tree}
use Rattle.core_syntax.specs.Notes.{NodeNote, no_note}
use Rattle.core_syntax.specs.Terms.{TVar, TDef, TArray, TNoAtoms, TFrame, TNoCells, TApp, TTypeApp, TIndexApp, TUnbox, Terms, no_terms, more_terms, Cell, TInt, TBool, TChar, TPrim, TFn, TTypeFn, TIndexFn, TBoxed, Cells, no_cells, more_cells}
use Rattle.core_syntax.specs.Typed.{typed, TypedTerm}

-- the notes of a node, none where the list has ended
abbrev pub first_note : List NodeNote → NodeNote
first_note [] = no_note
first_note (n ∷ ns) = n

-- the notes behind the first
abbrev pub later_notes : List NodeNote → List NodeNote
later_notes [] = []
later_notes (n ∷ ns) = ns

-- the result cell's type of a node's notes
abbrev pub noted : Option Ty → Ty
noted None = scalar int_ty
noted (Some t) = t

-- the result cell's type that the first note says
abbrev pub cell_noted : List NodeNote → Ty
cell_noted ns = noted (first_note ns).cell

-- a term read from an expression, and the notes that are left
abbrev pub Read : Type 0 → Type 0
Read A = A × List NodeNote

-- the typed term of an expression whose nodes have these notes, each node before its parts and parts from left to right
abbrev mutual
  pub annotated : Expr → List NodeNote → Read TypedTerm
  annotated (TermVar at k) ns = (TVar k, later_notes ns)
  annotated (DefVar at k) ns = (TDef k, later_notes ns)
  annotated (Array at dims xs) ns = let r = annotated_atoms xs (later_notes ns) in (TArray dims r.0, r.1)
  annotated (NoAtoms at dims t) ns = (TNoAtoms dims t, later_notes ns)
  annotated (Frame at dims es) ns = let r = annotated_all es (later_notes ns) in (TFrame dims r.0 (cell_noted ns), r.1)
  annotated (NoCells at dims t) ns = (TNoCells (record { dims = dims; cell = t }), later_notes ns)
  annotated (App at f es) ns =
      let r = annotated f (later_notes ns) in
      let s = annotated_all es r.1 in
      (TApp r.0 s.0 (each word_tree (first_note ns).cells) (cell_noted ns), s.1)
  annotated (TypeApp at e us) ns = let r = annotated e (later_notes ns) in (TTypeApp r.0 us (cell_noted ns), r.1)
  annotated (IndexApp at e is) ns = let r = annotated e (later_notes ns) in (TIndexApp r.0 is (cell_noted ns), r.1)
  annotated (Unbox at n e t b) ns =
      let r = annotated e (later_notes ns) in
      let s = annotated b r.1 in
      (TUnbox (first_note ns).sorts r.0 s.0 (cell_noted ns), s.1)

  -- the typed terms of a list of expressions
  pub annotated_all : Exprs → List NodeNote → Read (Terms typed)
  annotated_all no_exprs ns = (no_terms, ns)
  annotated_all (more_exprs e es) ns =
      let r = annotated e ns in
      let s = annotated_all es r.1 in
      (more_terms r.0 s.0, s.1)

  -- the typed atom of an atom
  pub annotated_atom : Atom → List NodeNote → Read (Cell typed)
  annotated_atom (IntAtom at z) ns = (TInt z, ns)
  annotated_atom (BoolAtom at b) ns = (TBool b, ns)
  annotated_atom (CharAtom at c) ns = (TChar c, ns)
  annotated_atom (PrimAtom at p) ns = (TPrim p None None, ns)
  annotated_atom (Fn at ts r e) ns = let s = annotated e ns in (TFn (record { inputs = ty_items ts; result = r }) s.0, s.1)
  annotated_atom (TypeFn at n e) ns = let s = annotated e ns in (TTypeFn n s.0, s.1)
  annotated_atom (IndexFn at ss e) ns = let s = annotated e ns in (TIndexFn ss s.0, s.1)
  annotated_atom (Boxed at is e t) ns = let s = annotated e ns in (TBoxed is s.0 t, s.1)

  -- the typed atoms of a list
  pub annotated_atoms : Atoms → List NodeNote → Read (Cells typed)
  annotated_atoms no_atoms ns = (no_cells, ns)
  annotated_atoms (more_atoms a xs) ns =
      let r = annotated_atom a ns in
      let s = annotated_atoms xs r.1 in
      (more_cells r.0 s.0, s.1)

-- the typed terms of the definitions, and the notes that are left for the body
abbrev pub annotated_defs : List Def → List NodeNote → Read (List TypedTerm)
annotated_defs [] ns = ([], ns)
annotated_defs (d ∷ ds) ns =
    let r = annotated d.value ns in
    let s = annotated_defs ds r.1 in
    (r.0 ∷ s.0, s.1)
