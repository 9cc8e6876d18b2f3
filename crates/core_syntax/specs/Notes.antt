-- What a checker notes at the nodes of an expression: one note a node, a node before its parts, and parts from left to right.
use Rattle.std.specs.Prelude.{◌≡◌, List, [], ◌∷◌, ◌++◌, length, Option, Some, None, option_map}
use Rattle.core_syntax.specs.declared.index.Sort.{Sort}
use Rattle.core_syntax.specs.declared.note.Note.{Note}
use Rattle.core_syntax.specs.Refine.{ty_of}
use Rattle.core_syntax.specs.Syntax.{Index, Ty, Fun, Forall, Pi, Sigma, Arr, Tys, ty_items, no_span, Expr, TermVar, DefVar, Array, NoAtoms, Frame, NoCells, App, TypeApp, IndexApp, Unbox, Exprs, no_exprs, more_exprs, Atom, IntAtom, BoolAtom, CharAtom, PrimAtom, Fn, TypeFn, IndexFn, Boxed, Atoms, no_atoms, more_atoms, Def, Program}
use Rattle.core_syntax.specs.Lists.{each}
use Rattle.core_syntax.specs.Word.{Word}
use Rattle.core_syntax.specs.Norm.{norm_word}
use Rattle.core_syntax.specs.NormTypes.{norm_ty}
use Rattle.core_syntax.specs.Prims.{array_of}
use Rattle.core_syntax.specs.Subst.{with_types, with_indices}
use Rattle.core_syntax.specs.Typing.{Context, under_types, under_sorts, under_terms, defs_only, body_context, Has}

-- the cell shapes of an application's arguments, the type of the result's cell and its shape, and the sorts of the indices that an `unbox` names, all in normal form
pub record NodeNote : Type 0 where
  pub cells : List Word
  pub cell : Option Ty
  pub shape : Word
  pub sorts : List Sort

-- the note of a tree
abbrev pub note_of : Note → NodeNote
note_of n = record { cells = n.cells; cell = option_map ty_of n.cell; shape = n.shape; sorts = n.sorts }

-- the word of an array type's shape
abbrev pub shape_word : Ty → Word
shape_word (Arr at t i) = norm_word i
shape_word _ = []

-- at a node of another kind
abbrev pub no_note : NodeNote
no_note = record { cells = []; cell = None; shape = []; sorts = [] }

-- at a frame, and at an application to types or to indices: the type of the result's cell
abbrev pub cell_note : Ty → NodeNote
cell_note t = record { cells = []; cell = Some (norm_ty t); shape = shape_word t; sorts = [] }

-- at an application to arguments of these input types
abbrev pub app_note : Tys → Ty → NodeNote
app_note ts r = record { cells = each shape_word (ty_items ts); cell = Some (norm_ty r); shape = shape_word r; sorts = [] }

-- at an `unbox` of these sorts
abbrev pub unbox_note : List Sort → Ty → NodeNote
unbox_note ss t = record { cells = []; cell = Some (norm_ty t); shape = shape_word t; sorts = ss }

-- the notes of a node, and then those of its parts
abbrev pub Behind : NodeNote → (List NodeNote → Type 0) → List NodeNote → Type 0
Behind n P [] = ⊥
Behind n P (m ∷ ms) = (m ≡ n) × P ms

-- the notes of one part, and then those of the next
abbrev pub Joined : (List NodeNote → Type 0) → (List NodeNote → Type 0) → List NodeNote → Type 0
Joined P Q ns = (ms ls : List NodeNote) × (ns ≡ ms ++ ls) × P ms × Q ls

-- no notes
abbrev pub Empty : List NodeNote → Type 0
Empty ns = ns ≡ []

-- these are the notes of an expression
abbrev mutual
  pub NotesAre : Context → Expr → List NodeNote → Type 0
  NotesAre Γ (TermVar at k) = Behind no_note Empty
  NotesAre Γ (DefVar at k) = Behind no_note Empty
  NotesAre Γ (Array at dims xs) = Behind no_note (AtomsNotesAre Γ xs)
  NotesAre Γ (NoAtoms at dims t) = Behind no_note Empty
  NotesAre Γ (Frame at dims no_exprs) = λ ns. ⊥
  NotesAre Γ (Frame at dims (more_exprs e es)) = λ ns. (t : Ty) × Has Γ e t × Behind (cell_note t) (Joined (NotesAre Γ e) (ExprsNotesAre Γ es)) ns
  NotesAre Γ (NoCells at dims t) = Behind no_note Empty
  NotesAre Γ (App at f es) = λ ns.
      (ts : Tys) × (r : Ty) × (s : Index) × Has Γ f (array_of (Fun no_span ts r) s) × Behind (app_note ts r) (Joined (NotesAre Γ f) (ExprsNotesAre Γ es)) ns
  NotesAre Γ (TypeApp at e us) = λ ns.
      (b : Ty) × (s : Index) × Has Γ e (array_of (Forall no_span (length us) b) s) × Behind (cell_note (with_types us b)) (NotesAre Γ e) ns
  NotesAre Γ (IndexApp at e is) = λ ns.
      (ss : List Sort) × (b : Ty) × (s : Index) × Has Γ e (array_of (Pi no_span ss b) s) × Behind (cell_note (with_indices is b)) (NotesAre Γ e) ns
  NotesAre Γ (Unbox at n e u b) = λ ns.
      (ss : List Sort) × (c : Ty) × (s : Index) × Has Γ e (array_of (Sigma no_span ss c) s)
      × Behind (unbox_note ss u) (Joined (NotesAre Γ e) (NotesAre (under_terms (c ∷ []) (under_sorts ss Γ)) b)) ns

  -- those of expressions
  pub ExprsNotesAre : Context → Exprs → List NodeNote → Type 0
  ExprsNotesAre Γ no_exprs = Empty
  ExprsNotesAre Γ (more_exprs e es) = Joined (NotesAre Γ e) (ExprsNotesAre Γ es)

  -- those of an atom: of the expression in it, if it has one
  pub AtomNotesAre : Context → Atom → List NodeNote → Type 0
  AtomNotesAre Γ (IntAtom at z) = Empty
  AtomNotesAre Γ (BoolAtom at b) = Empty
  AtomNotesAre Γ (CharAtom at c) = Empty
  AtomNotesAre Γ (PrimAtom at p) = Empty
  AtomNotesAre Γ (Fn at ts r e) = NotesAre (under_terms (ty_items ts) Γ) e
  AtomNotesAre Γ (TypeFn at n e) = NotesAre (under_types n Γ) e
  AtomNotesAre Γ (IndexFn at ss e) = NotesAre (under_sorts ss Γ) e
  AtomNotesAre Γ (Boxed at is e t) = NotesAre Γ e

  -- those of atoms
  pub AtomsNotesAre : Context → Atoms → List NodeNote → Type 0
  AtomsNotesAre Γ no_atoms = Empty
  AtomsNotesAre Γ (more_atoms a xs) = Joined (AtomNotesAre Γ a) (AtomsNotesAre Γ xs)

-- those of definitions behind those with these types
abbrev pub DefsNotesAre : List Ty → List Def → List NodeNote → Type 0
DefsNotesAre earlier [] = Empty
DefsNotesAre earlier (d ∷ ds) = Joined (NotesAre (defs_only earlier) d.value) (DefsNotesAre (earlier ++ d.ty ∷ []) ds)

-- those of a program: of its definitions in order, and of its body
abbrev pub ProgramNotesAre : Program → List NodeNote → Type 0
ProgramNotesAre P = Joined (DefsNotesAre [] P.defs) (NotesAre (body_context P) P.body)
