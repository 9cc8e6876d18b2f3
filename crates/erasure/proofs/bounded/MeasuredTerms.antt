-- In the erasure of a checked program each shape and each index is within the measures.
use Rattle.std.proofs.Common.{◌≡◌, refl, sym, ◌∙◌, ap, subst, ℕ, List, [], ◌∷◌, ◌++◌, append_assoc, append-nil, length, None}
use Rattle.core_syntax.specs.declared.index.Sort.{Sort}
use Rattle.core_syntax.specs.Syntax.{Index, Ty, Fun, Forall, Pi, Sigma, Arr, Tys, no_tys, more_tys, no_span, ty_items, Expr, TermVar, DefVar, Array, NoAtoms, Frame, NoCells, App, TypeApp, IndexApp, Unbox, Exprs, no_exprs, more_exprs, expr_items, Atom, IntAtom, BoolAtom, CharAtom, PrimAtom, Fn, TypeFn, IndexFn, Boxed, Atoms, no_atoms, more_atoms, Def, Program}
use Rattle.core_syntax.specs.Lists.{onto, each, Each}
use Rattle.core_syntax.specs.Value.{then_shape}
use Rattle.core_syntax.specs.TypeEqual.{Same}
use Rattle.core_syntax.specs.Norm.{norm_word, word_tree}
use Rattle.core_syntax.specs.NormTypes.{measure_ty}
use Rattle.core_syntax.specs.Subst.{kept, put_all, with_types, with_indices}
use Rattle.core_syntax.specs.Prims.{array_of}
use Rattle.core_syntax.specs.Typing.{Context, under_types, under_sorts, under_terms, numbers, OnArr, Takes, defs_only, body_context}
use Rattle.core_syntax.specs.Blame.{Premises, concluding, IsFunction, of_function, IsPi, of_pi, IsSigma, of_sigma, premises, later_cells, args_premises, atom_premises, atoms_premises, later_atoms, defs_premises}
use Rattle.core_syntax.specs.Notes.{NodeNote, no_note, cell_note, app_note, unbox_note, shape_word, Behind, Joined, Empty, NotesAre, ExprsNotesAre, AtomNotesAre, AtomsNotesAre, DefsNotesAre}
use Rattle.core_syntax.specs.Checks.{IsChecked}
use Rattle.core_syntax.specs.Annotate.{first_note, later_notes, noted, annotated, annotated_all, annotated_atom, annotated_atoms, annotated_defs}
use Rattle.core_syntax.proofs.Equality.{same_sym, same-put}
use Rattle.core_syntax.proofs.Unique.{unique}
use Rattle.core_syntax.proofs.NormTyLemmas.{same_words}
use Rattle.core_syntax.proofs.Alike.{Alike, are_same_refl}
use Rattle.core_syntax.proofs.NotesAlike.{notes_alike}
use Rattle.reduction_laws.proofs.programs.Alikes.{alike_sorts, alike_terms}
use Rattle.erasure.specs.Erasure.{cell_word, er, er_terms, er_cell, er_cells}
use Rattle.core_syntax.specs.NormPut.{number_letters}
use Rattle.erasure.specs.Programs.{erased_program}
use Rattle.erasure.specs.Measured.{WordFits, TermFits, TermsFit, CellFits, CellsFit, ProgramFits}
use Rattle.erasure.proofs.together.NormPuts.{numeral_letters}
use Rattle.erasure.proofs.trees.NormalNotes.{cell_normal, words_normal}
use Rattle.erasure.proofs.bounded.Measures.{ty_fits, same_measure, array_fits, shape_fits, function_fits, end_fits, indices_fit}

-- ---- notes read in order

-- the note of a node is read first, and those of its parts are left
pub opened : (n : NodeNote) (P : List NodeNote → Type 0) (ms ns rest : List NodeNote) → Behind n P ms → ns ≡ ms ++ rest → (ls : List NodeNote) × P ls × (first_note ns ≡ n) × (later_notes ns ≡ ls ++ rest)
opened n P [] ns rest b e = absurd b
opened n P (m ∷ ms) ns rest b e = (ms, b.1, ap first_note e ∙ b.0, ap later_notes e)

pub unread : (ms ns rest : List NodeNote) → Empty ms → ns ≡ ms ++ rest → ns ≡ rest
unread ms ns rest j e = e ∙ ap (λ l. l ++ rest) j

pub leaf : (ms ns rest : List NodeNote) → Behind no_note Empty ms → ns ≡ ms ++ rest → later_notes ns ≡ rest
leaf ms ns rest b e = let o = opened no_note Empty ms ns rest b e in unread o.0 (later_notes ns) rest o.1 o.3

pub split : (ns ls ms ks rest : List NodeNote) → ns ≡ ls ++ rest → ls ≡ ms ++ ks → ns ≡ ms ++ (ks ++ rest)
split ns ls ms ks rest e f = e ∙ ap (λ l. l ++ rest) f ∙ append_assoc ms ks rest

-- ---- words of measured types

-- the shape of a cell, where the whole type is measured
over_fits : (Γ : Context) (v u : Ty) (s : Index) (t : Ty) → Same v u → OnArr v (λ a c. Takes Γ (array_of a (then_shape s c)) t) → measure_ty t ≡ None → WordFits (shape_word u)
over_fits Γ (Arr at a c) (Arr at' b d) s t e h m =
    let whole = array_of a (then_shape s c) in
    let fits = (array_fits a (then_shape s c) (ty_fits whole (same_measure t whole (same_sym whole t h.1) m))).1 in
    subst WordFits (same_words c d e.1) (subst WordFits (append-nil (norm_word c)) (end_fits (norm_word s) (norm_word c ++ []) fits))
over_fits Γ (Arr at a c) _ s t e h m = absurd e
over_fits Γ _ u s t e h m = absurd h

-- the whole shape of a frame without cells
whole_fits : (Γ : Context) (dims : List ℕ) (u t : Ty) → OnArr u (λ a s. Takes Γ (array_of a (then_shape (numbers dims) s)) t) → measure_ty t ≡ None → WordFits (number_letters dims ++ cell_word u)
whole_fits Γ dims (Arr at a s) t h m =
    let whole = array_of a (then_shape (numbers dims) s) in
    subst WordFits (λ i. numeral_letters dims i ++ append-nil (norm_word s) i) (array_fits a (then_shape (numbers dims) s) (ty_fits whole (same_measure t whole (same_sym whole t h.1) m))).1
whole_fits Γ dims _ t h m = absurd h

-- the cell shapes and the result shape of an application of a measured function
app_fits : (ts : Tys) (r : Ty) (s : Index) (t : Ty) → Same t (array_of (Fun no_span ts r) s) → measure_ty t ≡ None → Each WordFits (each shape_word (ty_items ts)) × WordFits (shape_word r)
app_fits ts r s t e m =
    let fun = array_of (Fun no_span ts r) s in
    function_fits ts r (array_fits (Fun no_span ts r) s (ty_fits fun (same_measure t fun e m))).0

-- ---- what is read of a node's note

cells_read : (ns : List NodeNote) (ts : Tys) (r : Ty) → first_note ns ≡ app_note ts r → Each WordFits (each shape_word (ty_items ts)) → Each WordFits (each norm_word (each word_tree (first_note ns).cells))
cells_read ns ts r e h = subst (Each WordFits) (sym (ap (λ (n : NodeNote). each norm_word (each word_tree n.cells)) e ∙ words_normal (ty_items ts))) h

shape_read : (ns : List NodeNote) (n : NodeNote) (t : Ty) → first_note ns ≡ n → cell_word (noted n.cell) ≡ shape_word t → WordFits (shape_word t) → WordFits (cell_word (noted (first_note ns).cell))
shape_read ns n t e f h = subst WordFits (sym (ap (λ (n : NodeNote). cell_word (noted n.cell)) e ∙ f)) h

-- ---- what premises ask of the type that a rule finds

function_args : (X : Tys → Ty → Index → Premises) (t : Ty) → IsFunction t → (of_function t X).met → (ts : Tys) × (r : Ty) × (s : Index) × (X ts r s).met
function_args X (Arr at (Fun at' ts r) s) i m = (ts, r, s, m)
function_args X _ i m = absurd i

pi_sorts : (X : List Sort → Premises) (t : Ty) → IsPi t → (of_pi t X).met → (ss : List Sort) × (X ss).met
pi_sorts X (Arr at (Pi at' ss b) s) i m = (ss, m)
pi_sorts X _ i m = absurd i

-- the sorts and the content of a box, which are those of an equal type
pub sigma_parts : (X : List Sort → Ty → Premises) (t : Ty) (ss : List Sort) (c : Ty) (s : Index) → IsSigma t → (of_sigma t X).met → Same t (array_of (Sigma no_span ss c) s) → (qs : List Sort) × (d : Ty) × (X qs d).met × (qs ≡ ss) × Same d c
sigma_parts X (Arr at (Sigma at' qs d) s') ss c s i m e = (qs, d, m, e.0.0, e.0.1)
sigma_parts X _ ss c s i m e = absurd i

pub alike_self : (Γ : Context) → Alike Γ Γ
alike_self Γ = record { types = refl; sorts = refl; defs = are_same_refl Γ.defs; terms = are_same_refl Γ.terms }

-- ---- expressions

mutual
  expr_fits : (Γ : Context) (e : Expr) → (concluding Γ e (premises Γ e)).met → (ms : List NodeNote) → NotesAre Γ e ms → (ns rest : List NodeNote) → ns ≡ ms ++ rest
      → TermFits (er Γ.sorts (annotated e ns).0) × ((annotated e ns).1 ≡ rest)
  expr_fits Γ (TermVar at k) c ms j ns rest e = (tt, leaf ms ns rest j e)
  expr_fits Γ (DefVar at k) c ms j ns rest e = (tt, leaf ms ns rest j e)
  expr_fits Γ (Array at dims xs) c ms j ns rest e =
      let o = opened no_note (AtomsNotesAre Γ xs) ms ns rest j e in
      atoms_fit Γ xs c.0 o.0 o.1 (later_notes ns) rest o.3
  expr_fits Γ (NoAtoms at dims t) c ms j ns rest e = (tt, leaf ms ns rest j e)
  expr_fits Γ (Frame at dims no_exprs) c ms j ns rest e = absurd j
  expr_fits Γ (Frame at dims (more_exprs x xs)) c ms j ns rest e =
      let o = opened (cell_note j.0) (Joined (NotesAre Γ x) (ExprsNotesAre Γ xs)) ms ns rest j.2 e in
      let p = o.1 in
      let r = expr_fits Γ x c.0.0 p.0 p.3 (later_notes ns) (p.1 ++ rest) (split (later_notes ns) o.0 p.0 p.1 rest o.3 p.2) in
      let s = later_fit Γ c.0.1.0 xs c.0.1.2 p.1 p.4 (annotated x (later_notes ns)).1 rest r.1 in
      ((r.0, s.0), s.1)
  expr_fits Γ (NoCells at dims u) c ms j ns rest e = (whole_fits Γ dims u c.1.0 c.1.1.1 c.1.2, leaf ms ns rest j e)
  expr_fits Γ (App at f es) c ms j ns rest e =
      let o = opened (app_note j.0 j.1) (Joined (NotesAre Γ f) (ExprsNotesAre Γ es)) ms ns rest j.4 e in
      let p = o.1 in
      let found = c.0.0.1 in
      let w = app_fits j.0 j.1 j.2 found.0 (unique Γ f found.0 (array_of (Fun no_span j.0 j.1) j.2) found.1 j.3) found.2 in
      let a = function_args _ c.0.1.0 c.0.1.2.0 c.0.1.2.1 in
      let r = expr_fits Γ f c.0.0 p.0 p.3 (later_notes ns) (p.1 ++ rest) (split (later_notes ns) o.0 p.0 p.1 rest o.3 p.2) in
      let s = args_fit Γ es a.0 a.3.0 a.3.1.0 p.1 p.4 (annotated f (later_notes ns)).1 rest r.1 in
      ((r.0, s.0, cells_read ns j.0 j.1 o.2 w.0, shape_read ns (app_note j.0 j.1) j.1 o.2 (cell_normal j.1) w.1), s.1)
  expr_fits Γ (TypeApp at x us) c ms j ns rest e =
      let o = opened (cell_note (with_types us j.0)) (NotesAre Γ x) ms ns rest j.3 e in
      let h = c.1.1 in
      let same = unique Γ x (array_of (Forall no_span h.0 h.1) h.2) (array_of (Forall no_span (length us) j.0) j.1) h.3 j.2 in
      let w = over_fits Γ (with_types us h.1) (with_types us j.0) h.2 c.1.0 (same-put kept (put_all us) h.1 j.0 same.0.1) h.6 c.1.2 in
      let r = expr_fits Γ x c.0.0 o.0 o.1 (later_notes ns) rest o.3 in
      ((r.0, shape_read ns (cell_note (with_types us j.0)) (with_types us j.0) o.2 (cell_normal (with_types us j.0)) w), r.1)
  expr_fits Γ (IndexApp at x is) c ms j ns rest e =
      let o = opened (cell_note (with_indices is j.1)) (NotesAre Γ x) ms ns rest j.4 e in
      let h = c.1.1 in
      let same = unique Γ x (array_of (Pi no_span h.0 h.1) h.2) (array_of (Pi no_span j.0 j.1) j.2) h.3 j.3 in
      let w = over_fits Γ (with_indices is h.1) (with_indices is j.1) h.2 c.1.0 (same-put (put_all is) kept h.1 j.1 same.0.1) h.5 c.1.2 in
      let q = pi_sorts _ c.0.1.0 c.0.1.2.0 c.0.1.2.1 in
      let r = expr_fits Γ x c.0.0 o.0 o.1 (later_notes ns) rest o.3 in
      ((r.0, indices_fit Γ q.0 is q.1.0 q.1.1, shape_read ns (cell_note (with_indices is j.1)) (with_indices is j.1) o.2 (cell_normal (with_indices is j.1)) w), r.1)
  expr_fits Γ (Unbox at n x u b) c ms j ns rest e =
      let o = opened (unbox_note j.0 u) (Joined (NotesAre Γ x) (NotesAre (under_terms (j.1 ∷ []) (under_sorts j.0 Γ)) b)) ms ns rest j.4 e in
      let p = o.1 in
      let box = array_of (Sigma no_span j.0 j.1) j.2 in
      let q = sigma_parts _ c.0.1.0 j.0 j.1 j.2 c.0.1.2.0 c.0.1.2.1 (unique Γ x c.0.1.0 box c.0.1.1 j.3) in
      let Δ = under_terms (q.1 ∷ []) (under_sorts q.0 Γ) in
      let al = alike_terms (j.1 ∷ []) (q.1 ∷ []) (under_sorts j.0 Γ) (under_sorts q.0 Γ) (same_sym q.1 j.1 q.4, tt) (alike_sorts j.0 q.0 Γ Γ (sym q.3) (alike_self Γ)) in
      let r = expr_fits Γ x c.0.0 p.0 p.3 (later_notes ns) (p.1 ++ rest) (split (later_notes ns) o.0 p.0 p.1 rest o.3 p.2) in
      let s = expr_fits Δ b q.2.1.1.0 p.1 (notes_alike (under_terms (j.1 ∷ []) (under_sorts j.0 Γ)) Δ al b p.1 p.4) (annotated x (later_notes ns)).1 rest r.1 in (
        (
          r.0,
          subst (λ qs. TermFits (er (onto qs Γ.sorts) (annotated b (annotated x (later_notes ns)).1).0)) (sym (ap (λ (n : NodeNote). n.sorts) o.2 ∙ sym q.3)) s.0,
          shape_read ns (unbox_note j.0 u) u o.2 (cell_normal u) (shape_fits u (ty_fits u q.2.1.0.1)),
        ),
        s.1,
      )

  -- the cells of a frame behind the first
  later_fit : (Γ : Context) (t : Ty) (es : Exprs) → (later_cells Γ t es).met → (ms : List NodeNote) → ExprsNotesAre Γ es ms → (ns rest : List NodeNote) → ns ≡ ms ++ rest
      → TermsFit (er_terms Γ.sorts (annotated_all es ns).0) × ((annotated_all es ns).1 ≡ rest)
  later_fit Γ t no_exprs c ms j ns rest e = (tt, unread ms ns rest j e)
  later_fit Γ t (more_exprs x xs) c ms j ns rest e =
      let r = expr_fits Γ x c.0 j.0 j.3 ns (j.1 ++ rest) (split ns ms j.0 j.1 rest e j.2) in
      let s = later_fit Γ t xs c.1.1 j.1 j.4 (annotated x ns).1 rest r.1 in
      ((r.0, s.0), s.1)

  -- the arguments of an application
  args_fit : (Γ : Context) (es : Exprs) (ts : Tys) → length (ty_items ts) ≡ length (expr_items es) → (args_premises Γ es ts).met → (ms : List NodeNote) → ExprsNotesAre Γ es ms → (ns rest : List NodeNote) → ns ≡ ms ++ rest
      → TermsFit (er_terms Γ.sorts (annotated_all es ns).0) × ((annotated_all es ns).1 ≡ rest)
  args_fit Γ no_exprs ts l c ms j ns rest e = (tt, unread ms ns rest j e)
  args_fit Γ (more_exprs x xs) no_tys l c ms j ns rest e = absurd (cc)
  args_fit Γ (more_exprs x xs) (more_tys t ts) l c ms j ns rest e =
      let r = expr_fits Γ x c.0 j.0 j.3 ns (j.1 ++ rest) (split ns ms j.0 j.1 rest e j.2) in
      let s = args_fit Γ xs ts (cc) c.1.1 j.1 j.4 (annotated x ns).1 rest r.1 in
      ((r.0, s.0), s.1)

  atom_fits : (Γ : Context) (a : Atom) → (atom_premises Γ a).met → (ms : List NodeNote) → AtomNotesAre Γ a ms → (ns rest : List NodeNote) → ns ≡ ms ++ rest
      → CellFits (er_cell Γ.sorts (annotated_atom a ns).0) × ((annotated_atom a ns).1 ≡ rest)
  atom_fits Γ (IntAtom at z) c ms j ns rest e = (tt, unread ms ns rest j e)
  atom_fits Γ (BoolAtom at b) c ms j ns rest e = (tt, unread ms ns rest j e)
  atom_fits Γ (CharAtom at z) c ms j ns rest e = (tt, unread ms ns rest j e)
  atom_fits Γ (PrimAtom at p) c ms j ns rest e = (tt, unread ms ns rest j e)
  atom_fits Γ (Fn at ts r x) c ms j ns rest e = expr_fits (under_terms (ty_items ts) Γ) x c.1.1.0 ms j ns rest e
  atom_fits Γ (TypeFn at n x) c ms j ns rest e = expr_fits (under_types n Γ) x c ms j ns rest e
  atom_fits Γ (IndexFn at ss x) c ms j ns rest e = expr_fits (under_sorts ss Γ) x c ms j ns rest e
  atom_fits Γ (Boxed at is x (Sigma at' ss b)) c ms j ns rest e =
      let k = c.1.1 in
      let r = expr_fits Γ x k.1.1.1.0 ms j ns rest e in
      ((indices_fit Γ ss is k.0 k.1.0, r.0), r.1)
  atom_fits Γ (Boxed at is x _) c ms j ns rest e = absurd c.1.0

  -- the atoms of an array: the first, and those behind it
  atoms_fit : (Γ : Context) (xs : Atoms) → (atoms_premises Γ xs).met → (ms : List NodeNote) → AtomsNotesAre Γ xs ms → (ns rest : List NodeNote) → ns ≡ ms ++ rest
      → CellsFit (er_cells Γ.sorts (annotated_atoms xs ns).0) × ((annotated_atoms xs ns).1 ≡ rest)
  atoms_fit Γ no_atoms c ms j ns rest e = (tt, unread ms ns rest j e)
  atoms_fit Γ (more_atoms x xs) c ms j ns rest e =
      let r = atom_fits Γ x c.0 j.0 j.3 ns (j.1 ++ rest) (split ns ms j.0 j.1 rest e j.2) in
      let s = later_atoms_fit Γ c.1.0 xs c.1.2 j.1 j.4 (annotated_atom x ns).1 rest r.1 in
      ((r.0, s.0), s.1)

  later_atoms_fit : (Γ : Context) (t : Ty) (xs : Atoms) → (later_atoms Γ t xs).met → (ms : List NodeNote) → AtomsNotesAre Γ xs ms → (ns rest : List NodeNote) → ns ≡ ms ++ rest
      → CellsFit (er_cells Γ.sorts (annotated_atoms xs ns).0) × ((annotated_atoms xs ns).1 ≡ rest)
  later_atoms_fit Γ t no_atoms c ms j ns rest e = (tt, unread ms ns rest j e)
  later_atoms_fit Γ t (more_atoms x xs) c ms j ns rest e =
      let r = atom_fits Γ x c.0 j.0 j.3 ns (j.1 ++ rest) (split ns ms j.0 j.1 rest e j.2) in
      let s = later_atoms_fit Γ t xs c.1.1 j.1 j.4 (annotated_atom x ns).1 rest r.1 in
      ((r.0, s.0), s.1)

-- ---- programs

defs_fit : (earlier : List Ty) (ds : List Def) → (defs_premises earlier ds).met → (ms : List NodeNote) → DefsNotesAre earlier ds ms → (ns rest : List NodeNote) → ns ≡ ms ++ rest
    → Each TermFits (each (er []) (annotated_defs ds ns).0) × ((annotated_defs ds ns).1 ≡ rest)
defs_fit earlier [] c ms j ns rest e = (tt, unread ms ns rest j e)
defs_fit earlier (d ∷ ds) c ms j ns rest e =
    let r = expr_fits (defs_only earlier) d.value c.0.1.1.0 j.0 j.3 ns (j.1 ++ rest) (split ns ms j.0 j.1 rest e j.2) in
    let s = defs_fit (earlier ++ d.ty ∷ []) ds c.1 j.1 j.4 (annotated d.value ns).1 rest r.1 in
    ((r.0, s.0), s.1)

-- the erasure of a checked program
pub program_fits : (P : Program) (result : Ty) (inputs : List Ty) (notes : List NodeNote) → IsChecked P result inputs notes → ProgramFits (erased_program P notes)
program_fits P result inputs notes k =
    let j = k.notes_are in
    let r = defs_fit [] P.defs k.accepted.0 j.0 j.3 notes j.1 j.2 in
    let s = expr_fits (body_context P) P.body k.accepted.1.1.0 j.1 j.4 (annotated_defs P.defs notes).1 [] (r.1 ∙ sym (append-nil j.1)) in
    (r.0, s.0)
