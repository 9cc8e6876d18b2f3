-- The erasure of a checked program holds only shapes and indices that a code may hold, form by form.
use Rattle.std.proofs.Common.{◌≡◌, refl, sym, ap, ◌∙◌, subst, ◌+◌, ◌<◌, ◌^◌, arith, List, [], ◌∷◌, ◌++◌, length}
use Rattle.std.specs.Prelude.{◌||◌}
use Rattle.core_syntax.specs.Norm.{norm_word, has_large}
use Rattle.core_syntax.specs.Syntax.{Ty, Fun, Forall, Pi, Sigma, Tys, no_tys, more_tys, ty_items, no_span, Expr, TermVar, DefVar, Array, NoAtoms, Frame, NoCells, App, TypeApp, IndexApp, Unbox, Exprs, no_exprs, more_exprs, expr_items, Atom, IntAtom, BoolAtom, CharAtom, PrimAtom, Fn, TypeFn, IndexFn, Boxed, Atoms, no_atoms, more_atoms}
use Rattle.core_syntax.specs.Lists.{onto}
use Rattle.core_syntax.specs.NormTypes.{ty_has_large, tys_have_large}
use Rattle.core_syntax.specs.Subst.{kept, put_all, with_types, with_indices}
use Rattle.core_syntax.specs.Prims.{array_of}
use Rattle.core_syntax.specs.Made.{Scope, types_more, indices_more, terms_more, ExprMade, ExprsMade, AtomMade, AtomsMade}
use Rattle.core_syntax.specs.Typing.{Context, under_types, under_sorts, under_terms, HasAtom}
use Rattle.core_syntax.specs.Blame.{later_cells, args_premises, atom_premises, later_atoms, expr_premises}
use Rattle.core_syntax.specs.Notes.{NodeNote, no_note, cell_note, app_note, unbox_note, Joined, NotesAre, ExprsNotesAre, AtomNotesAre, AtomsNotesAre}
use Rattle.core_syntax.specs.Annotate.{first_note, later_notes, annotated, annotated_all, annotated_atom, annotated_atoms}
use Rattle.core_syntax.proofs.Equality.{same-put}
use Rattle.core_syntax.proofs.Unique.{unique}
use Rattle.core_syntax.proofs.Formed.{has_formed}
use Rattle.erasure.specs.Erasure.{er, er_terms, er_cell, er_cells}
use Rattle.machine_table.specs.IndexBounds.{IsCell}
use Rattle.machine_table.specs.CodeBounds.{IsCount}
use Rattle.lowering.proofs.texts.Writable.{IsNoted, AreNoted, IsCellNoted, AreCellsNoted}
use Rattle.lowering.proofs.texts.NoteWords.{neither, type_fine, types_fine, no_large, measure_same, shape_same}
use Rattle.reduction_laws.proofs.programs.NotesRead.{opened, unread, leaf, split}
use Rattle.lowering.proofs.texts.Noted.{onto_count, same_count, args_met, pi_met, sigma_met, indices_fine, box_met, result_fine, whole_fine, note_fine, cells_fine}

-- a scope and a context have as many index variables, and not too many
abbrev pub Suits : Scope → Context → Type 0
Suits G Γ = (length Γ.sorts ≡ G.indices) × (G.indices < 2 ^ 31)

few : (G : Scope) (Γ : Context) → Suits G Γ → length Γ.sorts < 2 ^ 32
few G Γ s = let e = s.0 in let l = s.1 in omega (arith, e, l)

mutual
  -- where the notes are read. What isn't read is left
  pub expr_noted : (G : Scope) (Γ : Context) → Suits G Γ → (e : Expr) → ExprMade G e → (expr_premises Γ e).met
      → (ms : List NodeNote) → NotesAre Γ e ms → (ns rest : List NodeNote) → ns ≡ ms ++ rest → IsNoted (er Γ.sorts (annotated e ns).0) × ((annotated e ns).1 ≡ rest)
  expr_noted G Γ s (TermVar at k) m h ms j ns rest e = (tt, leaf no_note ms ns rest j e)
  expr_noted G Γ s (DefVar at k) m h ms j ns rest e = (tt, leaf no_note ms ns rest j e)
  expr_noted G Γ s (Array at dims no_atoms) m h ms j ns rest e = absurd h.1.1
  expr_noted G Γ s (Array at dims (more_atoms x xs)) m h ms j ns rest e =
      let o = opened no_note (AtomsNotesAre Γ (more_atoms x xs)) ms ns rest j e in
      let p = o.1 in
      let r = atom_noted G Γ s x h.0.1.0 m.1.0 h.0.0 h.0.1.1 p.0 p.3 (later_notes ns) (p.1 ++ rest) (split (later_notes ns) o.0 p.0 p.1 rest o.3 p.2) in
      let q = atoms_noted G Γ s xs h.0.1.0 m.1.1 h.0.1.2 p.1 p.4 (annotated_atom x (later_notes ns)).1 rest r.1 in
      ((r.0, q.0), q.1)
  expr_noted G Γ s (NoAtoms at dims t) m h ms j ns rest e = (tt, leaf no_note ms ns rest j e)
  expr_noted G Γ s (Frame at dims no_exprs) m h ms j ns rest e = absurd j
  expr_noted G Γ s (Frame at dims (more_exprs x xs)) m h ms j ns rest e =
      let o = opened (cell_note j.0) (Joined (NotesAre Γ x) (ExprsNotesAre Γ xs)) ms ns rest j.2 e in
      let p = o.1 in
      let r = expr_noted G Γ s x m.1.0 h.0.0 p.0 p.3 (later_notes ns) (p.1 ++ rest) (split (later_notes ns) o.0 p.0 p.1 rest o.3 p.2) in
      let q = cells_noted G Γ s xs h.0.1.0 m.1.1 h.0.1.2 p.1 p.4 (annotated x (later_notes ns)).1 rest r.1 in
      ((r.0, q.0), q.1)
  expr_noted G Γ s (NoCells at dims u) m h ms j ns rest e = (whole_fine Γ (few G Γ s) dims u h.1.0 h.1.1.1 h.1.2, leaf no_note ms ns rest j e)
  expr_noted G Γ s (App at f es) m h ms j ns rest e =
      let o = opened (app_note j.0 j.1) (Joined (NotesAre Γ f) (ExprsNotesAre Γ es)) ms ns rest j.4 e in
      let p = o.1 in
      let found = array_of (Fun no_span j.0 j.1) j.2 in
      let known = h.0.0.1 in
      let less = no_large found (measure_same known.0 found (unique Γ f known.0 found known.1 j.3) known.2) in
      let parts = neither (tys_have_large j.0) (ty_has_large j.1) (neither (tys_have_large j.0 || ty_has_large j.1) (has_large (norm_word j.2)) less).0 in
      let formed = (has_formed Γ f found j.3).2 in
      let read = h.0.1 in
      let given = args_met Γ at es j.0 j.1 j.2 read.0 read.2.0 (unique Γ f read.0 found read.1 j.3) read.2.1 in
      let some : 0 < length (ty_items j.0) = subst (λ n. 0 < n) (sym given.1 ∙ same_count given.0 j.0 given.3) m.1 in
      let r = expr_noted G Γ s f m.0 h.0.0 p.0 p.3 (later_notes ns) (p.1 ++ rest) (split (later_notes ns) o.0 p.0 p.1 rest o.3 p.2) in
      let q = args_noted G Γ s es given.0 given.1 m.2 given.2 p.1 p.4 (annotated f (later_notes ns)).1 rest r.1 in (
        (
          r.0,
          q.0,
          cells_fine Γ (few G Γ s) j.0 j.1 ns o.2 some (types_fine Γ.sorts (few G Γ s) Γ.types j.0 formed.0 parts.0),
          note_fine Γ (few G Γ s) (app_note j.0 j.1) j.1 ns o.2 refl (type_fine Γ.sorts (few G Γ s) Γ.types j.1 formed.1 parts.1),
        ),
        q.1,
      )
  expr_noted G Γ s (TypeApp at x us) m h ms j ns rest e =
      let o = opened (cell_note (with_types us j.0)) (NotesAre Γ x) ms ns rest j.3 e in
      let found = array_of (Forall no_span (length us) j.0) j.1 in
      let own = h.1 in
      let t = own.1 in
      let all = array_of (Forall no_span t.0 t.1) t.2 in
      let same = unique Γ x all found t.3 j.2 in
      let r = expr_noted G Γ s x m.0 h.0.0 o.0 o.1 (later_notes ns) rest o.3 in
      let cell = subst IsCell (shape_same (with_types us t.1) (with_types us j.0) (same-put kept (put_all us) t.1 j.0 same.0.1)) (result_fine Γ (few G Γ s) (with_types us t.1) t.2 own.0 t.6 own.2) in
      ((r.0, note_fine Γ (few G Γ s) (cell_note (with_types us j.0)) (with_types us j.0) ns o.2 refl cell), r.1)
  expr_noted G Γ s (IndexApp at x is) m h ms j ns rest e =
      let o = opened (cell_note (with_indices is j.1)) (NotesAre Γ x) ms ns rest j.4 e in
      let found = array_of (Pi no_span j.0 j.1) j.2 in
      let own = h.1 in
      let t = own.1 in
      let all = array_of (Pi no_span t.0 t.1) t.2 in
      let same = unique Γ x all found t.3 j.3 in
      let read = h.0.1 in
      let given = pi_met Γ at is t.0 t.1 t.2 read.0 read.2.0 (unique Γ x read.0 all read.1 t.3) read.2.1 in
      let r = expr_noted G Γ s x m.0 h.0.0 o.0 o.1 (later_notes ns) rest o.3 in
      let cell = subst IsCell (shape_same (with_indices is t.1) (with_indices is j.1) (same-put (put_all is) kept t.1 j.1 same.0.1)) (result_fine Γ (few G Γ s) (with_indices is t.1) t.2 own.0 t.5 own.2) in
      ((r.0, indices_fine Γ at (few G Γ s) t.0 is t.4 given, note_fine Γ (few G Γ s) (cell_note (with_indices is j.1)) (with_indices is j.1) ns o.2 refl cell), r.1)
  expr_noted G Γ s (Unbox at n x u b) m h ms j ns rest e =
      let o = opened (unbox_note j.0 u) (Joined (NotesAre Γ x) (NotesAre (under_terms (j.1 ∷ []) (under_sorts j.0 Γ)) b)) ms ns rest j.4 e in
      let p = o.1 in
      let found = array_of (Sigma no_span j.0 j.1) j.2 in
      let read = h.0.1 in
      let given = sigma_met Γ at n u b j.0 j.1 j.2 read.0 read.2.0 (unique Γ x read.0 found read.1 j.3) read.2.1 in
      let inner : Suits (terms_more 1 (indices_more n G)) (under_terms (j.1 ∷ []) (under_sorts j.0 Γ)) =
      (onto_count j.0 Γ.sorts ∙ (λ i. sym given.0 i + s.0 i), m.3.1) in
      let r = expr_noted G Γ s x m.1 h.0.0 p.0 p.3 (later_notes ns) (p.1 ++ rest) (split (later_notes ns) o.0 p.0 p.1 rest o.3 p.2) in
      let q = expr_noted (terms_more 1 (indices_more n G)) (under_terms (j.1 ∷ []) (under_sorts j.0 Γ)) inner b m.4 given.2 p.1 p.4 (annotated x (later_notes ns)).1 rest r.1 in
      let sorts : j.0 ≡ (first_note ns).sorts = sym (ap (λ l. l.sorts) o.2) in
      let bound = m.3.1 in
      let some = m.0 in
      let count : IsCount (length j.0) = subst IsCount given.0 (some, (let l : n + G.indices < 2 ^ 31 = bound in omega (arith, l))) in
      let formed = h.1.1.5 in (
        (
          r.0,
          subst (λ ss. IsNoted (er (onto ss Γ.sorts) (annotated b (annotated x (later_notes ns)).1).0)) sorts q.0,
          subst (λ ss. IsCount (length ss)) sorts count,
          note_fine Γ (few G Γ s) (unbox_note j.0 u) u ns o.2 refl (type_fine Γ.sorts (few G Γ s) Γ.types u formed (no_large u given.1)),
        ),
        q.1,
      )

  -- arguments with their input types
  args_noted : (G : Scope) (Γ : Context) → Suits G Γ → (es : Exprs) (us : Tys) → length (ty_items us) ≡ length (expr_items es) → ExprsMade G es → (args_premises Γ es us).met
      → (ms : List NodeNote) → ExprsNotesAre Γ es ms → (ns rest : List NodeNote) → ns ≡ ms ++ rest → AreNoted (er_terms Γ.sorts (annotated_all es ns).0) × ((annotated_all es ns).1 ≡ rest)
  args_noted G Γ s no_exprs us n m h ms j ns rest e = (tt, unread ms ns rest j e)
  args_noted G Γ s (more_exprs x xs) no_tys n m h ms j ns rest e = absurd (omega (arith, n))
  args_noted G Γ s (more_exprs x xs) (more_tys u us) n m h ms j ns rest e =
      let r = expr_noted G Γ s x m.0 h.0 j.0 j.3 ns (j.1 ++ rest) (split ns ms j.0 j.1 rest e j.2) in
      let q = args_noted G Γ s xs us (omega (arith, n)) m.1 h.1.1 j.1 j.4 (annotated x ns).1 rest r.1 in
      ((r.0, q.0), q.1)

  -- the cells of a frame behind the first
  cells_noted : (G : Scope) (Γ : Context) → Suits G Γ → (es : Exprs) (t : Ty) → ExprsMade G es → (later_cells Γ t es).met
      → (ms : List NodeNote) → ExprsNotesAre Γ es ms → (ns rest : List NodeNote) → ns ≡ ms ++ rest → AreNoted (er_terms Γ.sorts (annotated_all es ns).0) × ((annotated_all es ns).1 ≡ rest)
  cells_noted G Γ s no_exprs t m h ms j ns rest e = (tt, unread ms ns rest j e)
  cells_noted G Γ s (more_exprs x xs) t m h ms j ns rest e =
      let r = expr_noted G Γ s x m.0 h.0 j.0 j.3 ns (j.1 ++ rest) (split ns ms j.0 j.1 rest e j.2) in
      let q = cells_noted G Γ s xs t m.1 h.1.1 j.1 j.4 (annotated x ns).1 rest r.1 in
      ((r.0, q.0), q.1)

  -- an atom of this type
  atom_noted : (G : Scope) (Γ : Context) → Suits G Γ → (a : Atom) (t : Ty) → AtomMade G a → (atom_premises Γ a).met → HasAtom Γ a t
      → (ms : List NodeNote) → AtomNotesAre Γ a ms → (ns rest : List NodeNote) → ns ≡ ms ++ rest → IsCellNoted (er_cell Γ.sorts (annotated_atom a ns).0) × ((annotated_atom a ns).1 ≡ rest)
  atom_noted G Γ s (IntAtom at z) t m h k ms j ns rest e = (tt, unread ms ns rest j e)
  atom_noted G Γ s (BoolAtom at b) t m h k ms j ns rest e = (tt, unread ms ns rest j e)
  atom_noted G Γ s (CharAtom at c) t m h k ms j ns rest e = (tt, unread ms ns rest j e)
  atom_noted G Γ s (PrimAtom at p) t m h k ms j ns rest e = (tt, unread ms ns rest j e)
  atom_noted G Γ s (Fn at ts r x) t m h k ms j ns rest e = expr_noted (terms_more (length (ty_items ts)) G) (under_terms (ty_items ts) Γ) s x m.4 h.1.1.0 ms j ns rest e
  atom_noted G Γ s (TypeFn at n x) t m h k ms j ns rest e = expr_noted (types_more n G) (under_types n Γ) s x m.2 h ms j ns rest e
  atom_noted G Γ s (IndexFn at ss x) t m h k ms j ns rest e =
      expr_noted (indices_more (length ss) G) (under_sorts ss Γ) (onto_count ss Γ.sorts ∙ ap (λ n. length ss + n) s.0, m.1.1) x m.2 h ms j ns rest e
  atom_noted G Γ s (Boxed at is x u) t m h k ms j ns rest e =
      let b = box_met Γ at (few G Γ s) is x u h.1.0 h.1.1 k.1 in
      let r = expr_noted G Γ s x m.2 b.1 ms j ns rest e in
      ((b.0, r.0), r.1)

  -- the atoms of an array behind the first
  atoms_noted : (G : Scope) (Γ : Context) → Suits G Γ → (xs : Atoms) (t : Ty) → AtomsMade G xs → (later_atoms Γ t xs).met
      → (ms : List NodeNote) → AtomsNotesAre Γ xs ms → (ns rest : List NodeNote) → ns ≡ ms ++ rest → AreCellsNoted (er_cells Γ.sorts (annotated_atoms xs ns).0) × ((annotated_atoms xs ns).1 ≡ rest)
  atoms_noted G Γ s no_atoms t m h ms j ns rest e = (tt, unread ms ns rest j e)
  atoms_noted G Γ s (more_atoms x xs) t m h ms j ns rest e =
      let r = atom_noted G Γ s x h.1.0.0 m.0 h.0 h.1.0.1 j.0 j.3 ns (j.1 ++ rest) (split ns ms j.0 j.1 rest e j.2) in
      let q = atoms_noted G Γ s xs t m.1 h.1.1 j.1 j.4 (annotated_atom x ns).1 rest r.1 in
      ((r.0, q.0), q.1)
