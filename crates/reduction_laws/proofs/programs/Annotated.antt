-- The typed term of a typed expression, with the notes of a checker at its nodes, has the expression's type.
use Rattle.std.proofs.Common.{◌≡◌, refl, sym, ◌∙◌, ap, subst, ℕ, zero, suc, ◌+◌, List, [], ◌∷◌, ◌++◌, append_assoc, length}
use mathlib.Core.Path.{subst₂}
use Rattle.core_syntax.specs.declared.index.Sort.{Sort}
use Rattle.core_syntax.specs.declared.index.Sort.TheVariants as sort
use Rattle.core_syntax.specs.Syntax.{Index, Ty, Fun, Forall, Pi, Sigma, Arr, Tys, no_tys, more_tys, no_span, ty_items, ty_list, Expr, TermVar, DefVar, Array, NoAtoms, Frame, NoCells, App, TypeApp, IndexApp, Unbox, Exprs, no_exprs, more_exprs, expr_items, Atom, IntAtom, BoolAtom, CharAtom, PrimAtom, Fn, TypeFn, IndexFn, Boxed, Atoms, no_atoms, more_atoms, atom_items}
use Rattle.core_syntax.specs.Lists.{each, Each}
use Rattle.core_syntax.specs.Kinds.{IsWellFormed, AreWellFormed}
use Rattle.core_syntax.specs.Value.{IndexEqual, then_shape}
use Rattle.core_syntax.specs.TypeEqual.{Same, AllSame}
use Rattle.core_syntax.specs.Norm.{norm_word, word_tree}
use Rattle.core_syntax.specs.NormTypes.{norm_ty}
use Rattle.core_syntax.specs.Subst.{kept, put_all, same, ty_under_index, with_types, with_indices}
use Rattle.core_syntax.specs.Prims.{array_of}
use Rattle.core_syntax.specs.Made.{Scope, ExprMade, ExprsMade, AtomMade, AtomsMade}
use Rattle.core_syntax.specs.Typing.{Context, times, under_types, under_sorts, under_terms, OnArr, Takes, Has, ExprsHave, ArgsHave, HasAtom, AtomsHave}
use Rattle.core_syntax.specs.Notes.{NodeNote, no_note, cell_note, app_note, unbox_note, shape_word, Behind, Joined, Empty, NotesAre, ExprsNotesAre, AtomNotesAre, AtomsNotesAre}
use Rattle.core_syntax.specs.Terms.{TUnbox}
use Rattle.core_syntax.specs.TermTyping.{Notes, HasTerm, TermsHave, TermArgsHave, HasCell, CellsHave, cell_count, term_count}
use Rattle.core_syntax.specs.Annotate.{first_note, later_notes, noted, cell_noted, annotated, annotated_all, annotated_atom, annotated_atoms}
use Rattle.core_syntax.proofs.Equality.{same_sym, same_trans, same-put}
use Rattle.core_syntax.proofs.Unique.{unique, wholes_agree}
use Rattle.core_syntax.proofs.Formed.{has_formed}
use Rattle.core_syntax.proofs.NormTyLemmas.{norm_same, same_normal, same_words}
use Rattle.core_syntax.proofs.Renamed.{same-renamed}
use Rattle.core_syntax.proofs.Alike.{Alike, has_alike, are_same_refl}
use Rattle.reduction_laws.proofs.programs.Alikes.{alike_types, alike_sorts, alike_terms}
use Rattle.reduction_laws.proofs.programs.NormFormed.{formed_norm}
use Rattle.reduction_laws.proofs.programs.NotesRead.{opened, unread, leaf, split}
use Rattle.reduction_laws.proofs.putting.Placed.{types_formed, indices_formed, under_sorts_formed}
use Rattle.reduction_laws.proofs.putting.TermSubst.{term_same}

-- ---- what notes say

-- the normal type of what equals the type that a rule finds is its note
noted_is : (Γ : Context) (found t note : Ty) → IsWellFormed Γ.types Γ.sorts found → Same t found → note ≡ norm_ty t → Notes Γ found note
noted_is Γ found t note w s e =
    let is : norm_ty found ≡ note = sym (e ∙ same_normal t found s) in
    (w, subst (IsWellFormed Γ.types Γ.sorts) is (formed_norm Γ.types Γ.sorts found w), subst (Same found) is (same_sym (norm_ty found) found (norm_same found)))

-- the normal shape of what equals an input type is the note of its cell shape
cell_is : (Γ : Context) (a b : Ty) (c d : Index) → IsWellFormed Γ.types Γ.sorts (array_of a c) → Same (array_of b d) (array_of a c)
    → IndexEqual Γ.sorts sort.Shape c (word_tree (norm_word d))
cell_is Γ a b c d w s =
    subst (λ l. IndexEqual Γ.sorts sort.Shape c (word_tree l)) (sym (same_words d c s.1))
    (w.1, (formed_norm Γ.types Γ.sorts (array_of a c) w).1, λ v. sym ((norm_same (array_of a c)).1 v))

-- what a rule concludes from a type it concludes from the normal type
concludes_normal : (Γ : Context) (u : Ty) (p : Index) (t : Ty) → OnArr u (λ a w. Takes Γ (array_of a (then_shape p w)) t)
    → OnArr (norm_ty u) (λ a w. Takes Γ (array_of a (then_shape p w)) t)
concludes_normal Γ (Arr at a w) p t h =
    let n = norm_same (array_of a w) in
    (h.0, same_trans (array_of (norm_ty a) (then_shape p (word_tree (norm_word w)))) (array_of a (then_shape p w)) t (n.0, wholes_agree p p (word_tree (norm_word w)) w (λ v. refl) n.1) h.1)
concludes_normal Γ _ p t h = absurd h

same_times : (n : ℕ) (t u : Ty) → Same t u → Same (times n ty_under_index t) (times n ty_under_index u)
same_times zero t u h = h
same_times (suc n) t u h = same-renamed suc same (times n ty_under_index t) (times n ty_under_index u) (same_times n t u h)

-- ---- lists

items_list : (ts : Tys) → ty_list (ty_items ts) ≡ ts
items_list no_tys = refl
items_list (more_tys t ts) = ap (more_tys t) (items_list ts)

each_formed : (m : ℕ) (ss : List Sort) (ts : Tys) → AreWellFormed m ss ts → Each (IsWellFormed m ss) (ty_items ts)
each_formed m ss no_tys h = tt
each_formed m ss (more_tys t ts) h = (h.0, each_formed m ss ts h.1)

cells_counted : (xs : Atoms) (ns : List NodeNote) → cell_count (annotated_atoms xs ns).0 ≡ length (atom_items xs)
cells_counted no_atoms ns = refl
cells_counted (more_atoms a xs) ns = ap suc (cells_counted xs (annotated_atom a ns).1)

terms_counted : (es : Exprs) (ns : List NodeNote) → term_count (annotated_all es ns).0 ≡ length (expr_items es)
terms_counted no_exprs ns = refl
terms_counted (more_exprs e es) ns = ap suc (terms_counted es (annotated e ns).1)

-- ---- expressions

mutual
  -- where the notes are read in a context with equal types. What isn't read is left
  pub annotated_has : (G : Scope) (Γ Δ : Context) → Alike Γ Δ → (e : Expr) (t : Ty) → ExprMade G e → Has Δ e t
      → (ms : List NodeNote) → NotesAre Γ e ms → (ns rest : List NodeNote) → ns ≡ ms ++ rest → HasTerm Δ (annotated e ns).0 t × ((annotated e ns).1 ≡ rest)
  annotated_has G Γ Δ al (TermVar at k) t m h ms j ns rest e = (h, leaf no_note ms ns rest j e)
  annotated_has G Γ Δ al (DefVar at k) t m h ms j ns rest e = (h, leaf no_note ms ns rest j e)
  annotated_has G Γ Δ al (Array at dims no_atoms) t m h ms j ns rest e = absurd h
  annotated_has G Γ Δ al (Array at dims (more_atoms x xs)) t m h ms j ns rest e =
      let o = opened no_note (AtomsNotesAre Γ (more_atoms x xs)) ms ns rest j e in
      let p = o.1 in
      let r = atom_annotated_has G Γ Δ al x h.0 m.1.0 h.1 p.0 p.3 (later_notes ns) (p.1 ++ rest) (split (later_notes ns) o.0 p.0 p.1 rest o.3 p.2) in
      let s = atoms_annotated_have G Γ Δ al xs h.0 m.1.1 h.2 p.1 p.4 (annotated_atom x (later_notes ns)).1 rest r.1 in
      ((h.0, r.0, s.0, h.3, cells_counted (more_atoms x xs) (later_notes ns) ∙ sym m.0.3), s.1)
  annotated_has G Γ Δ al (NoAtoms at dims a) t m h ms j ns rest e = ((h.0, h.1, m.0.1), leaf no_note ms ns rest j e)
  annotated_has G Γ Δ al (Frame at dims no_exprs) t m h ms j ns rest e = absurd h
  annotated_has G Γ Δ al (Frame at dims (more_exprs x xs)) t m h ms j ns rest e =
      let o = opened (cell_note j.0) (Joined (NotesAre Γ x) (ExprsNotesAre Γ xs)) ms ns rest j.2 e in
      let p = o.1 in
      let r = annotated_has G Γ Δ al x (array_of h.0 h.1) m.1.0 h.2 p.0 p.3 (later_notes ns) (p.1 ++ rest) (split (later_notes ns) o.0 p.0 p.1 rest o.3 p.2) in
      let s = all_annotated_have G Γ Δ al xs (array_of h.0 h.1) m.1.1 h.3 p.1 p.4 (annotated x (later_notes ns)).1 rest r.1 in (
        (
          h.0,
          h.1,
          r.0,
          s.0,
          noted_is Δ (array_of h.0 h.1) j.0 (cell_noted ns) (has_formed Δ x (array_of h.0 h.1) h.2) (unique Δ x j.0 (array_of h.0 h.1) (has_alike Γ Δ al x j.0 j.1) h.2) (ap (λ n. noted n.cell) o.2),
          h.4,
          terms_counted (more_exprs x xs) (later_notes ns) ∙ sym m.0.3,
        ),
        s.1,
      )
  annotated_has G Γ Δ al (NoCells at dims u) t m h ms j ns rest e = ((h.0, h.1, m.0.1), leaf no_note ms ns rest j e)
  annotated_has G Γ Δ al (App at f es) t m h ms j ns rest e =
      let o = opened (app_note j.0 j.1) (Joined (NotesAre Γ f) (ExprsNotesAre Γ es)) ms ns rest j.4 e in
      let p = o.1 in
      let fun = array_of (Fun no_span h.0 h.1) h.2 in
      let found = array_of (Fun no_span j.0 j.1) j.2 in
      let same : Same found fun = unique Δ f found fun (has_alike Γ Δ al f found j.3) h.3 in
      let formed = (has_formed Δ f fun h.3).2 in
      let r = annotated_has G Γ Δ al f fun m.0 h.3 p.0 p.3 (later_notes ns) (p.1 ++ rest) (split (later_notes ns) o.0 p.0 p.1 rest o.3 p.2) in
      let s = args_annotated_have G Γ Δ al es h.0 j.0 h.4.0 m.2 formed.0 same.0.0 h.4.1 p.1 p.4 (annotated f (later_notes ns)).1 rest r.1 in (
        (
          h.0,
          h.1,
          h.2,
          r.0,
          (
            h.4.0,
            subst (λ cs. TermArgsHave Δ (annotated_all es (annotated f (later_notes ns)).1).0 h.0 cs h.4.0) (sym (ap (λ n. each word_tree n.cells) o.2)) s.0,
            noted_is Δ h.1 j.1 (cell_noted ns) formed.1 same.0.1 (ap (λ n. noted n.cell) o.2),
            h.4.2,
          ),
        ),
        s.1,
      )
  annotated_has G Γ Δ al (TypeApp at x us) t m h ms j ns rest e =
      let o = opened (cell_note (with_types us j.0)) (NotesAre Γ x) ms ns rest j.3 e in
      let all = array_of (Forall no_span h.0 h.1) h.2 in
      let found = array_of (Forall no_span (length us) j.0) j.1 in
      let same : Same found all = unique Δ x found all (has_alike Γ Δ al x found j.2) h.3 in
      let formed = (has_formed Δ x all h.3).2 in
      let r = annotated_has G Γ Δ al x all m.0 h.3 o.0 o.1 (later_notes ns) rest o.3 in (
        (
          h.0,
          h.1,
          h.2,
          r.0,
          h.4,
          h.5,
          noted_is Δ (with_types us h.1) (with_types us j.0) (cell_noted ns)
              (types_formed Δ us h.1 h.5 (subst (λ n. IsWellFormed (n + Δ.types) Δ.sorts h.1) (sym h.4) formed))
              (same-put kept (put_all us) j.0 h.1 same.0.1) (ap (λ n. noted n.cell) o.2),
          h.6,
        ),
        r.1,
      )
  annotated_has G Γ Δ al (IndexApp at x is) t m h ms j ns rest e =
      let o = opened (cell_note (with_indices is j.1)) (NotesAre Γ x) ms ns rest j.4 e in
      let all = array_of (Pi no_span h.0 h.1) h.2 in
      let found = array_of (Pi no_span j.0 j.1) j.2 in
      let same : Same found all = unique Δ x found all (has_alike Γ Δ al x found j.3) h.3 in
      let r = annotated_has G Γ Δ al x all m.0 h.3 o.0 o.1 (later_notes ns) rest o.3 in (
        (
          h.0,
          h.1,
          h.2,
          r.0,
          h.4,
          noted_is Δ (with_indices is h.1) (with_indices is j.1) (cell_noted ns) (indices_formed Δ h.0 is h.1 h.4 (has_formed Δ x all h.3).2)
              (same-put (put_all is) kept j.1 h.1 same.0.1) (ap (λ n. noted n.cell) o.2),
          h.5,
        ),
        r.1,
      )
  annotated_has G Γ Δ al (Unbox at n x u b) t m h ms j ns rest e =
      let o = opened (unbox_note j.0 u) (Joined (NotesAre Γ x) (NotesAre (under_terms (j.1 ∷ []) (under_sorts j.0 Γ)) b)) ms ns rest j.4 e in
      let p = o.1 in
      let box = array_of (Sigma no_span h.0 h.1) h.2 in
      let found = array_of (Sigma no_span j.0 j.1) j.2 in
      let same : Same found box = unique Δ x found box (has_alike Γ Δ al x found j.3) h.3 in
      let Δ' = under_terms (h.1 ∷ []) (under_sorts h.0 Δ) in
      let al' = alike_terms (j.1 ∷ []) (h.1 ∷ []) (under_sorts j.0 Γ) (under_sorts h.0 Δ) (same.0.1, tt) (alike_sorts j.0 h.0 Γ Δ same.0.0 al) in
      let r = annotated_has G Γ Δ al x box m.1 h.3 p.0 p.3 (later_notes ns) (p.1 ++ rest) (split (later_notes ns) o.0 p.0 p.1 rest o.3 p.2) in
      let s = annotated_has _ (under_terms (j.1 ∷ []) (under_sorts j.0 Γ)) Δ' al' b (times n ty_under_index u) m.4 h.6 p.1 p.4 (annotated x (later_notes ns)).1 rest r.1 in
      let formed = formed_norm Δ.types Δ.sorts u h.5 in
      let body = term_same Δ' (annotated b (annotated x (later_notes ns)).1).0 (times (length h.0) ty_under_index u) (times (length h.0) ty_under_index (norm_ty u))
      (subst (λ n. HasTerm Δ' (annotated b (annotated x (later_notes ns)).1).0 (times n ty_under_index u)) (sym h.4) s.0)
      (same_times (length h.0) u (norm_ty u) (same_sym (norm_ty u) u (norm_same u))) (under_sorts_formed h.0 Δ.types Δ.sorts (norm_ty u) formed) in (
        subst₂ (λ ss note. HasTerm Δ (TUnbox ss (annotated x (later_notes ns)).0 (annotated b (annotated x (later_notes ns)).1).0 note) t)
            (sym (ap (λ n. n.sorts) o.2 ∙ same.0.0)) (sym (ap (λ n. noted n.cell) o.2))
            (h.1, h.2, r.0, formed, body, concludes_normal Δ u h.2 t h.7),
        s.1,
      )

  all_annotated_have : (G : Scope) (Γ Δ : Context) → Alike Γ Δ → (es : Exprs) (t : Ty) → ExprsMade G es → ExprsHave Δ es t
      → (ms : List NodeNote) → ExprsNotesAre Γ es ms → (ns rest : List NodeNote) → ns ≡ ms ++ rest → TermsHave Δ (annotated_all es ns).0 t × ((annotated_all es ns).1 ≡ rest)
  all_annotated_have G Γ Δ al no_exprs t m h ms j ns rest e = (tt, unread ms ns rest j e)
  all_annotated_have G Γ Δ al (more_exprs x xs) t m h ms j ns rest e =
      let r = annotated_has G Γ Δ al x t m.0 h.0 j.0 j.3 ns (j.1 ++ rest) (split ns ms j.0 j.1 rest e j.2) in
      let s = all_annotated_have G Γ Δ al xs t m.1 h.1 j.1 j.4 (annotated x ns).1 rest r.1 in
      ((r.0, s.0), s.1)

  -- arguments of these input types, noted by types that equal them
  args_annotated_have : (G : Scope) (Γ Δ : Context) → Alike Γ Δ → (es : Exprs) (us vs : Tys) (ps : List Index) → ExprsMade G es → AreWellFormed Δ.types Δ.sorts us → AllSame vs us → ArgsHave Δ es us ps
      → (ms : List NodeNote) → ExprsNotesAre Γ es ms → (ns rest : List NodeNote) → ns ≡ ms ++ rest
      → TermArgsHave Δ (annotated_all es ns).0 us (each word_tree (each shape_word (ty_items vs))) ps × ((annotated_all es ns).1 ≡ rest)
  args_annotated_have G Γ Δ al no_exprs no_tys no_tys [] m w q h ms j ns rest e = (tt, unread ms ns rest j e)
  args_annotated_have G Γ Δ al (more_exprs x xs) (more_tys (Arr at a c) us) (more_tys (Arr at' b d) vs) (p ∷ ps) m w q h ms j ns rest e =
      let r = annotated_has G Γ Δ al x (array_of a (then_shape p c)) m.0 h.0 j.0 j.3 ns (j.1 ++ rest) (split ns ms j.0 j.1 rest e j.2) in
      let s = args_annotated_have G Γ Δ al xs us vs ps m.1 w.1 q.1 h.1 j.1 j.4 (annotated x ns).1 rest r.1 in
      (((r.0, cell_is Δ a b c d w.0 q.0), s.0), s.1)
  args_annotated_have G Γ Δ al (more_exprs x xs) (more_tys (Arr at a c) us) (more_tys _ vs) (p ∷ ps) m w q h ms j ns rest e = absurd q.0
  args_annotated_have G Γ Δ al (more_exprs x xs) (more_tys (Arr at a c) us) no_tys (p ∷ ps) m w q h ms j ns rest e = absurd q
  args_annotated_have G Γ Δ al (more_exprs x xs) (more_tys _ us) vs (p ∷ ps) m w q h ms j ns rest e = absurd h.0
  args_annotated_have G Γ Δ al (more_exprs x xs) (more_tys u us) vs [] m w q h ms j ns rest e = absurd h
  args_annotated_have G Γ Δ al (more_exprs x xs) no_tys vs ps m w q h ms j ns rest e = absurd h
  args_annotated_have G Γ Δ al no_exprs no_tys (more_tys v vs) [] m w q h ms j ns rest e = absurd q
  args_annotated_have G Γ Δ al no_exprs no_tys vs (p ∷ ps) m w q h ms j ns rest e = absurd h
  args_annotated_have G Γ Δ al no_exprs (more_tys u us) vs ps m w q h ms j ns rest e = absurd h

  atom_annotated_has : (G : Scope) (Γ Δ : Context) → Alike Γ Δ → (a : Atom) (t : Ty) → AtomMade G a → HasAtom Δ a t
      → (ms : List NodeNote) → AtomNotesAre Γ a ms → (ns rest : List NodeNote) → ns ≡ ms ++ rest → HasCell Δ (annotated_atom a ns).0 t × ((annotated_atom a ns).1 ≡ rest)
  atom_annotated_has G Γ Δ al (IntAtom at z) t m h ms j ns rest e = (h, unread ms ns rest j e)
  atom_annotated_has G Γ Δ al (BoolAtom at b) t m h ms j ns rest e = (h, unread ms ns rest j e)
  atom_annotated_has G Γ Δ al (CharAtom at c) t m h ms j ns rest e = (h, unread ms ns rest j e)
  atom_annotated_has G Γ Δ al (PrimAtom at p) t m h ms j ns rest e = (h, unread ms ns rest j e)
  atom_annotated_has G Γ Δ al (Fn at ts u x) t m h ms j ns rest e =
      let r = annotated_has _ (under_terms (ty_items ts) Γ) (under_terms (ty_items ts) Δ) (alike_terms (ty_items ts) (ty_items ts) Γ Δ (are_same_refl (ty_items ts)) al) x u m.4 h.2 ms j ns rest e in
      ((each_formed Δ.types Δ.sorts ts h.0, h.1, r.0, subst (λ us. Takes Δ (Fun no_span us u) t) (sym (items_list ts)) h.3), r.1)
  atom_annotated_has G Γ Δ al (TypeFn at n x) t m h ms j ns rest e =
      let r = annotated_has _ (under_types n Γ) (under_types n Δ) (alike_types n Γ Δ al) x h.0 m.2 h.1 ms j ns rest e in
      ((h.0, r.0, h.2), r.1)
  atom_annotated_has G Γ Δ al (IndexFn at ss x) t m h ms j ns rest e =
      let r = annotated_has _ (under_sorts ss Γ) (under_sorts ss Δ) (alike_sorts ss ss Γ Δ refl al) x h.0 m.2 h.1 ms j ns rest e in
      ((h.0, r.0, h.2), r.1)
  atom_annotated_has G Γ Δ al (Boxed at is x (Sigma at' ss b)) t m h ms j ns rest e =
      let r = annotated_has G Γ Δ al x (with_indices is b) m.2 h.1.1 ms j ns rest e in
      ((h.0, (h.1.0, r.0), h.2), r.1)
  atom_annotated_has G Γ Δ al (Boxed at is x _) t m h ms j ns rest e = absurd h.1

  atoms_annotated_have : (G : Scope) (Γ Δ : Context) → Alike Γ Δ → (xs : Atoms) (t : Ty) → AtomsMade G xs → AtomsHave Δ xs t
      → (ms : List NodeNote) → AtomsNotesAre Γ xs ms → (ns rest : List NodeNote) → ns ≡ ms ++ rest → CellsHave Δ (annotated_atoms xs ns).0 t × ((annotated_atoms xs ns).1 ≡ rest)
  atoms_annotated_have G Γ Δ al no_atoms t m h ms j ns rest e = (tt, unread ms ns rest j e)
  atoms_annotated_have G Γ Δ al (more_atoms x xs) t m h ms j ns rest e =
      let r = atom_annotated_has G Γ Δ al x t m.0 h.0 j.0 j.3 ns (j.1 ++ rest) (split ns ms j.0 j.1 rest e j.2) in
      let s = atoms_annotated_have G Γ Δ al xs t m.1 h.1 j.1 j.4 (annotated_atom x ns).1 rest r.1 in
      ((r.0, s.0), s.1)
