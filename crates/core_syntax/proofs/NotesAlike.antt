-- Contexts with equal types: the same notes are those of an expression in them.
use Rattle.std.proofs.Common.{subst, List, [], ◌∷◌}
use Rattle.core_syntax.specs.Syntax.{Ty, Expr, TermVar, DefVar, Array, NoAtoms, Frame, NoCells, App, TypeApp, IndexApp, Unbox, Exprs, no_exprs, more_exprs, Atom, IntAtom, BoolAtom, CharAtom, PrimAtom, Fn, TypeFn, IndexFn, Boxed, Atoms, no_atoms, more_atoms, Fun, Pi, Sigma, no_span, ty_items}
use Rattle.core_syntax.specs.Lists.{onto}
use Rattle.core_syntax.specs.Prims.{array_of}
use Rattle.core_syntax.specs.Subst.{with_types, with_indices}
use Rattle.core_syntax.specs.Typing.{Context, under_types, under_sorts, under_terms}
use Rattle.core_syntax.specs.Notes.{NodeNote, no_note, cell_note, app_note, unbox_note, Behind, Joined, NotesAre, ExprsNotesAre, AtomNotesAre, AtomsNotesAre}
use Rattle.core_syntax.proofs.Alike.{retyped, Retypes, sorts_more, types_more, retypes_sorts, retypes_types, retypes_terms, has_retyped, Alike, alike_is, alike_retypes}

behind_carries : (n : NodeNote) {P Q : List NodeNote → Type 0} → ((ns : List NodeNote) → P ns → Q ns) → (ns : List NodeNote) → Behind n P ns → Behind n Q ns
behind_carries n k [] h = absurd h
behind_carries n k (m ∷ ms) h = (h.0, k ms h.1)

joined_carries : {P P' Q Q' : List NodeNote → Type 0} → ((ns : List NodeNote) → P ns → P' ns) → ((ns : List NodeNote) → Q ns → Q' ns) → (ns : List NodeNote) → Joined P Q ns → Joined P' Q' ns
joined_carries k l ns h = (h.0, h.1, h.2, k h.0 h.3, l h.1 h.4)

mutual
  notes_retyped : (ds ts : List Ty) (Γ : Context) → Retypes ds ts Γ → (e : Expr) (ns : List NodeNote) → NotesAre Γ e ns → NotesAre (retyped ds ts Γ) e ns
  notes_retyped ds ts Γ r (TermVar at k) ns h = h
  notes_retyped ds ts Γ r (DefVar at k) ns h = h
  notes_retyped ds ts Γ r (Array at dims xs) ns h = behind_carries no_note (atoms_retyped ds ts Γ r xs) ns h
  notes_retyped ds ts Γ r (NoAtoms at dims t) ns h = h
  notes_retyped ds ts Γ r (Frame at dims no_exprs) ns h = absurd h
  notes_retyped ds ts Γ r (Frame at dims (more_exprs e es)) ns h =
      (h.0, has_retyped ds ts Γ r e h.0 h.1, behind_carries (cell_note h.0) (joined_carries (notes_retyped ds ts Γ r e) (exprs_retyped ds ts Γ r es)) ns h.2)
  notes_retyped ds ts Γ r (NoCells at dims t) ns h = h
  notes_retyped ds ts Γ r (App at f es) ns h =
      (h.0, h.1, h.2, has_retyped ds ts Γ r f (array_of (Fun no_span h.0 h.1) h.2) h.3, behind_carries (app_note h.0 h.1) (joined_carries (notes_retyped ds ts Γ r f) (exprs_retyped ds ts Γ r es)) ns h.4)
  notes_retyped ds ts Γ r (TypeApp at e us) ns h =
      (h.0, h.1, has_retyped ds ts Γ r e _ h.2, behind_carries (cell_note (with_types us h.0)) (notes_retyped ds ts Γ r e) ns h.3)
  notes_retyped ds ts Γ r (IndexApp at e is) ns h =
      (h.0, h.1, h.2, has_retyped ds ts Γ r e (array_of (Pi no_span h.0 h.1) h.2) h.3, behind_carries (cell_note (with_indices is h.1)) (notes_retyped ds ts Γ r e) ns h.4)
  notes_retyped ds ts Γ r (Unbox at n e u b) ns h =
      let ts' = sorts_more h.0 ts in
      let Δ = under_sorts h.0 Γ in
      let r' = retypes_terms ds ts' Δ (h.1 ∷ []) (retypes_sorts ds ts Γ h.0 r) in
      (h.0, h.1, h.2, has_retyped ds ts Γ r e (array_of (Sigma no_span h.0 h.1) h.2) h.3, behind_carries (unbox_note h.0 u) (joined_carries (notes_retyped ds ts Γ r e) (notes_retyped ds (h.1 ∷ ts') (under_terms (h.1 ∷ []) Δ) r' b)) ns h.4)

  exprs_retyped : (ds ts : List Ty) (Γ : Context) → Retypes ds ts Γ → (es : Exprs) (ns : List NodeNote) → ExprsNotesAre Γ es ns → ExprsNotesAre (retyped ds ts Γ) es ns
  exprs_retyped ds ts Γ r no_exprs ns h = h
  exprs_retyped ds ts Γ r (more_exprs e es) ns h = joined_carries (notes_retyped ds ts Γ r e) (exprs_retyped ds ts Γ r es) ns h

  atom_retyped : (ds ts : List Ty) (Γ : Context) → Retypes ds ts Γ → (a : Atom) (ns : List NodeNote) → AtomNotesAre Γ a ns → AtomNotesAre (retyped ds ts Γ) a ns
  atom_retyped ds ts Γ r (IntAtom at z) ns h = h
  atom_retyped ds ts Γ r (BoolAtom at b) ns h = h
  atom_retyped ds ts Γ r (CharAtom at c) ns h = h
  atom_retyped ds ts Γ r (PrimAtom at p) ns h = h
  atom_retyped ds ts Γ r (Fn at us w e) ns h = notes_retyped ds (onto (ty_items us) ts) (under_terms (ty_items us) Γ) (retypes_terms ds ts Γ (ty_items us) r) e ns h
  atom_retyped ds ts Γ r (TypeFn at n e) ns h = notes_retyped ds (types_more n ts) (under_types n Γ) (retypes_types ds ts Γ n r) e ns h
  atom_retyped ds ts Γ r (IndexFn at ss e) ns h = notes_retyped ds (sorts_more ss ts) (under_sorts ss Γ) (retypes_sorts ds ts Γ ss r) e ns h
  atom_retyped ds ts Γ r (Boxed at is e t) ns h = notes_retyped ds ts Γ r e ns h

  atoms_retyped : (ds ts : List Ty) (Γ : Context) → Retypes ds ts Γ → (xs : Atoms) (ns : List NodeNote) → AtomsNotesAre Γ xs ns → AtomsNotesAre (retyped ds ts Γ) xs ns
  atoms_retyped ds ts Γ r no_atoms ns h = h
  atoms_retyped ds ts Γ r (more_atoms a xs) ns h = joined_carries (atom_retyped ds ts Γ r a) (atoms_retyped ds ts Γ r xs) ns h

pub notes_alike : (Γ Δ : Context) → Alike Γ Δ → (e : Expr) (ns : List NodeNote) → NotesAre Γ e ns → NotesAre Δ e ns
notes_alike Γ Δ a e ns h = subst (λ Δ. NotesAre Δ e ns) (alike_is Γ Δ a) (notes_retyped Δ.defs Δ.terms Γ (alike_retypes Γ Δ a) e ns h)

pub atom_notes_alike : (Γ Δ : Context) → Alike Γ Δ → (x : Atom) (ns : List NodeNote) → AtomNotesAre Γ x ns → AtomNotesAre Δ x ns
atom_notes_alike Γ Δ a x ns h = subst (λ Δ. AtomNotesAre Δ x ns) (alike_is Γ Δ a) (atom_retyped Δ.defs Δ.terms Γ (alike_retypes Γ Δ a) x ns h)
