-- A program has one list of notes.
use Rattle.std.proofs.Common.{◌≡◌, refl, sym, ap, ◌∙◌, List, [], ◌∷◌, ◌++◌, length, Some}
use Rattle.core_syntax.specs.Syntax.{Ty, Fun, Forall, Pi, Sigma, Tys, no_tys, more_tys, ty_items, no_span, Expr, TermVar, DefVar, Array, NoAtoms, Frame, NoCells, App, TypeApp, IndexApp, Unbox, Exprs, no_exprs, more_exprs, Atom, IntAtom, BoolAtom, CharAtom, PrimAtom, Fn, TypeFn, IndexFn, Boxed, Atoms, no_atoms, more_atoms, Def, Program}
use Rattle.core_syntax.specs.Lists.{each}
use Rattle.core_syntax.specs.Notes.{NodeNote, shape_word, no_note, cell_note, app_note, unbox_note, Behind, Joined, Empty, NotesAre, ExprsNotesAre, AtomNotesAre, AtomsNotesAre, DefsNotesAre, ProgramNotesAre}
use Rattle.core_syntax.specs.NormTypes.{norm_ty}
use Rattle.core_syntax.specs.Prims.{array_of}
use Rattle.core_syntax.specs.Subst.{kept, put_all, with_types, with_indices}
use Rattle.core_syntax.specs.TypeEqual.{Same, AllSame}
use Rattle.core_syntax.specs.Typing.{Context, under_types, under_sorts, under_terms, defs_only, body_context}
use Rattle.core_syntax.proofs.Alike.{Alike, are_same_refl, has_alike}
use Rattle.core_syntax.proofs.Equality.{same-put}
use Rattle.core_syntax.proofs.NormTyLemmas.{same_normal}
use Rattle.core_syntax.proofs.Unique.{unique}
use Rattle.type_check.proofs.trees.FramedLemmas.{note_again}
use Rattle.reduction_laws.proofs.programs.Alikes.{alike_types, alike_sorts, alike_terms}

-- ---- notes of equal types

shape_again : (t : Ty) → shape_word (norm_ty t) ≡ shape_word t
shape_again t = ap (λ (n : NodeNote). n.shape) (note_again t)

same_shape : (t u : Ty) → Same t u → shape_word t ≡ shape_word u
same_shape t u h = sym (shape_again t) ∙ ap shape_word (same_normal t u h) ∙ shape_again u

same_shapes : (ts us : Tys) → AllSame ts us → each shape_word (ty_items ts) ≡ each shape_word (ty_items us)
same_shapes no_tys no_tys h = refl
same_shapes (more_tys t ts) (more_tys u us) h = λ i. same_shape t u h.0 i ∷ same_shapes ts us h.1 i
same_shapes no_tys (more_tys u us) h = absurd h
same_shapes (more_tys t ts) no_tys h = absurd h

same_cell : (t u : Ty) → Same t u → cell_note t ≡ cell_note u
same_cell t u h = sym (note_again t) ∙ ap cell_note (same_normal t u h) ∙ note_again u

same_app : (ts us : Tys) (r s : Ty) → AllSame ts us → Same r s → app_note ts r ≡ app_note us s
same_app ts us r s h k = λ i. record { cells = same_shapes ts us h i; cell = Some (same_normal r s k i); shape = same_shape r s k i; sorts = [] }

-- ---- lists of notes

nothing : (ns ms : List NodeNote) → Empty ns → Empty ms → ns ≡ ms
nothing ns ms h j = h ∙ sym j

behind_one : {P Q : List NodeNote → Type 0} (n m : NodeNote) → n ≡ m → ((ns ms : List NodeNote) → P ns → Q ms → ns ≡ ms) → (ns ms : List NodeNote) → Behind n P ns → Behind m Q ms → ns ≡ ms
behind_one n m e k [] ms h j = absurd h
behind_one n m e k (x ∷ ns) [] h j = absurd j
behind_one n m e k (x ∷ ns) (y ∷ ms) h j = let first : x ≡ y = h.0 ∙ e ∙ sym j.0 in λ i. first i ∷ k ns ms h.1 j.1 i

joined_one : {P P' Q Q' : List NodeNote → Type 0} → ((ns ms : List NodeNote) → P ns → P' ms → ns ≡ ms) → ((ns ms : List NodeNote) → Q ns → Q' ms → ns ≡ ms) → (ns ms : List NodeNote) → Joined P Q ns → Joined P' Q' ms → ns ≡ ms
joined_one k l ns ms h j = let both : h.0 ++ h.1 ≡ j.0 ++ j.1 = λ i. k h.0 j.0 h.3 j.3 i ++ l h.1 j.1 h.4 j.4 i in h.2 ∙ both ∙ sym j.2

-- ---- expressions

mutual
  one_notes : (Γ Δ : Context) → Alike Γ Δ → (e : Expr) (ns ms : List NodeNote) → NotesAre Γ e ns → NotesAre Δ e ms → ns ≡ ms
  one_notes Γ Δ al (TermVar at k) ns ms h j = behind_one no_note no_note refl nothing ns ms h j
  one_notes Γ Δ al (DefVar at k) ns ms h j = behind_one no_note no_note refl nothing ns ms h j
  one_notes Γ Δ al (Array at dims xs) ns ms h j = behind_one no_note no_note refl (atoms_one_notes Γ Δ al xs) ns ms h j
  one_notes Γ Δ al (NoAtoms at dims t) ns ms h j = behind_one no_note no_note refl nothing ns ms h j
  one_notes Γ Δ al (Frame at dims no_exprs) ns ms h j = absurd h
  one_notes Γ Δ al (Frame at dims (more_exprs e es)) ns ms h j =
      let same : Same h.0 j.0 = unique Δ e h.0 j.0 (has_alike Γ Δ al e h.0 h.1) j.1 in
      behind_one (cell_note h.0) (cell_note j.0) (same_cell h.0 j.0 same) (joined_one (one_notes Γ Δ al e) (exprs_one_notes Γ Δ al es)) ns ms h.2 j.2
  one_notes Γ Δ al (NoCells at dims t) ns ms h j = behind_one no_note no_note refl nothing ns ms h j
  one_notes Γ Δ al (App at f es) ns ms h j =
      let same : Same (array_of (Fun no_span h.0 h.1) h.2) (array_of (Fun no_span j.0 j.1) j.2) = unique Δ f (array_of (Fun no_span h.0 h.1) h.2) (array_of (Fun no_span j.0 j.1) j.2) (has_alike Γ Δ al f (array_of (Fun no_span h.0 h.1) h.2) h.3) j.3 in
      behind_one (app_note h.0 h.1) (app_note j.0 j.1) (same_app h.0 j.0 h.1 j.1 same.0.0 same.0.1) (joined_one (one_notes Γ Δ al f) (exprs_one_notes Γ Δ al es)) ns ms h.4 j.4
  one_notes Γ Δ al (TypeApp at e us) ns ms h j =
      let same : Same (array_of (Forall no_span (length us) h.0) h.1) (array_of (Forall no_span (length us) j.0) j.1) = unique Δ e (array_of (Forall no_span (length us) h.0) h.1) (array_of (Forall no_span (length us) j.0) j.1) (has_alike Γ Δ al e (array_of (Forall no_span (length us) h.0) h.1) h.2) j.2 in
      behind_one (cell_note (with_types us h.0)) (cell_note (with_types us j.0)) (same_cell (with_types us h.0) (with_types us j.0) (same-put kept (put_all us) h.0 j.0 same.0.1)) (one_notes Γ Δ al e) ns ms h.3 j.3
  one_notes Γ Δ al (IndexApp at e is) ns ms h j =
      let same : Same (array_of (Pi no_span h.0 h.1) h.2) (array_of (Pi no_span j.0 j.1) j.2) = unique Δ e (array_of (Pi no_span h.0 h.1) h.2) (array_of (Pi no_span j.0 j.1) j.2) (has_alike Γ Δ al e (array_of (Pi no_span h.0 h.1) h.2) h.3) j.3 in
      behind_one (cell_note (with_indices is h.1)) (cell_note (with_indices is j.1)) (same_cell (with_indices is h.1) (with_indices is j.1) (same-put (put_all is) kept h.1 j.1 same.0.1)) (one_notes Γ Δ al e) ns ms h.4 j.4
  one_notes Γ Δ al (Unbox at n e u b) ns ms h j =
      let same : Same (array_of (Sigma no_span h.0 h.1) h.2) (array_of (Sigma no_span j.0 j.1) j.2) = unique Δ e (array_of (Sigma no_span h.0 h.1) h.2) (array_of (Sigma no_span j.0 j.1) j.2) (has_alike Γ Δ al e (array_of (Sigma no_span h.0 h.1) h.2) h.3) j.3 in
      let al' = alike_terms (h.1 ∷ []) (j.1 ∷ []) (under_sorts h.0 Γ) (under_sorts j.0 Δ) (same.0.1, tt) (alike_sorts h.0 j.0 Γ Δ same.0.0 al) in
      behind_one (unbox_note h.0 u) (unbox_note j.0 u) (ap (λ ss. unbox_note ss u) same.0.0)
      (joined_one (one_notes Γ Δ al e) (one_notes (under_terms (h.1 ∷ []) (under_sorts h.0 Γ)) (under_terms (j.1 ∷ []) (under_sorts j.0 Δ)) al' b)) ns ms h.4 j.4

  exprs_one_notes : (Γ Δ : Context) → Alike Γ Δ → (es : Exprs) (ns ms : List NodeNote) → ExprsNotesAre Γ es ns → ExprsNotesAre Δ es ms → ns ≡ ms
  exprs_one_notes Γ Δ al no_exprs ns ms h j = nothing ns ms h j
  exprs_one_notes Γ Δ al (more_exprs e es) ns ms h j = joined_one (one_notes Γ Δ al e) (exprs_one_notes Γ Δ al es) ns ms h j

  atom_one_notes : (Γ Δ : Context) → Alike Γ Δ → (a : Atom) (ns ms : List NodeNote) → AtomNotesAre Γ a ns → AtomNotesAre Δ a ms → ns ≡ ms
  atom_one_notes Γ Δ al (IntAtom at z) ns ms h j = nothing ns ms h j
  atom_one_notes Γ Δ al (BoolAtom at z) ns ms h j = nothing ns ms h j
  atom_one_notes Γ Δ al (CharAtom at z) ns ms h j = nothing ns ms h j
  atom_one_notes Γ Δ al (PrimAtom at p) ns ms h j = nothing ns ms h j
  atom_one_notes Γ Δ al (Fn at ts r e) ns ms h j =
      one_notes (under_terms (ty_items ts) Γ) (under_terms (ty_items ts) Δ) (alike_terms (ty_items ts) (ty_items ts) Γ Δ (are_same_refl (ty_items ts)) al) e ns ms h j
  atom_one_notes Γ Δ al (TypeFn at n e) ns ms h j = one_notes (under_types n Γ) (under_types n Δ) (alike_types n Γ Δ al) e ns ms h j
  atom_one_notes Γ Δ al (IndexFn at ss e) ns ms h j = one_notes (under_sorts ss Γ) (under_sorts ss Δ) (alike_sorts ss ss Γ Δ refl al) e ns ms h j
  atom_one_notes Γ Δ al (Boxed at is e t) ns ms h j = one_notes Γ Δ al e ns ms h j

  atoms_one_notes : (Γ Δ : Context) → Alike Γ Δ → (xs : Atoms) (ns ms : List NodeNote) → AtomsNotesAre Γ xs ns → AtomsNotesAre Δ xs ms → ns ≡ ms
  atoms_one_notes Γ Δ al no_atoms ns ms h j = nothing ns ms h j
  atoms_one_notes Γ Δ al (more_atoms a xs) ns ms h j = joined_one (atom_one_notes Γ Δ al a) (atoms_one_notes Γ Δ al xs) ns ms h j

-- ---- programs

same_context : (Γ : Context) → Alike Γ Γ
same_context Γ = record { types = refl; sorts = refl; defs = are_same_refl Γ.defs; terms = are_same_refl Γ.terms }

defs_one_notes : (earlier : List Ty) (ds : List Def) (ns ms : List NodeNote) → DefsNotesAre earlier ds ns → DefsNotesAre earlier ds ms → ns ≡ ms
defs_one_notes earlier [] ns ms h j = nothing ns ms h j
defs_one_notes earlier (d ∷ ds) ns ms h j =
    joined_one (one_notes (defs_only earlier) (defs_only earlier) (same_context (defs_only earlier)) d.value) (defs_one_notes (earlier ++ d.ty ∷ []) ds) ns ms h j

pub program_one_notes : (P : Program) (ns ms : List NodeNote) → ProgramNotesAre P ns → ProgramNotesAre P ms → ns ≡ ms
program_one_notes P ns ms h j = joined_one (defs_one_notes [] P.defs) (one_notes (body_context P) (body_context P) (same_context (body_context P)) P.body) ns ms h j
