-- The erased terms of a program's definitions and body: their primitives are bare, their literals' dims are those of arrays, and their notes are in scope.
use Rattle.std.proofs.Common.{◌≡◌, sym, subst, ℕ, suc, ◌≤◌, ◌^◌, arith, true, false, List, [], ◌∷◌, length, Option, Some, None}
use Rattle.std.specs.Prelude.{⊤}
use Rattle.core_syntax.specs.declared.index.Sort.{Sort}
use Rattle.core_syntax.specs.declared.norm.NormIndex.{NormIndex}
use Rattle.core_syntax.specs.Syntax.{Expr, TermVar, DefVar, Array, NoAtoms, Frame, NoCells, App, TypeApp, IndexApp, Unbox, Exprs, no_exprs, more_exprs, Atom, IntAtom, BoolAtom, CharAtom, PrimAtom, Fn, TypeFn, IndexFn, Boxed, Atoms, no_atoms, more_atoms, Def, atom_items}
use Rattle.core_syntax.specs.Lists.{onto, each, Each}
use Rattle.core_syntax.specs.Fits.{all_below, forms}
use Rattle.core_syntax.specs.Made as made
use Rattle.core_syntax.specs.Made.{DimsOf, DimsOfNone, ExprMade, ExprsMade, AtomMade, AtomsMade, DefsMade, behind_defs}
use Rattle.core_syntax.specs.Notes.{NodeNote}
use Rattle.core_syntax.specs.Terms.{TVar, TDef, TArray, TNoAtoms, TFrame, TNoCells, TApp, TTypeApp, TIndexApp, TUnbox, Terms, no_terms, more_terms, Cell, TInt, TBool, TChar, TPrim, TFn, TTypeFn, TIndexFn, TBoxed, Cells, no_cells, more_cells}
use Rattle.core_syntax.specs.Annotate.{first_note, later_notes, annotated, annotated_all, annotated_atom, annotated_atoms, annotated_defs}
use Rattle.core_syntax.specs.Literals.{ExprLiterals, ExprsLiterals, AtomLiterals, AtomsLiterals}
use Rattle.reduction_laws.proofs.held.Forms.{has_form}
use Rattle.erasure.specs.Erased.{erased, ErasedTerm}
use Rattle.erasure.specs.Erasure.{er, er_terms, er_cell, er_cells}
use Rattle.evaluation.specs.Scoped.{Scope, bound, PrimScoped, Scoped, TermsScoped, CellScoped, CellsScoped}

-- no notes at a primitive
abbrev IsBare : Option (Unit {0}) → Option (List NormIndex) → Type 0
IsBare None None = ⊤
IsBare _ _ = ⊥

-- primitives are bare, and an array may have the dims of each literal
abbrev mutual
  pub Plain : ErasedTerm → Type 0
  Plain (TVar k) = ⊤
  Plain (TDef k) = ⊤
  Plain (TArray dims xs) = (forms dims ≡ true) × PlainCells xs
  Plain (TNoAtoms dims a) = forms dims ≡ true
  Plain (TFrame dims ts a) = PlainTerms ts
  Plain (TNoCells w) = ⊤
  Plain (TApp f ts cs r) = Plain f × PlainTerms ts
  Plain (TTypeApp t us r) = Plain t
  Plain (TIndexApp t is r) = Plain t
  Plain (TUnbox n t b r) = Plain t × Plain b

  PlainTerms : Terms erased → Type 0
  PlainTerms no_terms = ⊤
  PlainTerms (more_terms t ts) = Plain t × PlainTerms ts

  PlainCell : Cell erased → Type 0
  PlainCell (TInt z) = ⊤
  PlainCell (TBool b) = ⊤
  PlainCell (TChar c) = ⊤
  PlainCell (TPrim p us is) = IsBare us is
  PlainCell (TFn n t) = Plain t
  PlainCell (TTypeFn n t) = Plain t
  PlainCell (TIndexFn n t) = Plain t
  PlainCell (TBoxed is t b) = Plain t

  PlainCells : Cells erased → Type 0
  PlainCells no_cells = ⊤
  PlainCells (more_cells a xs) = PlainCell a × PlainCells xs

bare_scoped : (S : Scope) (us : Option (Unit {0})) (is : Option (List NormIndex)) → IsBare us is → PrimScoped false S us is
bare_scoped S None None h = tt
bare_scoped S None (Some is) h = h
bare_scoped S (Some u) None h = h
bare_scoped S (Some u) (Some is) h = h

mutual
  -- with that, what is in scope on a run is in scope in a program
  pub plain_scoped : (S : Scope) (t : ErasedTerm) → Plain t → Scoped true S t → Scoped false S t
  plain_scoped S (TVar k) h s = tt
  plain_scoped S (TDef k) h s = tt
  plain_scoped S (TArray dims xs) h s = (h.0, plain_cells S xs h.1 s.1)
  plain_scoped S (TNoAtoms dims a) h s = h
  plain_scoped S (TFrame dims ts a) h s = plain_terms S ts h s
  plain_scoped S (TNoCells w) h s = s
  plain_scoped S (TApp f ts cs r) h s = (plain_scoped S f h.0 s.0, plain_terms S ts h.1 s.1, s.2, s.3)
  plain_scoped S (TTypeApp t us r) h s = (plain_scoped S t h s.0, s.1)
  plain_scoped S (TIndexApp t is r) h s = (plain_scoped S t h s.0, s.1, s.2)
  plain_scoped S (TUnbox n t b r) h s = (plain_scoped S t h.0 s.0, plain_scoped (bound n S) b h.1 s.1, s.2)

  plain_terms : (S : Scope) (ts : Terms erased) → PlainTerms ts → TermsScoped true S ts → TermsScoped false S ts
  plain_terms S no_terms h s = tt
  plain_terms S (more_terms t ts) h s = (plain_scoped S t h.0 s.0, plain_terms S ts h.1 s.1)

  plain_cell : (S : Scope) (a : Cell erased) → PlainCell a → CellScoped true S a → CellScoped false S a
  plain_cell S (TInt z) h s = tt
  plain_cell S (TBool b) h s = tt
  plain_cell S (TChar c) h s = tt
  plain_cell S (TPrim p us is) h s = bare_scoped S us is h
  plain_cell S (TFn n t) h s = plain_scoped S t h s
  plain_cell S (TTypeFn n t) h s = plain_scoped S t h s
  plain_cell S (TIndexFn n t) h s = plain_scoped (bound n S) t h s
  plain_cell S (TBoxed is t b) h s = (s.0, plain_scoped S t h s.1)

  plain_cells : (S : Scope) (xs : Cells erased) → PlainCells xs → CellsScoped true S xs → CellsScoped false S xs
  plain_cells S no_cells h s = tt
  plain_cells S (more_cells a xs) h s = (plain_cell S a h.0 s.0, plain_cells S xs h.1 s.1)

-- ---- programs

dims_form : (dims : List ℕ) (n : ℕ) → all_below (2 ^ 32) dims ≡ true → DimsOf dims n → forms dims ≡ true
dims_form dims n b h = has_form dims (record { below = b; rank = h.0; count = subst (λ k. k ≤ 2 ^ 24) (sym h.3) h.2 })

none_form : (dims : List ℕ) → all_below (2 ^ 32) dims ≡ true → DimsOfNone dims → forms dims ≡ true
none_form dims b h = has_form dims (record { below = b; rank = h.0; count = subst (λ k. k ≤ 2 ^ 24) (sym h.1) (omega arith) })

mutual
  pub expr_plain : (ss : List Sort) (Γ : made.Scope) (e : Expr) (ns : List NodeNote) → ExprMade Γ e → ExprLiterals e → Plain (er ss (annotated e ns).0)
  expr_plain ss Γ (TermVar at k) ns m h = tt
  expr_plain ss Γ (DefVar at k) ns m h = tt
  expr_plain ss Γ (Array at dims xs) ns m h = (dims_form dims (length (atom_items xs)) h.0 m.0, atoms_plain ss Γ xs (later_notes ns) m.1 h.1)
  expr_plain ss Γ (NoAtoms at dims t) ns m h = none_form dims h m.0
  expr_plain ss Γ (Frame at dims es) ns m h = exprs_plain ss Γ es (later_notes ns) m.1 h
  expr_plain ss Γ (NoCells at dims t) ns m h = tt
  expr_plain ss Γ (App at f es) ns m h = let r = annotated f (later_notes ns) in (expr_plain ss Γ f (later_notes ns) m.0 h.0, exprs_plain ss Γ es r.1 m.2 h.1)
  expr_plain ss Γ (TypeApp at e us) ns m h = expr_plain ss Γ e (later_notes ns) m.0 h
  expr_plain ss Γ (IndexApp at e is) ns m h = expr_plain ss Γ e (later_notes ns) m.0 h
  expr_plain ss Γ (Unbox at n e t b) ns m h = let r = annotated e (later_notes ns) in (expr_plain ss Γ e (later_notes ns) m.1 h.0, expr_plain (onto (first_note ns).sorts ss) _ b r.1 m.4 h.1)

  exprs_plain : (ss : List Sort) (Γ : made.Scope) (es : Exprs) (ns : List NodeNote) → ExprsMade Γ es → ExprsLiterals es → PlainTerms (er_terms ss (annotated_all es ns).0)
  exprs_plain ss Γ no_exprs ns m h = tt
  exprs_plain ss Γ (more_exprs e es) ns m h = let r = annotated e ns in (expr_plain ss Γ e ns m.0 h.0, exprs_plain ss Γ es r.1 m.1 h.1)

  atom_plain : (ss : List Sort) (Γ : made.Scope) (a : Atom) (ns : List NodeNote) → AtomMade Γ a → AtomLiterals a → PlainCell (er_cell ss (annotated_atom a ns).0)
  atom_plain ss Γ (IntAtom at z) ns m h = tt
  atom_plain ss Γ (BoolAtom at b) ns m h = tt
  atom_plain ss Γ (CharAtom at c) ns m h = tt
  atom_plain ss Γ (PrimAtom at p) ns m h = tt
  atom_plain ss Γ (Fn at ts r e) ns m h = expr_plain ss _ e ns m.4 h
  atom_plain ss Γ (TypeFn at n e) ns m h = expr_plain ss _ e ns m.2 h
  atom_plain ss Γ (IndexFn at qs e) ns m h = expr_plain (onto qs ss) _ e ns m.2 h
  atom_plain ss Γ (Boxed at is e t) ns m h = expr_plain ss Γ e ns m.2 h

  atoms_plain : (ss : List Sort) (Γ : made.Scope) (xs : Atoms) (ns : List NodeNote) → AtomsMade Γ xs → AtomsLiterals xs → PlainCells (er_cells ss (annotated_atoms xs ns).0)
  atoms_plain ss Γ no_atoms ns m h = tt
  atoms_plain ss Γ (more_atoms a xs) ns m h = let r = annotated_atom a ns in (atom_plain ss Γ a ns m.0 h.0, atoms_plain ss Γ xs r.1 m.1 h.1)

pub defs_plain : (n : ℕ) (ds : List Def) (ns : List NodeNote) → DefsMade n ds → Each (λ d. ExprLiterals d.value) ds → Each Plain (each (er []) (annotated_defs ds ns).0)
defs_plain n [] ns m h = tt
defs_plain n (d ∷ ds) ns m h = let r = annotated d.value ns in (expr_plain [] (behind_defs n) d.value ns m.1 h.0, defs_plain (suc n) ds r.1 m.2 h.1)
