-- A program's start is held: its literals and dims, and data that fits.
use Rattle.std.proofs.Common.{◌≡◌, sym, subst, ℕ, suc, ◌≤◌, ◌^◌, arith, List, [], ◌∷◌, length, Some, true}
use Rattle.core_syntax.specs.declared.ty.Base.TheVariants as base
use Rattle.core_syntax.specs.Syntax.{Index, Ty, BaseTy, Sigma, Arr, Expr, TermVar, DefVar, Array, NoAtoms, Frame, NoCells, App, TypeApp, IndexApp, Unbox, Exprs, no_exprs, more_exprs, Atom, IntAtom, BoolAtom, CharAtom, PrimAtom, Fn, TypeFn, IndexFn, Boxed, Atoms, no_atoms, more_atoms, Def, atom_items}
use Rattle.core_syntax.specs.Lists.{each, Each}
use Rattle.core_syntax.specs.Fits.{all_below}
use Rattle.core_syntax.specs.Made.{Scope, DimsOf, DimsOfNone, ExprMade, ExprsMade, AtomMade, AtomsMade, DefsMade, behind_defs}
use Rattle.core_syntax.specs.Nodes.{vector}
use Rattle.core_syntax.specs.Subst.{put_all, with_indices}
use Rattle.core_syntax.specs.Norm.{word_tree}
use Rattle.core_syntax.specs.Notes.{NodeNote}
use Rattle.core_syntax.specs.Terms.{Terms, no_terms, more_terms}
use Rattle.core_syntax.specs.TermPut.{term_put}
use Rattle.core_syntax.specs.Typed.{typed, typed_rules, TypedTerm, value_index}
use Rattle.core_syntax.specs.Annotate.{first_note, later_notes, annotated, annotated_all, annotated_atom, annotated_atoms, annotated_defs}
use Rattle.core_syntax.specs.Data.{Data, DataArray, DataAtom, DataInt, DataBool, DataChar, DataBox, DataAtoms, no_data, more_data, FitsType, AtomFits, AtomsFit, FitsValues, data_term, data_cell, data_cells, data_terms}
use Rattle.core_syntax.specs.Literals.{ExprLiterals, ExprsLiterals, AtomLiterals, AtomsLiterals}
use Rattle.core_syntax.specs.Held.{HasForm, TermsHeld, ArgumentsHeld, CellHeld, CellsHeld, IsHeld}
use Rattle.reduction_laws.proofs.held.Puts.{held_anywhere, held_put, all_held}
use Rattle.reduction_laws.proofs.held.Forms.{has_form}

-- ---- data

mutual
  pub data_held : (T : Ty) (d : Data) → FitsType T d → IsHeld (data_term T d)
  data_held (Arr at t i) (DataArray dims no_data) h = h.1
  data_held (Arr at t i) (DataArray dims (more_data a xs)) h = (h.1, (atom_held t a h.3.0, atoms_held t xs h.3.1))
  data_held _ (DataArray dims xs) h = absurd h

  atom_held : (t : Ty) (a : DataAtom) → AtomFits t a → CellHeld (data_cell t a)
  atom_held (BaseTy at base.Int) (DataInt z) h = h
  atom_held (BaseTy at base.Bool) (DataBool b) h = tt
  atom_held (BaseTy at base.Char) (DataChar c) h = h
  atom_held (Sigma at ss t) (DataBox vs d) h = data_held (with_indices (each value_index vs) t) d h.2
  atom_held _ _ h = absurd h

  atoms_held : (t : Ty) (xs : DataAtoms) → AtomsFit t xs → CellsHeld (data_cells t xs)
  atoms_held t no_data h = tt
  atoms_held t (more_data a xs) h = (atom_held t a h.0, atoms_held t xs h.1)

pub values_held : (ts : List Ty) (ds : List Data) → FitsValues ts ds → Each IsHeld (data_terms ts ds)
values_held [] [] h = tt
values_held (t ∷ ts) (d ∷ ds) h = (data_held t d h.0, values_held ts ds h.1)
values_held [] (d ∷ ds) h = absurd h
values_held (t ∷ ts) [] h = absurd h

-- ---- expressions

dims_form : (dims : List ℕ) (n : ℕ) → all_below (2 ^ 32) dims ≡ true → DimsOf dims n → HasForm dims
dims_form dims n b h = has_form dims (record { below = b; rank = h.0; count = subst (λ k. k ≤ 2 ^ 24) (sym h.3) h.2 })

none_form : (dims : List ℕ) → all_below (2 ^ 32) dims ≡ true → DimsOfNone dims → HasForm dims
none_form dims b h = has_form dims (record { below = b; rank = h.0; count = subst (λ k. k ≤ 2 ^ 24) (sym h.1) (omega arith) })

arguments_held : (cs : List Index) (ts : Terms typed) → TermsHeld ts → ArgumentsHeld cs ts
arguments_held cs no_terms h = tt
arguments_held [] (more_terms t ts) h = (h.0, arguments_held [] ts h.1)
arguments_held (c ∷ cs) (more_terms t ts) h = (held_anywhere (Some c) t h.0, arguments_held cs ts h.1)

mutual
  pub annotated_held : (Γ : Scope) (e : Expr) (ns : List NodeNote) → ExprMade Γ e → ExprLiterals e → IsHeld (annotated e ns).0
  annotated_held Γ (TermVar at k) ns m h = tt
  annotated_held Γ (DefVar at k) ns m h = tt
  annotated_held Γ (Array at dims xs) ns m h = (dims_form dims (length (atom_items xs)) h.0 m.0, annotated_atoms_held Γ xs _ m.1 h.1)
  annotated_held Γ (NoAtoms at dims t) ns m h = none_form dims h m.0
  annotated_held Γ (Frame at dims es) ns m h = annotated_all_held Γ es _ m.1 h
  annotated_held Γ (NoCells at dims t) ns m h = tt
  annotated_held Γ (App at f es) ns m h =
      let r = annotated f (later_notes ns) in (
        held_anywhere (Some (vector [])) r.0 (annotated_held Γ f (later_notes ns) m.0 h.0),
        arguments_held (each word_tree (first_note ns).cells) (annotated_all es r.1).0 (annotated_all_held Γ es r.1 m.2 h.1),
      )
  annotated_held Γ (TypeApp at e us) ns m h = annotated_held Γ e _ m.0 h
  annotated_held Γ (IndexApp at e is) ns m h = annotated_held Γ e _ m.0 h
  annotated_held Γ (Unbox at n e t b) ns m h = (annotated_held Γ e _ m.1 h.0, annotated_held _ b _ m.4 h.1)

  annotated_all_held : (Γ : Scope) (es : Exprs) (ns : List NodeNote) → ExprsMade Γ es → ExprsLiterals es → TermsHeld (annotated_all es ns).0
  annotated_all_held Γ no_exprs ns m h = tt
  annotated_all_held Γ (more_exprs e es) ns m h = (annotated_held Γ e ns m.0 h.0, annotated_all_held Γ es _ m.1 h.1)

  annotated_atom_held : (Γ : Scope) (a : Atom) (ns : List NodeNote) → AtomMade Γ a → AtomLiterals a → CellHeld (annotated_atom a ns).0
  annotated_atom_held Γ (IntAtom at z) ns m h = h
  annotated_atom_held Γ (BoolAtom at b) ns m h = tt
  annotated_atom_held Γ (CharAtom at c) ns m h = h
  annotated_atom_held Γ (PrimAtom at p) ns m h = tt
  annotated_atom_held Γ (Fn at ts r e) ns m h = annotated_held _ e ns m.4 h
  annotated_atom_held Γ (TypeFn at n e) ns m h = annotated_held _ e ns m.2 h
  annotated_atom_held Γ (IndexFn at ss e) ns m h = annotated_held _ e ns m.2 h
  annotated_atom_held Γ (Boxed at is e t) ns m h = annotated_held Γ e ns m.2 h

  annotated_atoms_held : (Γ : Scope) (xs : Atoms) (ns : List NodeNote) → AtomsMade Γ xs → AtomsLiterals xs → CellsHeld (annotated_atoms xs ns).0
  annotated_atoms_held Γ no_atoms ns m h = tt
  annotated_atoms_held Γ (more_atoms a xs) ns m h = (annotated_atom_held Γ a ns m.0 h.0, annotated_atoms_held Γ xs _ m.1 h.1)

-- ---- programs

pub definitions_held : (n : ℕ) (ds : List Def) (ns : List NodeNote) → DefsMade n ds → Each (λ d. ExprLiterals d.value) ds → Each IsHeld (annotated_defs ds ns).0
definitions_held n [] ns m h = tt
definitions_held n (d ∷ ds) ns m h = (annotated_held (behind_defs n) d.value ns m.1 h.0, definitions_held (suc n) ds _ m.2 h.1)

-- a body with fitting data in the place of its inputs
pub start_held : (ts : List Ty) (ds : List Data) (e : TypedTerm) → FitsValues ts ds → IsHeld e → IsHeld (term_put typed_rules typed_rules.put_none (put_all (data_terms ts ds)) e)
start_held ts ds e h k = held_put _ typed_rules.put_none (put_all (data_terms ts ds)) (all_held (data_terms ts ds) (values_held ts ds h)) e k
