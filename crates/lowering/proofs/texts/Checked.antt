-- The erasure of a well made program is writable, where its literals are those of a text and its notes are what a code may hold.
use Rattle.std.proofs.Common.{◌≡◌, refl, sym, ap, ◌∙◌, subst, ℕ, suc, ◌+◌, ◌≤◌, ◌<◌, ◌^◌, arith, true, List, [], ◌∷◌, length, inl, inr}
use Rattle.std.specs.Prelude.{pos, negsuc, nat_lt, nat_le, ℤ, IsTrue, Bool, false, ◌&&◌, cond}
use Rattle.std.specs.Char.{IsScalar}
use Rattle.std.proofs.lemmas.Bool.Decides.{nat_tests}
use Rattle.core_syntax.specs.declared.index.Sort.{Sort}
use Rattle.core_syntax.specs.Syntax.{Expr, TermVar, DefVar, Array, NoAtoms, Frame, NoCells, App, TypeApp, IndexApp, Unbox, Exprs, no_exprs, more_exprs, Atom, IntAtom, BoolAtom, CharAtom, PrimAtom, Fn, TypeFn, IndexFn, Boxed, Atoms, no_atoms, more_atoms, Def, Program, atom_items}
use Rattle.core_syntax.specs.Lists.{each, Each, onto}
use Rattle.core_syntax.specs.Delta.{is_int}
use Rattle.core_syntax.specs.Literals.{ExprLiterals, ExprsLiterals, AtomLiterals, AtomsLiterals, LiteralsFit}
use Rattle.core_syntax.specs.Made.{Scope, types_more, indices_more, terms_more, behind_defs, ExprMade, ExprsMade, AtomMade, AtomsMade, DefsMade, IsWellMade}
use Rattle.core_syntax.specs.Notes.{NodeNote}
use Rattle.core_syntax.specs.Annotate.{annotated, annotated_all, annotated_atom, annotated_atoms, annotated_defs, first_note, later_notes}
use Rattle.core_syntax.specs.Terms.{cell_items}
use Rattle.erasure.specs.Erasure.{er, er_terms, er_cell, er_cells, norm_in}
use Rattle.erasure.specs.Programs.{erased_program}
use Rattle.erasure.proofs.Counted.{keeps_nodes}
use Rattle.machine_table.specs.declared.code.Literal.TheVariants as literal
use Rattle.machine_table.specs.CodeBounds.{IsChar, IsLiteral}
use Rattle.lowering.proofs.texts.Writable.{IsWritable, AreWritable, IsCellWritable, AreCellsWritable, IsProgramWritable, IsNoted, AreNoted, IsCellNoted, AreCellsNoted, IsProgramNoted}
use Rattle.lowering.proofs.texts.Dims.{filled, empty}

-- ---- counts and literals

each_count : {A B : Type 0} (f : A → B) (xs : List A) → length (each f xs) ≡ length xs
each_count f [] = refl
each_count f (x ∷ xs) = ap suc (each_count f xs)

atoms_count : (ss : List Sort) (xs : Atoms) (ns : List NodeNote) → length (cell_items (er_cells ss (annotated_atoms xs ns).0)) ≡ length (atom_items xs)
atoms_count ss no_atoms ns = refl
atoms_count ss (more_atoms a xs) ns = ap suc (atoms_count ss xs (annotated_atom a ns).1)

int_literal : (z : ℤ) → IsTrue (is_int z) → IsLiteral (literal.Int z)
int_literal (pos n) h = grind (arith, nat_tests, h)
int_literal (negsuc n) h = grind (arith, nat_tests, h)

char_literal : (c : ℕ) → IsScalar c → IsChar c
char_literal c h = low (nat_lt c 55296) refl h
  where
    high : (a b : Bool) → nat_le 57344 c ≡ a → nat_lt c 1114112 ≡ b → (a && b) ≡ true → IsChar c
    high true true d e t = inr (grind (arith, nat_tests), grind (arith, nat_tests))
    high true false d e t = absurd (cc)
    high false b d e t = absurd (cc)

    low : (a : Bool) → nat_lt c 55296 ≡ a → cond a true (nat_le 57344 c && nat_lt c 1114112) ≡ true → IsChar c
    low true e t = inl (grind (arith, nat_tests))
    low false e t = high (nat_le 57344 c) (nat_lt c 1114112) refl refl t

module _ (D : ℕ) where
  mutual
    expr_writable : (ss : List Sort) (Γ : Scope) (e : Expr) (ns : List NodeNote) → Γ.defs ≤ D → Γ.terms < 2 ^ 31 → ExprMade Γ e → ExprLiterals e
        → IsNoted (er ss (annotated e ns).0) → IsWritable D (er ss (annotated e ns).0)
    expr_writable ss Γ (TermVar at k) ns le small m l h = omega (arith, m, small)
    expr_writable ss Γ (DefVar at k) ns le small m l h = omega (arith, m, le)
    expr_writable ss Γ (Array at dims xs) ns le small m l h =
        let f = filled dims (length (atom_items xs)) m.0 in
        (f.0, atoms_count ss xs (later_notes ns) ∙ f.1, atoms_writable ss Γ xs (later_notes ns) le small m.1 l.1 h)
    expr_writable ss Γ (NoAtoms at dims t) ns le small m l h = empty dims m.0 l
    expr_writable ss Γ (Frame at dims es) ns le small m l h = ((filled dims _ m.0).0, exprs_writable ss Γ es (later_notes ns) le small m.1 l h)
    expr_writable ss Γ (NoCells at dims t) ns le small m l h = h
    expr_writable ss Γ (App at f es) ns le small m l h =
        (expr_writable ss Γ f (later_notes ns) le small m.0 l.0 h.0, exprs_writable ss Γ es (annotated f (later_notes ns)).1 le small m.2 l.1 h.1, h.2, h.3)
    expr_writable ss Γ (TypeApp at e us) ns le small m l h = (expr_writable ss Γ e (later_notes ns) le small m.0 l h.0, h.1)
    expr_writable ss Γ (IndexApp at e is) ns le small m l h =
        (expr_writable ss Γ e (later_notes ns) le small m.0 l h.0, (subst (λ n. 0 < n) (sym (each_count (norm_in ss) is)) m.1, h.1), h.2)
    expr_writable ss Γ (Unbox at n e t b) ns le small m l h = (
      expr_writable ss Γ e (later_notes ns) le small m.1 l.0 h.0,
      expr_writable (onto (first_note ns).sorts ss) (terms_more 1 (indices_more n Γ)) b (annotated e (later_notes ns)).1 le m.3.2 m.4 l.1 h.1,
      h.2,
      h.3,
    )

    exprs_writable : (ss : List Sort) (Γ : Scope) (es : Exprs) (ns : List NodeNote) → Γ.defs ≤ D → Γ.terms < 2 ^ 31 → ExprsMade Γ es → ExprsLiterals es
        → AreNoted (er_terms ss (annotated_all es ns).0) → AreWritable D (er_terms ss (annotated_all es ns).0)
    exprs_writable ss Γ no_exprs ns le small m l h = tt
    exprs_writable ss Γ (more_exprs e es) ns le small m l h = (expr_writable ss Γ e ns le small m.0 l.0 h.0, exprs_writable ss Γ es (annotated e ns).1 le small m.1 l.1 h.1)

    atom_writable : (ss : List Sort) (Γ : Scope) (a : Atom) (ns : List NodeNote) → Γ.defs ≤ D → Γ.terms < 2 ^ 31 → AtomMade Γ a → AtomLiterals a
        → IsCellNoted (er_cell ss (annotated_atom a ns).0) → IsCellWritable D (er_cell ss (annotated_atom a ns).0)
    atom_writable ss Γ (IntAtom at z) ns le small m l h = int_literal z l
    atom_writable ss Γ (BoolAtom at b) ns le small m l h = tt
    atom_writable ss Γ (CharAtom at c) ns le small m l h = char_literal c l
    atom_writable ss Γ (PrimAtom at p) ns le small m l h = tt
    atom_writable ss Γ (Fn at ts r e) ns le small m l h = ((m.0, let s = m.3.2 in omega (arith, s)), expr_writable ss (terms_more _ Γ) e ns le m.3.2 m.4 l h)
    atom_writable ss Γ (TypeFn at n e) ns le small m l h = expr_writable ss (types_more n Γ) e ns le small m.2 l h
    atom_writable ss Γ (IndexFn at qs e) ns le small m l h = ((m.0, let s = m.1.1 in omega (arith, s)), expr_writable (onto qs ss) (indices_more (length qs) Γ) e ns le small m.2 l h)
    atom_writable ss Γ (Boxed at is e t) ns le small m l h = ((subst (λ n. 0 < n) (sym (each_count (norm_in ss) is)) m.0, h.0), expr_writable ss Γ e ns le small m.2 l h.1)

    atoms_writable : (ss : List Sort) (Γ : Scope) (xs : Atoms) (ns : List NodeNote) → Γ.defs ≤ D → Γ.terms < 2 ^ 31 → AtomsMade Γ xs → AtomsLiterals xs
        → AreCellsNoted (er_cells ss (annotated_atoms xs ns).0) → AreCellsWritable D (er_cells ss (annotated_atoms xs ns).0)
    atoms_writable ss Γ no_atoms ns le small m l h = tt
    atoms_writable ss Γ (more_atoms a xs) ns le small m l h = (atom_writable ss Γ a ns le small m.0 l.0 h.0, atoms_writable ss Γ xs (annotated_atom a ns).1 le small m.1 l.1 h.1)

  -- definitions, of which so many stand before these
  defs_writable : (n : ℕ) (ds : List Def) (ns : List NodeNote) → n + length ds ≤ D → DefsMade n ds → Each (λ d. ExprLiterals d.value) ds
      → Each IsNoted (each (er []) (annotated_defs ds ns).0) → Each (IsWritable D) (each (er []) (annotated_defs ds ns).0)
  defs_writable n [] ns le m l h = tt
  defs_writable n (d ∷ ds) ns le m l h =
      (expr_writable [] (behind_defs n) d.value ns (omega (arith, le)) (omega arith) m.1 l.0 h.0, defs_writable (suc n) ds (annotated d.value ns).1 (omega (arith, le)) m.2 l.1 h.1)

defs_count : (ds : List Def) (ns : List NodeNote) → length (each (er []) (annotated_defs ds ns).0) ≡ length ds
defs_count [] ns = refl
defs_count (d ∷ ds) ns = ap suc (defs_count ds (annotated d.value ns).1)

-- a well made program whose notes are what a code may hold
pub program_writable : (P : Program) (notes : List NodeNote) → IsWellMade P → LiteralsFit P → IsProgramNoted (erased_program P notes) → IsProgramWritable (erased_program P notes)
program_writable P notes made literals noted =
    let D = length (erased_program P notes).defs in
    let count : D ≡ length P.defs = defs_count P.defs notes in
    let inputs = made.inputs_few in
    let scope : Scope = terms_more (length P.inputs) (behind_defs (length P.defs)) in
    let kept = keeps_nodes P notes in
    let few = made.nodes_few in
    record {
      defs = defs_writable D 0 P.defs notes (omega (arith, count)) made.defs literals.0 noted.0;
      body = expr_writable D [] scope P.body (annotated_defs P.defs notes).1 (omega (arith, count)) (omega (arith, inputs)) made.body literals.1 noted.1;
      small = subst (λ n. n < 2 ^ 30) (sym kept) few;
    }
