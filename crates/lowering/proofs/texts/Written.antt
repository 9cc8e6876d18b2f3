-- The code of a term that is writable has a text, and so have the blocks of its forms.
use Rattle.std.proofs.Common.{◌≡◌, refl, ap, ◌∙◌, ℕ, suc, ◌+◌, ◌≤◌, ◌<◌, ◌^◌, arith, Bool, true, false, List, [], ◌∷◌, length}
use Rattle.std.proofs.lemmas.List.Elements.{All-nil}
use Rattle.core_syntax.specs.Lists.{each, Each}
use Rattle.core_syntax.specs.Terms.{TVar, TDef, TArray, TNoAtoms, TFrame, TNoCells, TApp, TTypeApp, TIndexApp, TUnbox, Terms, no_terms, more_terms, Cell, TInt, TBool, TChar, TPrim, TFn, TTypeFn, TIndexFn, TBoxed, Cells, no_cells, more_cells, cell_items}
use Rattle.array_values.specs.Forms.{Forms, cells}
use Rattle.machine_table.specs.declared.code.Literal.{Literal}
use Rattle.machine_table.specs.declared.code.Literal.TheVariants as literal
use Rattle.machine_table.specs.declared.code.Instr.{Instr}
use Rattle.machine_table.specs.declared.code.Instr.TheVariants.{Const, Box, Room, Frame, App, TypeApp, IndexApp, Unbox}
use Rattle.machine_table.specs.Indices.{code_index}
use Rattle.machine_table.specs.CodeBounds.{IsLiteral, IsConst, IsFilled, IsInstr}
use Rattle.erasure.specs.Erased.{erased, ErasedTerm}
use Rattle.lowering.specs.Lower.{Body, opens, terms_open, cell_opens, cells_open, all_base, literals, bodies_in, terms_bodies, cell_bodies, cells_bodies}
use Rattle.erasure.specs.TermNodes.{term_nodes, terms_nodes, cell_nodes, cells_nodes}
use Rattle.lowering.proofs.texts.Writable.{IsWritable, AreWritable, IsCellWritable, AreCellsWritable}
use Rattle.lowering.proofs.machine.Continued.{array_then, code_then, terms_then, cell_then, cells_then}
use Rattle.lowering.proofs.texts.CodeIndices.{all_of, are_indices}
use Rattle.lowering.proofs.counts.ProgramBound.{each_join}

-- ---- base literals

literals_count : (xs : Cells erased) → all_base xs ≡ true → length (literals xs) ≡ length (cell_items xs)
literals_count no_cells e = refl
literals_count (more_cells (TInt z) xs) e = ap suc (literals_count xs e)
literals_count (more_cells (TBool b) xs) e = ap suc (literals_count xs e)
literals_count (more_cells (TChar c) xs) e = ap suc (literals_count xs e)
literals_count (more_cells (TPrim p us is) xs) e = absurd (cc)
literals_count (more_cells (TFn n t) xs) e = absurd (cc)
literals_count (more_cells (TTypeFn n t) xs) e = absurd (cc)
literals_count (more_cells (TIndexFn n t) xs) e = absurd (cc)
literals_count (more_cells (TBoxed is t b) xs) e = absurd (cc)

each_literal : (D : ℕ) (xs : Cells erased) → AreCellsWritable D xs → Each IsLiteral (literals xs)
each_literal D no_cells h = tt
each_literal D (more_cells (TInt z) xs) h = (h.0, each_literal D xs h.1)
each_literal D (more_cells (TBool b) xs) h = (tt, each_literal D xs h.1)
each_literal D (more_cells (TChar c) xs) h = (h.0, each_literal D xs h.1)
each_literal D (more_cells (TPrim p us is) xs) h = each_literal D xs h.1
each_literal D (more_cells (TFn n t) xs) h = each_literal D xs h.1
each_literal D (more_cells (TTypeFn n t) xs) h = each_literal D xs h.1
each_literal D (more_cells (TIndexFn n t) xs) h = each_literal D xs h.1
each_literal D (more_cells (TBoxed is t b) xs) h = each_literal D xs h.1

is_const : (D : ℕ) (dims : List ℕ) (xs : Cells erased) → all_base xs ≡ true → IsFilled dims → length (cell_items xs) ≡ cells dims → AreCellsWritable D xs → IsConst dims (literals xs)
is_const D dims xs e filled count h = record { forms = filled.forms; count = literals_count xs e ∙ count; each = all_of IsLiteral (literals xs) (each_literal D xs h) }

-- a scalar
no_dims : Forms []
no_dims = record { rank = omega arith; each = All-nil (λ d. d < 2 ^ 32); few = omega arith }

is_scalar : (l : Literal) → IsLiteral l → IsConst [] (l ∷ [])
is_scalar l h = record { forms = no_dims; count = refl; each = all_of IsLiteral (l ∷ []) (h, tt) }

-- so many definitions and blocks
module _ (D n : ℕ) (room : D < n) where
  -- ---- instructions

  array_written : (dims : List ℕ) (xs : Cells erased) (rest : List Instr) → IsFilled dims → Each (IsInstr n) rest → Each (IsInstr n) (array_then dims xs rest)
  array_written [] (more_cells a no_cells) rest filled h = h
  array_written [] no_cells rest filled h = (filled, h)
  array_written [] (more_cells a (more_cells b xs)) rest filled h = (filled, h)
  array_written (m ∷ dims) xs rest filled h = (filled, h)

  mutual
    pub written : (k : ℕ) (t : ErasedTerm) (rest : List Instr) → IsWritable D t → k + opens t ≤ n → Each (IsInstr n) rest → Each (IsInstr n) (code_then k t rest)
    written k (TVar j) rest w le h = (w, h)
    written k (TDef j) rest w le h = (omega (arith, w, room), h)
    written k (TArray dims xs) rest w le h = by (all_base xs) refl (cells_written k xs (array_then dims xs rest) w.2 le (array_written dims xs rest w.0 h))
      where
        by : (b : Bool) → all_base xs ≡ b → Each (IsInstr n) (cells_then k xs (array_then dims xs rest))
            → Each (IsInstr n) (elim b as (λ b. List Instr) [ true ↦ Const dims (literals xs) ∷ rest | false ↦ cells_then k xs (array_then dims xs rest) ])
        by true e i = (is_const D dims xs e w.0 w.1 w.2, h)
        by false e i = i
    written k (TNoAtoms dims a) rest w le h = (record { forms = w.0; count = w.1; each = All-nil IsLiteral }, h)
    written k (TFrame dims no_terms a) rest w le h = (w.0, h)
    written k (TFrame dims (more_terms t ts) a) rest w le h =
        written k t (Room dims ∷ terms_then (k + opens t) ts (Frame dims ∷ rest)) w.1.0 (omega arith)
        (w.0, terms_written (k + opens t) ts (Frame dims ∷ rest) w.1.1 (omega arith) (w.0, h))
    written k (TNoCells s) rest w le h = (w, h)
    written k (TApp f ts cs r) rest w le h =
        written k f (terms_then (k + opens f) ts (App cs r ∷ rest)) w.0 (omega arith) (terms_written (k + opens f) ts (App cs r ∷ rest) w.1 (omega arith) ((w.2, w.3), h))
    written k (TTypeApp t us r) rest w le h = written k t (TypeApp r ∷ rest) w.0 le (w.1, h)
    written k (TIndexApp t is r) rest w le h = written k t (IndexApp (each code_index is) r ∷ rest) w.0 le ((are_indices is w.1, w.2), h)
    written k (TUnbox m t b r) rest w le h = written (suc k) t (Unbox k m r ∷ rest) w.0 (omega arith) ((omega arith, w.2, w.3), h)

    terms_written : (k : ℕ) (ts : Terms erased) (rest : List Instr) → AreWritable D ts → k + terms_open ts ≤ n → Each (IsInstr n) rest → Each (IsInstr n) (terms_then k ts rest)
    terms_written k no_terms rest w le h = h
    terms_written k (more_terms t ts) rest w le h = written k t (terms_then (k + opens t) ts rest) w.0 (omega arith) (terms_written (k + opens t) ts rest w.1 (omega arith) h)

    cell_written : (k : ℕ) (a : Cell erased) (rest : List Instr) → IsCellWritable D a → k + cell_opens a ≤ n → Each (IsInstr n) rest → Each (IsInstr n) (cell_then k a rest)
    cell_written k (TInt z) rest w le h = (is_scalar (literal.Int z) w, h)
    cell_written k (TBool b) rest w le h = (is_scalar (literal.Bool b) tt, h)
    cell_written k (TChar c) rest w le h = (is_scalar (literal.Char c) w, h)
    cell_written k (TPrim p us is) rest w le h = (tt, h)
    cell_written k (TFn m t) rest w le h = ((omega arith, w.0), h)
    cell_written k (TTypeFn m t) rest w le h = ((omega arith, refl), h)
    cell_written k (TIndexFn m t) rest w le h = ((omega arith, w.0), h)
    cell_written k (TBoxed is t b) rest w le h = written k t (Box (each code_index is) ∷ rest) w.1 le (are_indices is w.0, h)

    cells_written : (k : ℕ) (xs : Cells erased) (rest : List Instr) → AreCellsWritable D xs → k + cells_open xs ≤ n → Each (IsInstr n) rest → Each (IsInstr n) (cells_then k xs rest)
    cells_written k no_cells rest w le h = h
    cells_written k (more_cells a xs) rest w le h = cell_written k a (cells_then (k + cell_opens a) xs rest) w.0 (omega arith) (cells_written (k + cell_opens a) xs rest w.1 (omega arith) h)

  -- ---- bodies

  -- a body that is writable, whose forms' blocks are there, and that has at most so many nodes
  module _ (N : ℕ) where
    abbrev pub Ready : Body → Type 0
    Ready b = IsWritable D b.term × (b.first + opens b.term ≤ n) × (term_nodes b.term ≤ N)

    mutual
      pub ready_in : (k : ℕ) (t : ErasedTerm) → IsWritable D t → k + opens t ≤ n → term_nodes t ≤ N → Each Ready (bodies_in k t)
      ready_in k (TVar j) w le few = tt
      ready_in k (TDef j) w le few = tt
      ready_in k (TArray dims xs) w le few = ready_cells k xs w.2 le (omega arith)
      ready_in k (TNoAtoms dims a) w le few = tt
      ready_in k (TFrame dims ts a) w le few = ready_terms k ts w.1 le (omega arith)
      ready_in k (TNoCells s) w le few = tt
      ready_in k (TApp f ts cs r) w le few =
          each_join Ready (bodies_in k f) (terms_bodies (k + opens f) ts) (ready_in k f w.0 (omega arith) (omega arith)) (ready_terms (k + opens f) ts w.1 (omega arith) (omega arith))
      ready_in k (TTypeApp t us r) w le few = ready_in k t w.0 le (omega arith)
      ready_in k (TIndexApp t is r) w le few = ready_in k t w.0 le (omega arith)
      ready_in k (TUnbox m t b r) w le few =
          ((w.1, omega arith, omega arith), each_join Ready (bodies_in (suc k) t) (bodies_in (suc k + opens t) b) (ready_in (suc k) t w.0 (omega arith) (omega arith)) (ready_in (suc k + opens t) b w.1 (omega arith) (omega arith)))

      ready_terms : (k : ℕ) (ts : Terms erased) → AreWritable D ts → k + terms_open ts ≤ n → terms_nodes ts ≤ N → Each Ready (terms_bodies k ts)
      ready_terms k no_terms w le few = tt
      ready_terms k (more_terms t ts) w le few =
          each_join Ready (bodies_in k t) (terms_bodies (k + opens t) ts) (ready_in k t w.0 (omega arith) (omega arith)) (ready_terms (k + opens t) ts w.1 (omega arith) (omega arith))

      ready_cell : (k : ℕ) (a : Cell erased) → IsCellWritable D a → k + cell_opens a ≤ n → cell_nodes a ≤ N → Each Ready (cell_bodies k a)
      ready_cell k (TInt z) w le few = tt
      ready_cell k (TBool b) w le few = tt
      ready_cell k (TChar c) w le few = tt
      ready_cell k (TPrim p us is) w le few = tt
      ready_cell k (TFn m t) w le few = ((w.1, omega arith, omega arith), ready_in (suc k) t w.1 (omega arith) (omega arith))
      ready_cell k (TTypeFn m t) w le few = ((w, omega arith, omega arith), ready_in (suc k) t w (omega arith) (omega arith))
      ready_cell k (TIndexFn m t) w le few = ((w.1, omega arith, omega arith), ready_in (suc k) t w.1 (omega arith) (omega arith))
      ready_cell k (TBoxed is t b) w le few = ready_in k t w.1 le (omega arith)

      ready_cells : (k : ℕ) (xs : Cells erased) → AreCellsWritable D xs → k + cells_open xs ≤ n → cells_nodes xs ≤ N → Each Ready (cells_bodies k xs)
      ready_cells k no_cells w le few = tt
      ready_cells k (more_cells a xs) w le few =
          each_join Ready (cell_bodies k a) (cells_bodies (k + cell_opens a) xs) (ready_cell k a w.0 (omega arith) (omega arith)) (ready_cells (k + cell_opens a) xs w.1 (omega arith) (omega arith))
