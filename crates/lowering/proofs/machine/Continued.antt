-- The code of a term in front of the rest of its block.
use Rattle.std.proofs.Common.{◌≡◌, refl, sym, ap, ◌∙◌, ℕ, suc, ◌+◌, Bool, true, false, List, [], ◌∷◌, ◌++◌, append_assoc, append-nil}
use Rattle.core_syntax.specs.Terms.{TVar, TDef, TArray, TNoAtoms, TFrame, TNoCells, TApp, TTypeApp, TIndexApp, TUnbox, Terms, no_terms, more_terms, Cell, TInt, TBool, TChar, TPrim, TFn, TTypeFn, TIndexFn, TBoxed, Cells, no_cells, more_cells}
use Rattle.core_syntax.specs.Lists.{each}
use Rattle.array_values.specs.declared.closure.CloseKind.TheVariants as close
use Rattle.machine_table.specs.declared.code.Literal.TheVariants as literal
use Rattle.machine_table.specs.declared.code.Instr.{Instr}
use Rattle.machine_table.specs.declared.code.Instr.TheVariants.{Const, Var, Global, Prim, Close, Box, Array, Room, Frame, Empty, App, TypeApp, IndexApp, Unbox}
use Rattle.machine_table.specs.Indices.{code_index}
use Rattle.erasure.specs.Erased.{erased, ErasedTerm}
use Rattle.lowering.specs.Lower.{opens, cell_opens, all_base, literals, array_end, code_of, terms_code, cell_code, cells_code}

-- the end of an array literal, and the rest
abbrev pub array_then : List ℕ → Cells erased → List Instr → List Instr
array_then [] (more_cells a no_cells) rest = rest
array_then dims xs rest = Array dims ∷ rest

-- a term's code, and the rest: instruction by instruction, so that each stands in front of what follows it
abbrev mutual
  pub code_then : ℕ → ErasedTerm → List Instr → List Instr
  code_then k (TVar j) rest = Var j ∷ rest
  code_then k (TDef j) rest = Global (suc j) ∷ rest
  code_then k (TArray dims xs) rest = elim (all_base xs) [ true ↦ Const dims (literals xs) ∷ rest | false ↦ cells_then k xs (array_then dims xs rest) ]
  code_then k (TNoAtoms dims a) rest = Const dims [] ∷ rest
  code_then k (TFrame dims no_terms a) rest = Frame dims ∷ rest
  code_then k (TFrame dims (more_terms t ts) a) rest = code_then k t (Room dims ∷ terms_then (k + opens t) ts (Frame dims ∷ rest))
  code_then k (TNoCells w) rest = Empty w ∷ rest
  code_then k (TApp f ts cs r) rest = code_then k f (terms_then (k + opens f) ts (App cs r ∷ rest))
  code_then k (TTypeApp t us r) rest = code_then k t (TypeApp r ∷ rest)
  code_then k (TIndexApp t is r) rest = code_then k t (IndexApp (each code_index is) r ∷ rest)
  code_then k (TUnbox n t b r) rest = code_then (suc k) t (Unbox k n r ∷ rest)

  -- that of terms
  pub terms_then : ℕ → Terms erased → List Instr → List Instr
  terms_then k no_terms rest = rest
  terms_then k (more_terms t ts) rest = code_then k t (terms_then (k + opens t) ts rest)

  -- that of an atom
  pub cell_then : ℕ → Cell erased → List Instr → List Instr
  cell_then k (TInt z) rest = Const [] (literal.Int z ∷ []) ∷ rest
  cell_then k (TBool b) rest = Const [] (literal.Bool b ∷ []) ∷ rest
  cell_then k (TChar c) rest = Const [] (literal.Char c ∷ []) ∷ rest
  cell_then k (TPrim p us is) rest = Prim p ∷ rest
  cell_then k (TFn n t) rest = Close close.Fn k n ∷ rest
  cell_then k (TTypeFn n t) rest = Close close.TypeFn k 0 ∷ rest
  cell_then k (TIndexFn n t) rest = Close close.IndexFn k n ∷ rest
  cell_then k (TBoxed is t b) rest = code_then k t (Box (each code_index is) ∷ rest)

  -- and that of atoms
  pub cells_then : ℕ → Cells erased → List Instr → List Instr
  cells_then k no_cells rest = rest
  cells_then k (more_cells a xs) rest = cell_then k a (cells_then (k + cell_opens a) xs rest)

-- ---- what stands there is the code, and the rest

pub array_rest : (dims : List ℕ) (xs : Cells erased) (rest : List Instr) → array_then dims xs rest ≡ array_end dims xs ++ rest
array_rest [] (more_cells a no_cells) rest = refl
array_rest [] no_cells rest = refl
array_rest [] (more_cells a (more_cells b xs)) rest = refl
array_rest (n ∷ dims) xs rest = refl

-- a part, then what follows it: the rest stands behind both
behind : (part tail after rest : List Instr) → tail ≡ after ++ rest → part ++ tail ≡ (part ++ after) ++ rest
behind part tail after rest e = ap (λ is. part ++ is) e ∙ sym (append_assoc part after rest)

mutual
  pub code_rest : (k : ℕ) (t : ErasedTerm) (rest : List Instr) → code_then k t rest ≡ code_of k t ++ rest
  code_rest k (TVar j) rest = refl
  code_rest k (TDef j) rest = refl
  code_rest k (TArray dims xs) rest =
      by (all_base xs) (cells_rest k xs (array_then dims xs rest) ∙ behind (cells_code k xs) (array_then dims xs rest) (array_end dims xs) rest (array_rest dims xs rest))
    where
      by : (b : Bool) → cells_then k xs (array_then dims xs rest) ≡ (cells_code k xs ++ array_end dims xs) ++ rest
          → elim b as (λ b. List Instr) [ true ↦ Const dims (literals xs) ∷ rest | false ↦ cells_then k xs (array_then dims xs rest) ]
          ≡ elim b as (λ b. List Instr) [ true ↦ Const dims (literals xs) ∷ [] | false ↦ cells_code k xs ++ array_end dims xs ] ++ rest
      by true h = refl
      by false h = h
  code_rest k (TNoAtoms dims a) rest = refl
  code_rest k (TFrame dims no_terms a) rest = refl
  code_rest k (TFrame dims (more_terms t ts) a) rest =
      let j = k + opens t in
      code_rest k t (Room dims ∷ terms_then j ts (Frame dims ∷ rest))
      ∙ ap (λ is. code_of k t ++ Room dims ∷ is) (terms_rest j ts (Frame dims ∷ rest))
      ∙ sym (append_assoc (code_of k t) (Room dims ∷ terms_code j ts) (Frame dims ∷ rest))
      ∙ sym (append_assoc (code_of k t ++ Room dims ∷ terms_code j ts) (Frame dims ∷ []) rest)
  code_rest k (TNoCells w) rest = refl
  code_rest k (TApp f ts cs r) rest =
      let j = k + opens f in
      code_rest k f (terms_then j ts (App cs r ∷ rest))
      ∙ ap (λ is. code_of k f ++ is) (terms_rest j ts (App cs r ∷ rest))
      ∙ sym (append_assoc (code_of k f) (terms_code j ts) (App cs r ∷ rest))
      ∙ sym (append_assoc (code_of k f ++ terms_code j ts) (App cs r ∷ []) rest)
  code_rest k (TTypeApp t us r) rest = code_rest k t (TypeApp r ∷ rest) ∙ behind (code_of k t) (TypeApp r ∷ rest) (TypeApp r ∷ []) rest refl
  code_rest k (TIndexApp t is r) rest =
      code_rest k t (IndexApp (each code_index is) r ∷ rest) ∙ behind (code_of k t) (IndexApp (each code_index is) r ∷ rest) (IndexApp (each code_index is) r ∷ []) rest refl
  code_rest k (TUnbox n t b r) rest = code_rest (suc k) t (Unbox k n r ∷ rest) ∙ behind (code_of (suc k) t) (Unbox k n r ∷ rest) (Unbox k n r ∷ []) rest refl

  pub terms_rest : (k : ℕ) (ts : Terms erased) (rest : List Instr) → terms_then k ts rest ≡ terms_code k ts ++ rest
  terms_rest k no_terms rest = refl
  terms_rest k (more_terms t ts) rest =
      code_rest k t (terms_then (k + opens t) ts rest) ∙ behind (code_of k t) (terms_then (k + opens t) ts rest) (terms_code (k + opens t) ts) rest (terms_rest (k + opens t) ts rest)

  pub cell_rest : (k : ℕ) (a : Cell erased) (rest : List Instr) → cell_then k a rest ≡ cell_code k a ++ rest
  cell_rest k (TInt z) rest = refl
  cell_rest k (TBool b) rest = refl
  cell_rest k (TChar c) rest = refl
  cell_rest k (TPrim p us is) rest = refl
  cell_rest k (TFn n t) rest = refl
  cell_rest k (TTypeFn n t) rest = refl
  cell_rest k (TIndexFn n t) rest = refl
  cell_rest k (TBoxed is t b) rest = code_rest k t (Box (each code_index is) ∷ rest) ∙ behind (code_of k t) (Box (each code_index is) ∷ rest) (Box (each code_index is) ∷ []) rest refl

  pub cells_rest : (k : ℕ) (xs : Cells erased) (rest : List Instr) → cells_then k xs rest ≡ cells_code k xs ++ rest
  cells_rest k no_cells rest = refl
  cells_rest k (more_cells a xs) rest =
      cell_rest k a (cells_then (k + cell_opens a) xs rest)
      ∙ behind (cell_code k a) (cells_then (k + cell_opens a) xs rest) (cells_code (k + cell_opens a) xs) rest (cells_rest (k + cell_opens a) xs rest)

-- with nothing behind it, it is the code alone
pub code_alone : (k : ℕ) (t : ErasedTerm) → code_then k t [] ≡ code_of k t
code_alone k t = code_rest k t [] ∙ append-nil (code_of k t)
