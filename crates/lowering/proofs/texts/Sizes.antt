-- How many instructions and blocks a term has: no more than twice its nodes, and its nodes.
use Rattle.std.proofs.Common.{ℕ, suc, ◌+◌, ◌*◌, ◌≤◌, arith, Bool, true, false, List, [], ◌∷◌, length}
use Rattle.core_syntax.specs.Terms.{TVar, TDef, TArray, TNoAtoms, TFrame, TNoCells, TApp, TTypeApp, TIndexApp, TUnbox, Terms, no_terms, more_terms, Cell, TInt, TBool, TChar, TPrim, TFn, TTypeFn, TIndexFn, TBoxed, Cells, no_cells, more_cells}
use Rattle.core_syntax.specs.Lists.{each}
use Rattle.machine_table.specs.declared.code.Instr.{Instr}
use Rattle.machine_table.specs.declared.code.Instr.TheVariants.{Const, Box, Room, Frame, App, TypeApp, IndexApp, Unbox}
use Rattle.machine_table.specs.Indices.{code_index}
use Rattle.erasure.specs.Erased.{erased, ErasedTerm}
use Rattle.lowering.specs.Lower.{opens, terms_open, cell_opens, cells_open, all_base, literals}
use Rattle.erasure.specs.TermNodes.{term_nodes, terms_nodes, cell_nodes, cells_nodes}
use Rattle.lowering.proofs.machine.Continued.{array_then, code_then, terms_then, cell_then, cells_then}

-- ---- blocks

mutual
  pub opens_few : (t : ErasedTerm) → opens t ≤ term_nodes t
  opens_few (TVar k) = omega arith
  opens_few (TDef k) = omega arith
  opens_few (TArray dims xs) = let h = cells_open_few xs in omega (arith, h)
  opens_few (TNoAtoms dims a) = omega arith
  opens_few (TFrame dims ts a) = let h = terms_open_few ts in omega (arith, h)
  opens_few (TNoCells w) = omega arith
  opens_few (TApp f ts cs r) = let h = opens_few f in let i = terms_open_few ts in omega (arith, h, i)
  opens_few (TTypeApp t us r) = let h = opens_few t in omega (arith, h)
  opens_few (TIndexApp t is r) = let h = opens_few t in omega (arith, h)
  opens_few (TUnbox n t b r) = let h = opens_few t in let i = opens_few b in omega (arith, h, i)

  terms_open_few : (ts : Terms erased) → terms_open ts ≤ terms_nodes ts
  terms_open_few no_terms = omega arith
  terms_open_few (more_terms t ts) = let h = opens_few t in let i = terms_open_few ts in omega (arith, h, i)

  cell_opens_few : (a : Cell erased) → cell_opens a ≤ cell_nodes a
  cell_opens_few (TInt z) = omega arith
  cell_opens_few (TBool b) = omega arith
  cell_opens_few (TChar c) = omega arith
  cell_opens_few (TPrim p us is) = omega arith
  cell_opens_few (TFn n t) = let h = opens_few t in omega (arith, h)
  cell_opens_few (TTypeFn n t) = let h = opens_few t in omega (arith, h)
  cell_opens_few (TIndexFn n t) = let h = opens_few t in omega (arith, h)
  cell_opens_few (TBoxed is t b) = let h = opens_few t in omega (arith, h)

  cells_open_few : (xs : Cells erased) → cells_open xs ≤ cells_nodes xs
  cells_open_few no_cells = omega arith
  cells_open_few (more_cells a xs) = let h = cell_opens_few a in let i = cells_open_few xs in omega (arith, h, i)

-- ---- instructions

-- some code before the rest: so many at least, and so many at most
abbrev pub Between : (least most : ℕ) → (code rest : List Instr) → Type 0
Between least most code rest = (least + length rest ≤ length code) × (length code ≤ most + length rest)

array_between : (dims : List ℕ) (xs : Cells erased) (rest : List Instr) → Between 0 1 (array_then dims xs rest) rest
array_between [] (more_cells a no_cells) rest = (omega arith, omega arith)
array_between [] no_cells rest = (omega arith, omega arith)
array_between [] (more_cells a (more_cells b xs)) rest = (omega arith, omega arith)
array_between (n ∷ dims) xs rest = (omega arith, omega arith)

-- an instruction, and what stands before it
one_more : (l m : ℕ) (code : List Instr) (i : Instr) (rest : List Instr) → Between l m code (i ∷ rest) → Between (1 + l) (1 + m) code rest
one_more l m code i rest h = (let a : l + suc (length rest) ≤ length code = h.0 in omega (arith, a), let b : length code ≤ m + suc (length rest) = h.1 in omega (arith, b))

mutual
  pub code_between : (k : ℕ) (t : ErasedTerm) (rest : List Instr) → Between 1 (2 * term_nodes t) (code_then k t rest) rest
  code_between k (TVar j) rest = (omega arith, omega arith)
  code_between k (TDef j) rest = (omega arith, omega arith)
  code_between k (TArray dims no_cells) rest = (omega arith, omega arith)
  code_between k (TArray dims (more_cells a xs)) rest = by (all_base (more_cells a xs)) (cell_between k a (cells_then (k + cell_opens a) xs (array_then dims (more_cells a xs) rest))) (cells_between (k + cell_opens a) xs (array_then dims (more_cells a xs) rest))
    where
      by : (b : Bool) → Between 1 (2 * cell_nodes a) (cells_then k (more_cells a xs) (array_then dims (more_cells a xs) rest)) (cells_then (k + cell_opens a) xs (array_then dims (more_cells a xs) rest))
          → Between 0 (2 * cells_nodes xs) (cells_then (k + cell_opens a) xs (array_then dims (more_cells a xs) rest)) (array_then dims (more_cells a xs) rest)
          → Between 1 (2 * (1 + (cell_nodes a + cells_nodes xs))) (elim b as (λ b. List Instr) [ true ↦ Const dims (literals (more_cells a xs)) ∷ rest | false ↦ cells_then k (more_cells a xs) (array_then dims (more_cells a xs) rest) ]) rest
      by true h i = (omega arith, omega arith)
      by false h i =
          let j = array_between dims (more_cells a xs) rest in
          (let x = h.0 in let y = i.0 in let z = j.0 in omega (arith, x, y, z), let x = h.1 in let y = i.1 in let z = j.1 in omega (arith, x, y, z))
  code_between k (TNoAtoms dims a) rest = (omega arith, omega arith)
  code_between k (TFrame dims no_terms a) rest = (omega arith, omega arith)
  code_between k (TFrame dims (more_terms t ts) a) rest =
      let h = code_between k t (Room dims ∷ terms_then (k + opens t) ts (Frame dims ∷ rest)) in
      let i = terms_between (k + opens t) ts (Frame dims ∷ rest) in
      (let x = h.0 in let y = i.0 in omega (arith, x, y), let x = h.1 in let y = i.1 in omega (arith, x, y))
  code_between k (TNoCells w) rest = (omega arith, omega arith)
  code_between k (TApp f ts cs r) rest =
      let h = code_between k f (terms_then (k + opens f) ts (App cs r ∷ rest)) in
      let i = terms_between (k + opens f) ts (App cs r ∷ rest) in
      (let x = h.0 in let y = i.0 in omega (arith, x, y), let x = h.1 in let y = i.1 in omega (arith, x, y))
  code_between k (TTypeApp t us r) rest = let h = code_between k t (TypeApp r ∷ rest) in (let x = h.0 in omega (arith, x), let x = h.1 in omega (arith, x))
  code_between k (TIndexApp t is r) rest = let h = code_between k t (IndexApp (each code_index is) r ∷ rest) in (let x = h.0 in omega (arith, x), let x = h.1 in omega (arith, x))
  code_between k (TUnbox n t b r) rest = let h = code_between (suc k) t (Unbox k n r ∷ rest) in (let x = h.0 in omega (arith, x), let x = h.1 in omega (arith, x))

  terms_between : (k : ℕ) (ts : Terms erased) (rest : List Instr) → Between 0 (2 * terms_nodes ts) (terms_then k ts rest) rest
  terms_between k no_terms rest = (omega arith, omega arith)
  terms_between k (more_terms t ts) rest =
      let h = code_between k t (terms_then (k + opens t) ts rest) in
      let i = terms_between (k + opens t) ts rest in
      (let x = h.0 in let y = i.0 in omega (arith, x, y), let x = h.1 in let y = i.1 in omega (arith, x, y))

  cell_between : (k : ℕ) (a : Cell erased) (rest : List Instr) → Between 1 (2 * cell_nodes a) (cell_then k a rest) rest
  cell_between k (TInt z) rest = (omega arith, omega arith)
  cell_between k (TBool b) rest = (omega arith, omega arith)
  cell_between k (TChar c) rest = (omega arith, omega arith)
  cell_between k (TPrim p us is) rest = (omega arith, omega arith)
  cell_between k (TFn n t) rest = (omega arith, omega arith)
  cell_between k (TTypeFn n t) rest = (omega arith, omega arith)
  cell_between k (TIndexFn n t) rest = (omega arith, omega arith)
  cell_between k (TBoxed is t b) rest = let h = code_between k t (Box (each code_index is) ∷ rest) in (let x = h.0 in omega (arith, x), let x = h.1 in omega (arith, x))

  cells_between : (k : ℕ) (xs : Cells erased) (rest : List Instr) → Between 0 (2 * cells_nodes xs) (cells_then k xs rest) rest
  cells_between k no_cells rest = (omega arith, omega arith)
  cells_between k (more_cells a xs) rest =
      let h = cell_between k a (cells_then (k + cell_opens a) xs rest) in
      let i = cells_between (k + cell_opens a) xs rest in
      (let x = h.0 in let y = i.0 in omega (arith, x, y), let x = h.1 in let y = i.1 in omega (arith, x, y))
