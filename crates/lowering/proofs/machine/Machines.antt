-- The machine's run of a lowered term follows the evaluation of the term.
use Rattle.std.proofs.Common.{◌≡◌, refl, sym, ap, ◌∙◌, ℕ, zero, suc, ◌+◌, arith, Bool, true, false, List, [], ◌∷◌, ◌++◌, length, append-nil, Option, Some, None}
use Rattle.std.specs.Prelude.{◌==◌, slice_get}
use Rattle.std.proofs.lemmas.Bool.Decides.{nat_tests}
use Rattle.core_syntax.specs.declared.errors.TrapKind.TheVariants as trap
use Rattle.core_syntax.specs.declared.errors.StuckKind.{StuckKind}
use Rattle.core_syntax.specs.Lists.{onto, each, product}
use Rattle.core_syntax.specs.Fits.{forms, all_fit}
use Rattle.core_syntax.specs.Word.{Word}
use Rattle.core_syntax.specs.Terms.{IndexValue, TVar, TDef, TArray, TNoAtoms, TFrame, TNoCells, TApp, TTypeApp, TIndexApp, TUnbox, Terms, no_terms, more_terms, Cell, TInt, TBool, TChar, TPrim, TFn, TTypeFn, TIndexFn, TBoxed, Cells, no_cells, more_cells}
use Rattle.core_syntax.specs.Arrays.{Arrayed, array, single}
use Rattle.array_values.specs.declared.closure.CloseKind.TheVariants as close
use Rattle.machine_table.specs.declared.code.CodeIndex.{CodeIndex}
use Rattle.machine_table.specs.declared.code.Instr.{Instr}
use Rattle.machine_table.specs.declared.code.Instr.TheVariants.{Const, Global, Prim, Box, Array, Room, Frame, Empty, App, TypeApp, IndexApp, Unbox}
use Rattle.machine_table.specs.declared.code.Block.{Block}
use Rattle.machine_table.specs.Values.{Env, IntAtom, BoolAtom, CharAtom, PrimAtom, Closure, BoxAtom, ValueRules, no_env}
use Rattle.machine_table.specs.Indices.{shape_under, indices_fault, index_under, code_index}
use Rattle.machine_table.specs.Instructions.{Begun, Pushes, Halts, unless, fitting, app_begun, type_begun, index_begun, unbox_begun, box_begun, empty_begun, frame_begun}
use Rattle.machine_table.specs.Machine.{State, Running, Next, Goes, Stops, Trap, literal_atom, pop, with_scalar, scalars, with_top, with_array, with_popped, with_scalars, begun, step}
use Rattle.erasure.specs.Erased.{erased, ErasedTerm}
use Rattle.lowering.specs.Lower.{opens, cell_opens, all_base, literals}
use Rattle.lowering.specs.Runs.{Comp, ◌then_run◌, give, tick, ticks, count, stop, lost}
use Rattle.lowering.specs.Evals.{base_atoms, base_val, array_val, full_val, app_ticks, over_ticks, hand_over, fitting_box, box_val, app_val, frame_val, eval, eval_all, eval_cell, eval_cells, begun_val}
use Rattle.lowering.proofs.machine.Continued.{array_then, code_then, terms_then, cell_then, cells_then}
use Rattle.lowering.proofs.machine.Follows.{Simulates, sim_give, sim_lost, sim_tick, sim_ticks, sim_count, sim_one, sim_stop, sim_then, sim_found}
use Rattle.lowering.proofs.machine.Simulates.{EntersWell, sim_enter, sim_begun}

-- ---- operands

-- the operands that were pushed are popped in order
pop_onto : {V : Type 0} (vs acc ops : List (Arrayed V)) (m : ℕ) → pop (length vs + m) acc (onto vs ops) ≡ pop m (vs ++ acc) ops
pop_onto [] acc ops m = let none : zero + m ≡ m = omega arith in rw none refl
pop_onto (v ∷ vs) acc ops m =
    let one : suc (length vs) + m ≡ length vs + suc m = omega arith in
    rw one (pop_onto vs acc (v ∷ ops) (suc m))

-- as many operands as were pushed
pub popped : {V : Type 0} (n : ℕ) (vs ops : List (Arrayed V)) → n ≡ length vs → pop n [] (onto vs ops) ≡ Some (vs, ops)
popped n vs ops e =
    let all : n ≡ length vs + 0 = omega arith in
    rw all (pop_onto vs [] ops 0 ∙ ap (λ ws. Some (ws, ops)) (append-nil vs))

-- as many as there are items
each_length : {A B : Type 0} (f : A → B) (xs : List A) → length (each f xs) ≡ length xs
each_length f [] = refl
each_length f (x ∷ xs) = let e : length (each f xs) ≡ length xs = each_length f xs in omega arith

-- the atoms of scalars
scalars_are : {V : Type 0} (xs : List V) → scalars (each single xs) ≡ Some xs
scalars_are [] = refl
scalars_are (x ∷ xs) = ap (with_scalar [] (x ∷ [])) (scalars_are xs)

-- the atoms of base literals
literals_are : {V : Type 0} (R : ValueRules V) (xs : Cells erased) → each (λ l. R.made (literal_atom l)) (literals xs) ≡ base_atoms R xs
literals_are R no_cells = refl
literals_are R (more_cells (TInt z) xs) = ap (λ ys. R.made (IntAtom z) ∷ ys) (literals_are R xs)
literals_are R (more_cells (TBool b) xs) = ap (λ ys. R.made (BoolAtom b) ∷ ys) (literals_are R xs)
literals_are R (more_cells (TChar c) xs) = ap (λ ys. R.made (CharAtom c) ∷ ys) (literals_are R xs)
literals_are R (more_cells _ xs) = literals_are R xs

same_number : (m n : ℕ) → (m == n) ≡ true → m ≡ n
same_number m n e = grind (arith, nat_tests)

module _ {V : Type 0} (R : ValueRules V) (blocks : List Block) (enter : Env V → ℕ → Comp (Arrayed V)) (well : EntersWell R blocks enter) where
  -- ---- instructions behind their operands

  -- a box: its atom is pushed
  sim_box : (is : List IndexValue) (js : List CodeIndex) (v : Arrayed V) (t s : State V) (rest : List Instr) (env : Env V) (ops : List (Arrayed V))
      → step R blocks t ≡ begun (box_begun R is js v) rest env ops s → Simulates R blocks t (λ a. Running rest env (single a ∷ ops) ∷ s) (box_val R is js v)
  sim_box is js v t s rest env ops e = go (indices_fault is js) e
    where
      fit : (b : Bool) → step R blocks t ≡ begun (elim b as (λ b. Begun V) [ true ↦ Pushes (single (R.made (BoxAtom (each (index_under is) js) v))) | false ↦ Halts trap.Size ]) rest env ops s
          → Simulates R blocks t (λ a. Running rest env (single a ∷ ops) ∷ s)
          (elim b as (λ b. Comp V) [ true ↦ count 1 (give (R.made (BoxAtom (each (index_under is) js) v))) | false ↦ tick (count 1 (stop trap.Size)) ])
      fit true e = sim_one R blocks (λ a. Running rest env (single a ∷ ops) ∷ s) (R.made (BoxAtom (each (index_under is) js) v)) e
      fit false e = sim_tick R blocks (sim_stop R blocks (λ a. Running rest env (single a ∷ ops) ∷ s) trap.Size e)

      go : (o : Option StuckKind) → step R blocks t ≡ begun (unless o (fitting (each (index_under is) js) (Pushes (single (R.made (BoxAtom (each (index_under is) js) v)))))) rest env ops s
          → Simulates R blocks t (λ a. Running rest env (single a ∷ ops) ∷ s) (elim o as (λ o. Comp V) [ Some k ↦ lost | None ↦ fitting_box R (each (index_under is) js) v ])
      go (Some k) e = sim_lost R blocks t (λ a. Running rest env (single a ∷ ops) ∷ s)
      go None e = fit (all_fit (each (index_under is) js)) e

  module _ (env : Env V) (s : State V) where
    -- the state behind a term
    abbrev Behind : List Instr → List (Arrayed V) → Arrayed V → State V
    Behind rest ops v = Running rest env (v ∷ ops) ∷ s

    sim_frame : (dims : List ℕ) (vs : List (Arrayed V)) (rest : List Instr) (ops : List (Arrayed V)) → Simulates R blocks (Running (Frame dims ∷ rest) env (onto vs ops) ∷ s) (Behind rest ops) (frame_val R enter dims vs)
    sim_frame dims vs rest ops = go (product dims == length vs) refl
      where
        go : (b : Bool) → (product dims == length vs) ≡ b → Simulates R blocks (Running (Frame dims ∷ rest) env (onto vs ops) ∷ s) (Behind rest ops) (elim b as (λ b. Comp (Arrayed V)) [ true ↦ begun_val R enter (frame_begun dims vs) | false ↦ lost ])
        go true e =
            sim_begun R blocks enter well rest env ops s (Running (Frame dims ∷ rest) env (onto vs ops) ∷ s) (frame_begun dims vs)
            (ap (λ o. with_popped o (λ vs ops'. begun (frame_begun dims vs) rest env ops' s)) (popped (product dims) vs ops (same_number (product dims) (length vs) e)))
        go false e = sim_lost R blocks (Running (Frame dims ∷ rest) env (onto vs ops) ∷ s) (Behind rest ops)

    sim_app : (cs : List Word) (r : Word) (f : Arrayed V) (vs : List (Arrayed V)) (rest : List Instr) (ops : List (Arrayed V))
        → Simulates R blocks (Running (App cs r ∷ rest) env (onto vs (f ∷ ops)) ∷ s) (Behind rest ops) (app_val R enter env.indices cs r f vs)
    sim_app cs r f vs rest ops = go (length cs == length vs) refl
      where
        go : (b : Bool) → (length cs == length vs) ≡ b
            → Simulates R blocks (Running (App cs r ∷ rest) env (onto vs (f ∷ ops)) ∷ s) (Behind rest ops)
            (elim b as (λ b. Comp (Arrayed V)) [ true ↦ ticks (app_ticks (each (shape_under env.indices) cs) f vs) (begun_val R enter (app_begun env.indices cs r f vs)) | false ↦ lost ])
        go true e =
            sim_ticks R blocks (app_ticks (each (shape_under env.indices) cs) f vs)
            (sim_begun R blocks enter well rest env ops s (Running (App cs r ∷ rest) env (onto vs (f ∷ ops)) ∷ s) (app_begun env.indices cs r f vs)
            (ap (λ o. with_popped o (λ vs ops'. with_top ops' (λ f ops''. begun (app_begun env.indices cs r f vs) rest env ops'' s)))
            (popped (length cs) vs (f ∷ ops) (same_number (length cs) (length vs) e))))
        go false e = sim_lost R blocks (Running (App cs r ∷ rest) env (onto vs (f ∷ ops)) ∷ s) (Behind rest ops)

    sim_base : (dims : List ℕ) (xs : Cells erased) (rest : List Instr) (ops : List (Arrayed V)) → Simulates R blocks (Running (Const dims (literals xs) ∷ rest) env ops ∷ s) (Behind rest ops) (base_val R dims xs)
    sim_base dims no_cells rest ops = sim_lost R blocks (Running (Const dims [] ∷ rest) env ops ∷ s) (Behind rest ops)
    sim_base dims (more_cells a xs) rest ops =
        sim_one R blocks (Behind rest ops) (array dims (base_atoms R (more_cells a xs))) (ap (λ ys. Goes (Running rest env (array dims ys ∷ ops) ∷ s)) (literals_are R (more_cells a xs)))

    -- an array literal behind its atoms
    sim_many : (dims : List ℕ) (vs : List V) (rest : List Instr) (ops : List (Arrayed V))
        → Simulates R blocks (Running (Array dims ∷ rest) env (onto (each single vs) ops) ∷ s) (Behind rest ops)
        (full_val dims vs)
    sim_many dims vs rest ops = go (product dims == length vs) refl
      where
        go : (b : Bool) → (product dims == length vs) ≡ b
            → Simulates R blocks (Running (Array dims ∷ rest) env (onto (each single vs) ops) ∷ s) (Behind rest ops)
            (elim b as (λ b. Comp (Arrayed V)) [ true ↦ count 1 (give (array dims vs)) | false ↦ lost ])
        go true e =
            let count_is : product dims ≡ length vs = same_number (product dims) (length vs) e in
            sim_one R blocks (Behind rest ops) (array dims vs)
            (ap (λ o. with_popped o (λ vs ops'. with_scalars (scalars vs) (λ xs. Goes (Running rest env (array dims xs ∷ ops') ∷ s))))
            (popped (product dims) (each single vs) ops (count_is ∙ sym (each_length single vs)))
            ∙ ap (λ o. with_scalars o (λ xs. Goes (Running rest env (array dims xs ∷ ops) ∷ s))) (scalars_are vs))
        go false e = sim_lost R blocks (Running (Array dims ∷ rest) env (onto (each single vs) ops) ∷ s) (Behind rest ops)

    sim_array : (dims : List ℕ) (xs : Cells erased) (vs : List V) (rest : List Instr) (ops : List (Arrayed V))
        → Simulates R blocks (Running (array_then dims xs rest) env (onto (each single vs) ops) ∷ s) (Behind rest ops) (array_val dims xs vs)
    sim_array [] (more_cells a no_cells) [] rest ops = sim_lost R blocks (Running rest env ops ∷ s) (Behind rest ops)
    sim_array [] (more_cells a no_cells) (v ∷ []) rest ops = sim_give R blocks (Running rest env (single v ∷ ops) ∷ s) (Behind rest ops) (single v) refl
    sim_array [] (more_cells a no_cells) (v ∷ w ∷ vs) rest ops = sim_lost R blocks (Running rest env (onto (each single vs) (single w ∷ single v ∷ ops)) ∷ s) (Behind rest ops)
    sim_array [] no_cells vs rest ops = sim_many [] vs rest ops
    sim_array [] (more_cells a (more_cells b xs)) vs rest ops = sim_many [] vs rest ops
    sim_array (n ∷ dims) xs vs rest ops = sim_many (n ∷ dims) vs rest ops

  -- ---- terms

  mutual
    -- from where a term's code stands before the rest of a block, the machine follows the term's evaluation to where its value is pushed
    pub sim_term : (k : ℕ) (t : ErasedTerm) (env : Env V) (rest : List Instr) (ops : List (Arrayed V)) (s : State V)
        → Simulates R blocks (Running (code_then k t rest) env ops ∷ s) (λ v. Running rest env (v ∷ ops) ∷ s) (eval R enter k env t)
    sim_term k (TVar j) env rest ops s =
        sim_found R blocks (slice_get env.arrays j) (λ v. count 1 (give v))
        (λ v e. sim_one R blocks (λ v. Running rest env (v ∷ ops) ∷ s) v (ap (λ o. with_array o (λ v. Goes (Running rest env (v ∷ ops) ∷ s))) e))
    sim_term k (TDef j) env rest ops s =
        sim_tick R blocks
        (sim_enter R blocks enter well (Running (Global (suc j) ∷ rest) env ops ∷ s) (Running rest env ops ∷ s) (λ v. Running rest env (v ∷ ops) ∷ s) no_env (suc j) hand_over refl
        (λ v. sim_one R blocks (λ v. Running rest env (v ∷ ops) ∷ s) v refl))
    sim_term k (TArray dims xs) env rest ops s = by (all_base xs) (sim_cells k xs env (array_then dims xs rest) ops s)
      where
        by : (b : Bool) → Simulates R blocks (Running (cells_then k xs (array_then dims xs rest)) env ops ∷ s) (λ vs. Running (array_then dims xs rest) env (onto (each single vs) ops) ∷ s) (eval_cells R enter k env xs)
            → Simulates R blocks (Running (elim b as (λ b. List Instr) [ true ↦ Const dims (literals xs) ∷ rest | false ↦ cells_then k xs (array_then dims xs rest) ]) env ops ∷ s) (λ v. Running rest env (v ∷ ops) ∷ s)
            (elim b as (λ b. Comp (Arrayed V)) [ true ↦ base_val R dims xs | false ↦ eval_cells R enter k env xs then_run array_val dims xs ])
        by true h = sim_base env s dims xs rest ops
        by false h = sim_then R blocks h (λ vs. sim_array env s dims xs vs rest ops)
    sim_term k (TNoAtoms dims a) env rest ops s = sim_one R blocks (λ v. Running rest env (v ∷ ops) ∷ s) (array dims []) refl
    sim_term k (TFrame dims no_terms a) env rest ops s = sim_lost R blocks (Running (Frame dims ∷ rest) env ops ∷ s) (λ v. Running rest env (v ∷ ops) ∷ s)
    sim_term k (TFrame dims (more_terms t ts) a) env rest ops s =
        sim_then R blocks (sim_term k t env (Room dims ∷ terms_then (k + opens t) ts (Frame dims ∷ rest)) ops s)
        (λ v. room v (sim_terms (k + opens t) ts env (Frame dims ∷ rest) (v ∷ ops) s) (forms (dims ++ v.dims)) refl)
      where
        room : (v : Arrayed V) → Simulates R blocks (Running (terms_then (k + opens t) ts (Frame dims ∷ rest)) env (v ∷ ops) ∷ s) (λ vs. Running (Frame dims ∷ rest) env (onto vs (v ∷ ops)) ∷ s) (eval_all R enter (k + opens t) env ts)
            → (b : Bool) → (forms (dims ++ v.dims)) ≡ b
            → Simulates R blocks (Running (Room dims ∷ terms_then (k + opens t) ts (Frame dims ∷ rest)) env (v ∷ ops) ∷ s) (λ v. Running rest env (v ∷ ops) ∷ s)
            (elim b as (λ b. Comp (Arrayed V)) [ true ↦ count 1 (eval_all R enter (k + opens t) env ts then_run (λ vs. frame_val R enter dims (v ∷ vs))) | false ↦ tick (count 1 (stop trap.Size)) ])
        room v h true e =
            sim_count R blocks (ap (λ b. elim b as (λ b. Next V) [ true ↦ Goes (Running (terms_then (k + opens t) ts (Frame dims ∷ rest)) env (v ∷ ops) ∷ s) | false ↦ Stops (Trap trap.Size) ]) e)
            (sim_then R blocks h (λ vs. sim_frame env s dims (v ∷ vs) rest ops))
        room v h false e =
            sim_tick R blocks (sim_stop R blocks (λ v. Running rest env (v ∷ ops) ∷ s) trap.Size
            (ap (λ b. elim b as (λ b. Next V) [ true ↦ Goes (Running (terms_then (k + opens t) ts (Frame dims ∷ rest)) env (v ∷ ops) ∷ s) | false ↦ Stops (Trap trap.Size) ]) e))
    sim_term k (TNoCells w) env rest ops s = sim_begun R blocks enter well rest env ops s (Running (Empty w ∷ rest) env ops ∷ s) (empty_begun env.indices w) refl
    sim_term k (TApp f ts cs r) env rest ops s =
        sim_then R blocks (sim_term k f env (terms_then (k + opens f) ts (App cs r ∷ rest)) ops s)
        (λ g. sim_then R blocks (sim_terms (k + opens f) ts env (App cs r ∷ rest) (g ∷ ops) s) (λ vs. sim_app env s cs r g vs rest ops))
    sim_term k (TTypeApp t us r) env rest ops s =
        sim_then R blocks (sim_term k t env (TypeApp r ∷ rest) ops s)
        (λ v. sim_ticks R blocks (over_ticks v) (sim_begun R blocks enter well rest env ops s (Running (TypeApp r ∷ rest) env (v ∷ ops) ∷ s) (type_begun env.indices v r) refl))
    sim_term k (TIndexApp t is r) env rest ops s =
        sim_then R blocks (sim_term k t env (IndexApp (each code_index is) r ∷ rest) ops s)
        (λ v. sim_ticks R blocks (over_ticks v) (sim_begun R blocks enter well rest env ops s (Running (IndexApp (each code_index is) r ∷ rest) env (v ∷ ops) ∷ s) (index_begun env.indices v (each code_index is) r) refl))
    sim_term k (TUnbox n t b r) env rest ops s =
        sim_then R blocks (sim_term (suc k) t env (Unbox k n r ∷ rest) ops s)
        (λ v. sim_ticks R blocks (over_ticks v) (sim_begun R blocks enter well rest env ops s (Running (Unbox k n r ∷ rest) env (v ∷ ops) ∷ s) (unbox_begun env v k n r) refl))

    -- terms in order: their values are pushed, the last on top
    sim_terms : (k : ℕ) (ts : Terms erased) (env : Env V) (rest : List Instr) (ops : List (Arrayed V)) (s : State V)
        → Simulates R blocks (Running (terms_then k ts rest) env ops ∷ s) (λ vs. Running rest env (onto vs ops) ∷ s) (eval_all R enter k env ts)
    sim_terms k no_terms env rest ops s = sim_give R blocks (Running rest env ops ∷ s) (λ vs. Running rest env (onto vs ops) ∷ s) [] refl
    sim_terms k (more_terms t ts) env rest ops s =
        sim_then R blocks (sim_term k t env (terms_then (k + opens t) ts rest) ops s)
        (λ v. sim_then R blocks (sim_terms (k + opens t) ts env rest (v ∷ ops) s)
        (λ vs. sim_give R blocks (Running rest env (onto vs (v ∷ ops)) ∷ s) (λ vs. Running rest env (onto vs ops) ∷ s) (v ∷ vs) refl))

    -- an atom by itself: its scalar is pushed
    sim_cell : (k : ℕ) (a : Cell erased) (env : Env V) (rest : List Instr) (ops : List (Arrayed V)) (s : State V)
        → Simulates R blocks (Running (cell_then k a rest) env ops ∷ s) (λ a. Running rest env (single a ∷ ops) ∷ s) (eval_cell R enter k env a)
    sim_cell k (TInt z) env rest ops s = sim_one R blocks (λ a. Running rest env (single a ∷ ops) ∷ s) (R.made (IntAtom z)) refl
    sim_cell k (TBool b) env rest ops s = sim_one R blocks (λ a. Running rest env (single a ∷ ops) ∷ s) (R.made (BoolAtom b)) refl
    sim_cell k (TChar c) env rest ops s = sim_one R blocks (λ a. Running rest env (single a ∷ ops) ∷ s) (R.made (CharAtom c)) refl
    sim_cell k (TPrim p None None) env rest ops s = sim_one R blocks (λ a. Running rest env (single a ∷ ops) ∷ s) (R.made (PrimAtom p false None)) refl
    sim_cell k (TPrim p us is) env rest ops s = sim_lost R blocks (Running (Prim p ∷ rest) env ops ∷ s) (λ a. Running rest env (single a ∷ ops) ∷ s)
    sim_cell k (TFn n t) env rest ops s = sim_one R blocks (λ a. Running rest env (single a ∷ ops) ∷ s) (R.made (Closure close.Fn k n env)) refl
    sim_cell k (TTypeFn n t) env rest ops s = sim_one R blocks (λ a. Running rest env (single a ∷ ops) ∷ s) (R.made (Closure close.TypeFn k 0 env)) refl
    sim_cell k (TIndexFn n t) env rest ops s = sim_one R blocks (λ a. Running rest env (single a ∷ ops) ∷ s) (R.made (Closure close.IndexFn k n env)) refl
    sim_cell k (TBoxed is t b) env rest ops s =
        sim_then R blocks (sim_term k t env (Box (each code_index is) ∷ rest) ops s)
        (λ v. sim_box env.indices (each code_index is) v (Running (Box (each code_index is) ∷ rest) env (v ∷ ops) ∷ s) s rest env ops refl)

    sim_cells : (k : ℕ) (xs : Cells erased) (env : Env V) (rest : List Instr) (ops : List (Arrayed V)) (s : State V)
        → Simulates R blocks (Running (cells_then k xs rest) env ops ∷ s) (λ vs. Running rest env (onto (each single vs) ops) ∷ s) (eval_cells R enter k env xs)
    sim_cells k no_cells env rest ops s = sim_give R blocks (Running rest env ops ∷ s) (λ vs. Running rest env (onto (each single vs) ops) ∷ s) [] refl
    sim_cells k (more_cells a xs) env rest ops s =
        sim_then R blocks (sim_cell k a env (cells_then (k + cell_opens a) xs rest) ops s)
        (λ v. sim_then R blocks (sim_cells (k + cell_opens a) xs env rest (single v ∷ ops) s)
        (λ vs. sim_give R blocks (Running rest env (onto (each single vs) (single v ∷ ops)) ∷ s) (λ vs. Running rest env (onto (each single vs) ops) ∷ s) (v ∷ vs) refl))
