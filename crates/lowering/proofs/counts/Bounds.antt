-- The bound on machine steps, form by form: an ended term took at most 8*(m + S*used) machine steps, where m is the number of its nodes.
use Rattle.std.proofs.Common.{ℕ, suc, ◌+◌, ◌-◌, ◌*◌, ◌≤◌, arith, Bool, true, false, List, [], ◌∷◌, ◌++◌, length, Option, Some, None}
use Rattle.std.specs.Prelude.{◌==◌, slice_get}
use Rattle.core_syntax.specs.declared.errors.TrapKind.TheVariants as trap
use Rattle.core_syntax.specs.declared.errors.StuckKind.{StuckKind}
use Rattle.core_syntax.specs.Lists.{each, product, same_numbers}
use Rattle.core_syntax.specs.Fits.{forms, all_fit}
use Rattle.core_syntax.specs.Terms.{IndexValue, TVar, TDef, TArray, TNoAtoms, TFrame, TNoCells, TApp, TTypeApp, TIndexApp, TUnbox, Terms, no_terms, more_terms, Cell, TInt, TBool, TChar, TPrim, TFn, TTypeFn, TIndexFn, TBoxed, Cells, no_cells, more_cells}
use Rattle.core_syntax.specs.Arrays.{Arrayed, array, single}
use Rattle.array_values.specs.declared.closure.CloseKind.TheVariants as close
use Rattle.machine_table.specs.declared.code.CodeIndex.{CodeIndex}
use Rattle.machine_table.specs.Values.{Env, IntAtom, BoolAtom, CharAtom, PrimAtom, Closure, BoxAtom, ValueRules, no_env, collapse}
use Rattle.machine_table.specs.Indices.{shape_under, index_under, indices_fault, code_index}
use Rattle.machine_table.specs.Begins.{Place, Entry, Refuses, Enters, Answers, Faults, Folds, place_entry, apply_entry}
use Rattle.machine_table.specs.Instructions.{Begun, Fails, Halts, Pushes, Maps, app_begun, type_begun, index_begun, unbox_begun, empty_begun, frame_begun}
use Rattle.erasure.specs.Erased.{erased, ErasedTerm}
use Rattle.lowering.specs.Lower.{opens, cell_opens, all_base}
use Rattle.lowering.specs.Runs.{Comp, ◌then_run◌, give, tick, ticks, count, stop, lost, found}
use Rattle.lowering.specs.Evals.{base_atoms, base_val, array_val, map_ticks, app_ticks, over_ticks, hand_val, hand_over, collapse_vals, box_val, entry_val, turn, turns, place_val, places_val, begun_val, frame_val, eval, eval_all, eval_cell, eval_cells}
use Rattle.erasure.specs.TermNodes.{term_nodes, terms_nodes, cell_nodes, cells_nodes}
use Rattle.lowering.proofs.counts.Bound.{Bounded, bounded_le, bounded_then, bounded_count, bounded_tick, bounded_ticks, bounded_give, bounded_lost, bounded_one, bounded_trap}

module _ {V : Type 0} (R : ValueRules V) (S : ℕ) (some : 1 ≤ S) where
  bounded_found : {A : Type 0} (o : Option A) → Bounded S some 0 (found o)
  bounded_found None = bounded_lost S some 0
  bounded_found (Some a) = bounded_give S some 0 a

  bounded_hand : (F : List ℕ) (vs : List (Arrayed V)) (v : Arrayed V) → Bounded S some 1 (hand_val F vs v)
  bounded_hand [] [] v = by (forms (v.dims))
    where
      by : (b : Bool) → Bounded S some 1 (elim b as (λ b. Comp (Arrayed V)) [ true ↦ count 1 (give v) | false ↦ lost ])
      by true = bounded_one S some v
      by false = bounded_lost S some 1
  bounded_hand (n ∷ F) [] v = by (forms ((n ∷ F) ++ v.dims))
    where
      by : (b : Bool) → Bounded S some 1 (elim b as (λ b. Comp (Arrayed V)) [ true ↦ count 1 (give v) | false ↦ tick (count 1 (stop trap.Size)) ])
      by true = bounded_one S some v
      by false = bounded_trap S some 1 trap.Size
  bounded_hand F (w ∷ ws) v = by (same_numbers (w.dims) (v.dims))
    where
      by : (b : Bool) → Bounded S some 1 (elim b as (λ b. Comp (Arrayed V)) [ true ↦ count 1 (give v) | false ↦ lost ])
      by true = bounded_one S some v
      by false = bounded_lost S some 1

  bounded_collapse : (F : List ℕ) (vs : List (Arrayed V)) → Bounded S some 1 (collapse_vals F vs)
  bounded_collapse F [] = bounded_lost S some 1
  bounded_collapse F (v ∷ vs) = bounded_ticks S some 1 (map_ticks F) (bounded_one S some (collapse F v vs)) (omega arith)

  bounded_box : (is : List IndexValue) (js : List CodeIndex) (v : Arrayed V) → Bounded S some 1 (box_val R is js v)
  bounded_box is js v = by (indices_fault is js) (all_fit (each (index_under is) js))
    where
      by : (o : Option StuckKind) (b : Bool) → Bounded S some 1
          (elim o as (λ o. Comp V) [
            | Some k ↦ lost
            | None ↦ elim b as (λ b. Comp V) [ true ↦ count 1 (give (R.made (BoxAtom (each (index_under is) js) v))) | false ↦ tick (count 1 (stop trap.Size)) ]
          ])
      by (Some k) b = bounded_lost S some 1
      by None true = bounded_one S some (R.made (BoxAtom (each (index_under is) js) v))
      by None false = bounded_trap S some 1 trap.Size

  bounded_base : (dims : List ℕ) (xs : Cells erased) → Bounded S some 1 (base_val R dims xs)
  bounded_base dims no_cells = bounded_lost S some 1
  bounded_base dims (more_cells a xs) = bounded_one S some (array dims (base_atoms R (more_cells a xs)))

  bounded_array : (dims : List ℕ) (xs : Cells erased) (vs : List V) → Bounded S some 1 (array_val dims xs vs)
  bounded_array dims xs vs = pick dims xs vs
    where
      many : (dims : List ℕ) (vs : List V) (b : Bool) → Bounded S some 1 (elim b as (λ b. Comp (Arrayed V)) [ true ↦ count 1 (give (array dims vs)) | false ↦ lost ])
      many dims vs true = bounded_one S some (array dims vs)
      many dims vs false = bounded_lost S some 1

      pick : (dims : List ℕ) (xs : Cells erased) (vs : List V) → Bounded S some 1 (array_val dims xs vs)
      pick [] (more_cells a no_cells) [] = bounded_lost S some 1
      pick [] (more_cells a no_cells) (v ∷ []) = bounded_give S some 1 (single v)
      pick [] (more_cells a no_cells) (v ∷ w ∷ vs) = bounded_lost S some 1
      pick [] no_cells vs = many [] vs (product [] == length vs)
      pick [] (more_cells a (more_cells b xs)) vs = many [] vs (product [] == length vs)
      pick (n ∷ dims) xs vs = many (n ∷ dims) vs (product (n ∷ dims) == length vs)

  module _ (enter : Env V → ℕ → Comp (Arrayed V)) (body : (env : Env V) (b : ℕ) → Bounded S some (8 * (S - 1)) (enter env b)) where
    -- an entry costs nothing beyond its erased step
    bounded_entry : (fold : V → Arrayed V → List (Arrayed V) → Comp (Arrayed V)) (hand : Arrayed V → Comp (Arrayed V)) → ((v : Arrayed V) → Bounded S some 1 (hand v)) → ((f : V) (acc : Arrayed V) (xs : List (Arrayed V)) → Bounded S some 1 (fold f acc xs))
        → (x : Entry V) → Bounded S some 0 (entry_val R enter fold hand x)
    bounded_entry fold hand hands folds (Refuses k) = bounded_lost S some 0
    bounded_entry fold hand hands folds (Enters env b) = bounded_tick S some (bounded_count S some (bounded_then S some (body env b) hands)) (omega arith)
    bounded_entry fold hand hands folds (Answers v) = bounded_tick S some (hands v) (omega arith)
    bounded_entry fold hand hands folds (Faults k) = bounded_trap S some 0 k
    bounded_entry fold hand hands folds (Folds f acc xs) = bounded_tick S some (bounded_count S some (folds f acc xs)) (omega arith)

    bounded_turn : (f : V) (acc x : Arrayed V) → Bounded S some 0 (turn R enter f acc x)
    bounded_turn f acc x = bounded_entry (λ f acc xs. lost) hand_over (λ v. bounded_one S some v) (λ f acc xs. bounded_lost S some 1) (apply_entry R f (acc ∷ x ∷ []))

    bounded_turns : (hand : Arrayed V → Comp (Arrayed V)) → ((v : Arrayed V) → Bounded S some 1 (hand v)) → (f : V) (acc : Arrayed V) (xs : List (Arrayed V)) → Bounded S some 1 (turns R enter hand f acc xs)
    bounded_turns hand hands f acc [] = hands acc
    bounded_turns hand hands f acc (x ∷ xs) = bounded_le S some 1 (bounded_then S some (bounded_turn f acc x) (λ v. bounded_turns hand hands f v xs)) (omega arith)

    bounded_place : (hand : Arrayed V → Comp (Arrayed V)) → ((v : Arrayed V) → Bounded S some 1 (hand v)) → (p : Place V) → Bounded S some 0 (place_val R enter hand p)
    bounded_place hand hands p = bounded_entry (turns R enter hand) hand hands (bounded_turns hand hands) (place_entry R p)

    bounded_places : (F : List ℕ) (vs : List (Arrayed V)) (ps : List (Place V)) → Bounded S some 1 (places_val R enter F vs ps)
    bounded_places F vs [] = bounded_collapse F vs
    bounded_places F vs (p ∷ ps) = bounded_le S some 1 (bounded_then S some (bounded_place (hand_val F vs) (bounded_hand F vs) p) (λ v. bounded_places F (vs ++ v ∷ []) ps)) (omega arith)

    bounded_begun : (x : Begun V) → Bounded S some 2 (begun_val R enter x)
    bounded_begun (Fails k) = bounded_lost S some 2
    bounded_begun (Halts k) = bounded_trap S some 2 k
    bounded_begun (Pushes v) = bounded_le S some 2 (bounded_tick S some (bounded_one S some v) (omega arith)) (omega arith)
    bounded_begun (Maps F ps) = bounded_count S some (bounded_places F [] ps)

    bounded_over : (k : ℕ) (x : Begun V) → Bounded S some 2 (ticks k (begun_val R enter x))
    bounded_over k x = bounded_ticks S some 2 k (bounded_begun x) (omega arith)

    bounded_where : (b : Bool) (m : Comp (Arrayed V)) → Bounded S some 2 m → Bounded S some 2 (elim b as (λ b. Comp (Arrayed V)) [ true ↦ m | false ↦ lost ])
    bounded_where true m h = h
    bounded_where false m h = bounded_lost S some 2

    mutual
      -- a term costs 8 for each of its nodes, beyond what its erased steps pay
      pub bounded_term : (k : ℕ) (t : ErasedTerm) (env : Env V) → Bounded S some (8 * term_nodes t) (eval R enter k env t)
      bounded_term k (TVar j) env = bounded_le S some 8 (bounded_then S some (bounded_found (slice_get env.arrays j)) (λ v. bounded_one S some v)) (omega arith)
      bounded_term k (TDef j) env = bounded_le S some 8 (bounded_tick S some (bounded_count S some (bounded_then S some (body no_env (suc j)) (λ v. bounded_one S some v))) (omega arith)) (omega arith)
      bounded_term k (TArray dims xs) env = by (all_base xs) (bounded_cells k xs env)
        where
          by : (b : Bool) → Bounded S some (8 * cells_nodes xs) (eval_cells R enter k env xs) → Bounded S some (8 * (1 + cells_nodes xs)) (elim b as (λ b. Comp (Arrayed V)) [ true ↦ base_val R dims xs | false ↦ eval_cells R enter k env xs then_run array_val dims xs ])
          by true h = bounded_le S some (8 * (1 + cells_nodes xs)) (bounded_base dims xs) (omega arith)
          by false h = bounded_le S some (8 * (1 + cells_nodes xs)) (bounded_then S some h (bounded_array dims xs)) (omega arith)
      bounded_term k (TNoAtoms dims a) env = bounded_le S some 8 (bounded_one S some (array dims [])) (omega arith)
      bounded_term k (TFrame dims no_terms a) env = bounded_lost S some (8 * (1 + 0))
      bounded_term k (TFrame dims (more_terms t ts) a) env =
          bounded_le S some (8 * (1 + (term_nodes t + terms_nodes ts)))
          (bounded_then S some (bounded_term k t env) (λ v. room v (forms (dims ++ v.dims)) (bounded_terms (k + opens t) ts env))) (omega arith)
        where
          room : (v : Arrayed V) (b : Bool) → Bounded S some (8 * terms_nodes ts) (eval_all R enter (k + opens t) env ts)
              → Bounded S some (8 * terms_nodes ts + 3)
              (elim b as (λ b. Comp (Arrayed V)) [ true ↦ count 1 (eval_all R enter (k + opens t) env ts then_run (λ vs. frame_val R enter dims (v ∷ vs))) | false ↦ tick (count 1 (stop trap.Size)) ])
          room v true h =
              bounded_le S some (8 * terms_nodes ts + 3)
              (bounded_count S some (bounded_then S some h (λ vs. bounded_where (product dims == length (v ∷ vs)) (begun_val R enter (frame_begun dims (v ∷ vs))) (bounded_begun (frame_begun dims (v ∷ vs)))))) (omega arith)
          room v false h = bounded_trap S some (8 * terms_nodes ts + 3) trap.Size
      bounded_term k (TNoCells w) env = bounded_le S some 8 (bounded_begun (empty_begun env.indices w)) (omega arith)
      bounded_term k (TApp f ts cs r) env =
          bounded_le S some (8 * (1 + (term_nodes f + terms_nodes ts)))
          (bounded_then S some (bounded_term k f env) (λ g. bounded_then S some (bounded_terms (k + opens f) ts env)
          (λ vs. bounded_where (length cs == length vs) (ticks (app_ticks (each (shape_under env.indices) cs) g vs) (begun_val R enter (app_begun env.indices cs r g vs)))
          (bounded_over (app_ticks (each (shape_under env.indices) cs) g vs) (app_begun env.indices cs r g vs))))) (omega arith)
      bounded_term k (TTypeApp t us r) env =
          bounded_le S some (8 * (1 + term_nodes t)) (bounded_then S some (bounded_term k t env) (λ v. bounded_over (over_ticks v) (type_begun env.indices v r))) (omega arith)
      bounded_term k (TIndexApp t is r) env =
          bounded_le S some (8 * (1 + term_nodes t)) (bounded_then S some (bounded_term k t env) (λ v. bounded_over (over_ticks v) (index_begun env.indices v (each code_index is) r))) (omega arith)
      bounded_term k (TUnbox n t b r) env =
          bounded_le S some (8 * (1 + (term_nodes t + term_nodes b))) (bounded_then S some (bounded_term (suc k) t env) (λ v. bounded_over (over_ticks v) (unbox_begun env v k n r))) (omega arith)

      bounded_terms : (k : ℕ) (ts : Terms erased) (env : Env V) → Bounded S some (8 * terms_nodes ts) (eval_all R enter k env ts)
      bounded_terms k no_terms env = bounded_give S some 0 []
      bounded_terms k (more_terms t ts) env =
          bounded_le S some (8 * (term_nodes t + terms_nodes ts))
          (bounded_then S some (bounded_term k t env) (λ v. bounded_then S some (bounded_terms (k + opens t) ts env) (λ vs. bounded_give S some 0 (v ∷ vs)))) (omega arith)

      bounded_cell : (k : ℕ) (a : Cell erased) (env : Env V) → Bounded S some (8 * cell_nodes a) (eval_cell R enter k env a)
      bounded_cell k (TInt z) env = bounded_le S some 8 (bounded_one S some (R.made (IntAtom z))) (omega arith)
      bounded_cell k (TBool b) env = bounded_le S some 8 (bounded_one S some (R.made (BoolAtom b))) (omega arith)
      bounded_cell k (TChar c) env = bounded_le S some 8 (bounded_one S some (R.made (CharAtom c))) (omega arith)
      bounded_cell k (TPrim p None None) env = bounded_le S some 8 (bounded_one S some (R.made (PrimAtom p false None))) (omega arith)
      bounded_cell k (TPrim p us is) env = bounded_lost S some 8
      bounded_cell k (TFn n t) env = bounded_le S some (8 * (1 + term_nodes t)) (bounded_one S some (R.made (Closure close.Fn k n env))) (omega arith)
      bounded_cell k (TTypeFn n t) env = bounded_le S some (8 * (1 + term_nodes t)) (bounded_one S some (R.made (Closure close.TypeFn k 0 env))) (omega arith)
      bounded_cell k (TIndexFn n t) env = bounded_le S some (8 * (1 + term_nodes t)) (bounded_one S some (R.made (Closure close.IndexFn k n env))) (omega arith)
      bounded_cell k (TBoxed is t b) env =
          bounded_le S some (8 * (1 + term_nodes t)) (bounded_then S some (bounded_term k t env) (λ v. bounded_box env.indices (each code_index is) v)) (omega arith)

      bounded_cells : (k : ℕ) (xs : Cells erased) (env : Env V) → Bounded S some (8 * cells_nodes xs) (eval_cells R enter k env xs)
      bounded_cells k no_cells env = bounded_give S some 0 []
      bounded_cells k (more_cells a xs) env =
          bounded_le S some (8 * (cell_nodes a + cells_nodes xs))
          (bounded_then S some (bounded_cell k a env) (λ v. bounded_then S some (bounded_cells (k + cell_opens a) xs env) (λ vs. bounded_give S some 0 (v ∷ vs)))) (omega arith)
