-- Erased steps by machine steps, form by form: an ended term used at most 4*n erased steps, and one that goes on has done a machine step for each four of its budget.
use Rattle.std.proofs.Common.{ℕ, suc, ◌+◌, ◌≤◌, arith, Bool, true, false, List, [], ◌∷◌, ◌++◌, length, Option, Some, None}
use Rattle.std.specs.Prelude.{◌==◌, nat_lt, ◌^◌, slice_get}
use Rattle.core_syntax.specs.declared.errors.TrapKind.TheVariants as trap
use Rattle.core_syntax.specs.declared.errors.StuckKind.{StuckKind}
use Rattle.core_syntax.specs.Lists.{each, product, same_numbers}
use Rattle.core_syntax.specs.Fits.{forms, all_fit}
use Rattle.core_syntax.specs.Terms.{IndexValue, TVar, TDef, TArray, TNoAtoms, TFrame, TNoCells, TApp, TTypeApp, TIndexApp, TUnbox, Terms, no_terms, more_terms, Cell, TInt, TBool, TChar, TPrim, TFn, TTypeFn, TIndexFn, TBoxed, Cells, no_cells, more_cells}
use Rattle.core_syntax.specs.Arrays.{Arrayed, array, single, greatest, all_frames_are}
use Rattle.array_values.specs.declared.closure.CloseKind.TheVariants as close
use Rattle.machine_table.specs.declared.code.CodeIndex.{CodeIndex}
use Rattle.machine_table.specs.Values.{Env, IntAtom, BoolAtom, CharAtom, PrimAtom, Closure, BoxAtom, ValueRules, no_env, collapse, frames_of}
use Rattle.machine_table.specs.Indices.{shape_under, index_under, indices_fault, code_index}
use Rattle.machine_table.specs.Begins.{Place, Entry, Refuses, Enters, Answers, Faults, Folds, place_entry, apply_entry}
use Rattle.machine_table.specs.Instructions.{Begun, Fails, Halts, Pushes, Maps, app_begun, type_begun, index_begun, unbox_begun, empty_begun, frame_begun}
use Rattle.erasure.specs.Erased.{erased, ErasedTerm}
use Rattle.lowering.specs.Lower.{opens, cell_opens, all_base}
use Rattle.lowering.specs.Runs.{Comp, ◌then_run◌, give, tick, ticks, count, stop, lost, found}
use Rattle.lowering.specs.Evals.{base_atoms, array_val, map_ticks, lift_ticks, app_ticks_over, app_ticks_of, app_ticks, over_ticks, hand_val, hand_over, collapse_vals, box_val, entry_val, turn, turns, place_val, places_val, begun_val, frame_val, eval, eval_all, eval_cell, eval_cells}
use Rattle.lowering.proofs.counts.Credit.{Pays, pays_more, pays_give, pays_lost, pays_then, pays_count, pays_less, pays_tick, pays_step, pays_ticks, pays_trap, pays_one}

map_few : (F : List ℕ) → map_ticks F ≤ 1
map_few [] = omega arith
map_few (n ∷ F) = omega arith

over_few : {V : Type 0} (v : Arrayed V) → over_ticks v ≤ 2
over_few v = by (product (v.dims) == 0)
  where
    by : (b : Bool) → elim b as (λ b. ℕ) [ true ↦ 0 | false ↦ map_ticks (v.dims) ] ≤ 2
    by true = omega arith
    by false = let h = map_few (v.dims) in omega arith

lift_few : (frames : List (List ℕ)) (F : List ℕ) → lift_ticks frames F ≤ 2
lift_few frames [] = omega arith
lift_few frames (n ∷ F) = by (all_frames_are (n ∷ F) frames)
  where
    by : (b : Bool) → elim b as (λ b. ℕ) [ true ↦ 1 | false ↦ 2 ] ≤ 2
    by true = omega arith
    by false = omega arith

app_few : {V : Type 0} (cs : List (List ℕ)) (f : Arrayed V) (vs : List (Arrayed V)) → app_ticks cs f vs ≤ 2
app_few cs f vs = frames_by (frames_of cs vs)
  where
    cells_by : (frames : List (List ℕ)) (F : List ℕ) (big none : Bool) → elim big as (λ b. ℕ) [ true ↦ 0 | false ↦ elim none as (λ b. ℕ) [ true ↦ 0 | false ↦ lift_ticks frames F ] ] ≤ 2
    cells_by frames F true none = omega arith
    cells_by frames F false true = omega arith
    cells_by frames F false false = lift_few frames F

    frame_by : (frames : List (List ℕ)) (o : Option (List ℕ)) → app_ticks_over frames o ≤ 2
    frame_by frames None = omega arith
    frame_by frames (Some F) = cells_by frames F (nat_lt (2 ^ 24) (product F)) (product F == 0)

    frames_by : (o : Option (List (List ℕ))) → app_ticks_of f o ≤ 2
    frames_by None = omega arith
    frames_by (Some frames) = frame_by (f.dims ∷ frames) (greatest (f.dims ∷ frames))

module _ {V : Type 0} (R : ValueRules V) (K : ℕ) where
  pays_hand : (F : List ℕ) (vs : List (Arrayed V)) (v : Arrayed V) → Pays (suc K) 0 3 (hand_val F vs v)
  pays_hand [] [] v = by (forms (v.dims))
    where
      by : (b : Bool) → Pays (suc K) 0 3 (elim b as (λ b. Comp (Arrayed V)) [ true ↦ count 1 (give v) | false ↦ lost ])
      by true = pays_one (suc K) 0 v
      by false = pays_lost (suc K) 0 3
  pays_hand (n ∷ F) [] v = by (forms ((n ∷ F) ++ v.dims))
    where
      by : (b : Bool) → Pays (suc K) 0 3 (elim b as (λ b. Comp (Arrayed V)) [ true ↦ count 1 (give v) | false ↦ tick (count 1 (stop trap.Size)) ])
      by true = pays_one (suc K) 0 v
      by false = pays_trap K 0 3 trap.Size
  pays_hand F (w ∷ ws) v = by (same_numbers (w.dims) (v.dims))
    where
      by : (b : Bool) → Pays (suc K) 0 3 (elim b as (λ b. Comp (Arrayed V)) [ true ↦ count 1 (give v) | false ↦ lost ])
      by true = pays_one (suc K) 0 v
      by false = pays_lost (suc K) 0 3

  pays_collapse : (F : List ℕ) (vs : List (Arrayed V)) → Pays (suc K) 1 3 (collapse_vals F vs)
  pays_collapse F [] = pays_lost (suc K) 1 3
  pays_collapse F (v ∷ vs) = let few = map_few F in pays_more (suc K) 1 3 (pays_ticks K 0 (map_ticks F) (pays_one (suc K) 0 (collapse F v vs))) (omega arith) (omega arith)

  pays_box : (is : List IndexValue) (js : List CodeIndex) (v : Arrayed V) → Pays (suc K) 3 3 (box_val R is js v)
  pays_box is js v = by (indices_fault is js) (all_fit (each (index_under is) js))
    where
      by : (o : Option StuckKind) (b : Bool) → Pays (suc K) 3 3
          (elim o as (λ o. Comp V) [ Some k ↦ lost | None ↦ elim b as (λ b. Comp V) [ true ↦ count 1 (give (R.made (BoxAtom (each (index_under is) js) v))) | false ↦ tick (count 1 (stop trap.Size)) ] ])
      by (Some k) b = pays_lost (suc K) 3 3
      by None true = pays_one (suc K) 3 (R.made (BoxAtom (each (index_under is) js) v))
      by None false = pays_trap K 3 3 trap.Size

  pays_array : (dims : List ℕ) (xs : Cells erased) (vs : List V) → Pays (suc K) 3 3 (array_val dims xs vs)
  pays_array dims xs vs = pick dims xs vs
    where
      many : (dims : List ℕ) (vs : List V) (b : Bool) → Pays (suc K) 3 3 (elim b as (λ b. Comp (Arrayed V)) [ true ↦ count 1 (give (array dims vs)) | false ↦ lost ])
      many dims vs true = pays_one (suc K) 3 (array dims vs)
      many dims vs false = pays_lost (suc K) 3 3

      pick : (dims : List ℕ) (xs : Cells erased) (vs : List V) → Pays (suc K) 3 3 (array_val dims xs vs)
      pick [] (more_cells a no_cells) [] = pays_lost (suc K) 3 3
      pick [] (more_cells a no_cells) (v ∷ []) = pays_give (suc K) 3 (single v)
      pick [] (more_cells a no_cells) (v ∷ w ∷ vs) = pays_lost (suc K) 3 3
      pick [] no_cells vs = many [] vs (product [] == length vs)
      pick [] (more_cells a (more_cells b xs)) vs = many [] vs (product [] == length vs)
      pick (n ∷ dims) xs vs = many (n ∷ dims) vs (product (n ∷ dims) == length vs)

  module _ (enter : Env V → ℕ → Comp (Arrayed V)) (body : (env : Env V) (b : ℕ) → Pays K 0 3 (enter env b)) where
    pays_entry : (fold : V → Arrayed V → List (Arrayed V) → Comp (Arrayed V)) (hand : Arrayed V → Comp (Arrayed V)) → ((v : Arrayed V) → Pays (suc K) 0 3 (hand v)) → ((f : V) (acc : Arrayed V) (xs : List (Arrayed V)) → Pays (suc K) 1 3 (fold f acc xs))
        → (x : Entry V) → Pays (suc K) 1 3 (entry_val R enter fold hand x)
    pays_entry fold hand hands folds (Refuses k) = pays_lost (suc K) 1 3
    pays_entry fold hand hands folds (Enters env b) =
        pays_step K 1 (pays_then K (pays_more K 4 3 (body env b) (omega arith) (omega arith)) (λ v. pays_more K 3 3 (pays_less K (hands v) (omega arith)) (omega arith) (omega arith)))
    pays_entry fold hand hands folds (Answers v) = pays_tick K 0 (pays_less K (hands v) (omega arith))
    pays_entry fold hand hands folds (Faults k) = pays_trap K 1 3 k
    pays_entry fold hand hands folds (Folds f acc xs) = pays_step K 1 (pays_more K 4 3 (pays_less K (folds f acc xs) (omega arith)) (omega arith) (omega arith))

    pays_turn : (f : V) (acc x : Arrayed V) → Pays (suc K) 1 3 (turn R enter f acc x)
    pays_turn f acc x = pays_entry (λ f acc xs. lost) hand_over (λ v. pays_one (suc K) 0 v) (λ f acc xs. pays_lost (suc K) 1 3) (apply_entry R f (acc ∷ x ∷ []))

    pays_turns : (hand : Arrayed V → Comp (Arrayed V)) → ((v : Arrayed V) → Pays (suc K) 0 3 (hand v)) → (f : V) (acc : Arrayed V) (xs : List (Arrayed V)) → Pays (suc K) 1 3 (turns R enter hand f acc xs)
    pays_turns hand hands f acc [] = pays_more (suc K) 1 3 (hands acc) (omega arith) (omega arith)
    pays_turns hand hands f acc (x ∷ xs) = pays_then (suc K) (pays_turn f acc x) (λ v. pays_more (suc K) 3 3 (pays_turns hand hands f v xs) (omega arith) (omega arith))

    pays_place : (hand : Arrayed V → Comp (Arrayed V)) → ((v : Arrayed V) → Pays (suc K) 0 3 (hand v)) → (p : Place V) → Pays (suc K) 1 3 (place_val R enter hand p)
    pays_place hand hands p = pays_entry (turns R enter hand) hand hands (pays_turns hand hands) (place_entry R p)

    pays_places : (F : List ℕ) (vs : List (Arrayed V)) (ps : List (Place V)) → Pays (suc K) 1 3 (places_val R enter F vs ps)
    pays_places F vs [] = pays_collapse F vs
    pays_places F vs (p ∷ ps) = pays_then (suc K) (pays_place (hand_val F vs) (pays_hand F vs) p) (λ v. pays_more (suc K) 3 3 (pays_places F (vs ++ v ∷ []) ps) (omega arith) (omega arith))

    pays_begun : (s : ℕ) (x : Begun V) → Pays (suc K) s 3 (begun_val R enter x)
    pays_begun s (Fails k) = pays_lost (suc K) s 3
    pays_begun s (Halts k) = pays_trap K s 3 k
    pays_begun s (Pushes v) = pays_step K s (pays_more K (s + 3) 3 (pays_give K (s + 3) v) (omega arith) (omega arith))
    pays_begun s (Maps F ps) = pays_count (suc K) s (pays_more (suc K) (s + 4) 3 (pays_places F [] ps) (omega arith) (omega arith))

    pays_over : (k : ℕ) (x : Begun V) → k ≤ 2 → Pays (suc K) 3 3 (ticks k (begun_val R enter x))
    pays_over k x le = pays_more (suc K) 3 3 (pays_ticks K 0 k (pays_begun 0 x)) (omega arith) (omega arith)

    pays_where : (b : Bool) (m : Comp (Arrayed V)) → Pays (suc K) 3 3 m → Pays (suc K) 3 3 (elim b as (λ b. Comp (Arrayed V)) [ true ↦ m | false ↦ lost ])
    pays_where true m h = h
    pays_where false m h = pays_lost (suc K) 3 3

    mutual
      -- a term leaves three paid for what follows
      pub pays_term : (k : ℕ) (t : ErasedTerm) (env : Env V) → Pays (suc K) 0 3 (eval R enter k env t)
      pays_term k (TVar j) env = by (slice_get env.arrays j)
        where
          by : (o : Option (Arrayed V)) → Pays (suc K) 0 3 (found o then_run (λ v. count 1 (give v)))
          by None = pays_then (suc K) (pays_lost (suc K) 0 0) (λ v. pays_one (suc K) 0 v)
          by (Some v) = pays_then (suc K) (pays_give (suc K) 0 v) (λ v. pays_one (suc K) 0 v)
      pays_term k (TDef j) env = pays_step K 0 (pays_then K (pays_more K 3 3 (body no_env (suc j)) (omega arith) (omega arith)) (λ v. pays_one K 3 v))
      pays_term k (TArray dims no_cells) env = pays_lost (suc K) 0 3
      pays_term k (TArray dims (more_cells a xs)) env = by (all_base (more_cells a xs)) (pays_cell k a env) (pays_cells (k + cell_opens a) xs env)
        where
          by : (b : Bool) → Pays (suc K) 0 3 (eval_cell R enter k env a) → Pays (suc K) 3 3 (eval_cells R enter (k + cell_opens a) env xs)
              → Pays (suc K) 0 3 (elim b as (λ b. Comp (Arrayed V)) [ true ↦ count 1 (give (array dims (base_atoms R (more_cells a xs)))) | false ↦ eval_cells R enter k env (more_cells a xs) then_run array_val dims (more_cells a xs) ])
          by true h i = pays_one (suc K) 0 (array dims (base_atoms R (more_cells a xs)))
          by false h i = pays_then (suc K) (pays_then (suc K) h (λ v. pays_then (suc K) i (λ vs. pays_give (suc K) 3 (v ∷ vs)))) (pays_array dims (more_cells a xs))
      pays_term k (TNoAtoms dims a) env = pays_one (suc K) 0 (array dims [])
      pays_term k (TFrame dims no_terms a) env = pays_lost (suc K) 0 3
      pays_term k (TFrame dims (more_terms t ts) a) env =
          pays_then (suc K) (pays_term k t env) (λ v. room v (forms (dims ++ v.dims)) (pays_terms (k + opens t) ts env))
        where
          room : (v : Arrayed V) (b : Bool) → Pays (suc K) 3 3 (eval_all R enter (k + opens t) env ts)
              → Pays (suc K) 3 3
              (elim b as (λ b. Comp (Arrayed V)) [ true ↦ count 1 (eval_all R enter (k + opens t) env ts then_run (λ vs. frame_val R enter dims (v ∷ vs))) | false ↦ tick (count 1 (stop trap.Size)) ])
          room v true h =
              pays_count (suc K) 3
              (pays_then (suc K) (pays_more (suc K) 7 3 h (omega arith) (omega arith))
              (λ vs. pays_where (product dims == length (v ∷ vs)) (begun_val R enter (frame_begun dims (v ∷ vs))) (pays_begun 3 (frame_begun dims (v ∷ vs)))))
          room v false h = pays_trap K 3 3 trap.Size
      pays_term k (TNoCells w) env = pays_begun 0 (empty_begun env.indices w)
      pays_term k (TApp f ts cs r) env =
          pays_then (suc K) (pays_term k f env) (λ g. pays_then (suc K) (pays_terms (k + opens f) ts env)
          (λ vs. pays_where (length cs == length vs) (ticks (app_ticks (each (shape_under env.indices) cs) g vs) (begun_val R enter (app_begun env.indices cs r g vs)))
          (pays_over (app_ticks (each (shape_under env.indices) cs) g vs) (app_begun env.indices cs r g vs) (app_few (each (shape_under env.indices) cs) g vs))))
      pays_term k (TTypeApp t us r) env = pays_then (suc K) (pays_term k t env) (λ v. pays_over (over_ticks v) (type_begun env.indices v r) (over_few v))
      pays_term k (TIndexApp t is r) env = pays_then (suc K) (pays_term k t env) (λ v. pays_over (over_ticks v) (index_begun env.indices v (each code_index is) r) (over_few v))
      pays_term k (TUnbox n t b r) env = pays_then (suc K) (pays_term (suc k) t env) (λ v. pays_over (over_ticks v) (unbox_begun env v k n r) (over_few v))

      pays_terms : (k : ℕ) (ts : Terms erased) (env : Env V) → Pays (suc K) 3 3 (eval_all R enter k env ts)
      pays_terms k no_terms env = pays_give (suc K) 3 []
      pays_terms k (more_terms t ts) env =
          pays_then (suc K) (pays_more (suc K) 3 3 (pays_term k t env) (omega arith) (omega arith)) (λ v. pays_then (suc K) (pays_terms (k + opens t) ts env) (λ vs. pays_give (suc K) 3 (v ∷ vs)))

      pays_cell : (k : ℕ) (a : Cell erased) (env : Env V) → Pays (suc K) 0 3 (eval_cell R enter k env a)
      pays_cell k (TInt z) env = pays_one (suc K) 0 (R.made (IntAtom z))
      pays_cell k (TBool b) env = pays_one (suc K) 0 (R.made (BoolAtom b))
      pays_cell k (TChar c) env = pays_one (suc K) 0 (R.made (CharAtom c))
      pays_cell k (TPrim p None None) env = pays_one (suc K) 0 (R.made (PrimAtom p false None))
      pays_cell k (TPrim p us is) env = pays_lost (suc K) 0 3
      pays_cell k (TFn n t) env = pays_one (suc K) 0 (R.made (Closure close.Fn k n env))
      pays_cell k (TTypeFn n t) env = pays_one (suc K) 0 (R.made (Closure close.TypeFn k 0 env))
      pays_cell k (TIndexFn n t) env = pays_one (suc K) 0 (R.made (Closure close.IndexFn k n env))
      pays_cell k (TBoxed is t b) env = pays_then (suc K) (pays_term k t env) (λ v. pays_box env.indices (each code_index is) v)

      pays_cells : (k : ℕ) (xs : Cells erased) (env : Env V) → Pays (suc K) 3 3 (eval_cells R enter k env xs)
      pays_cells k no_cells env = pays_give (suc K) 3 []
      pays_cells k (more_cells a xs) env =
          pays_then (suc K) (pays_more (suc K) 3 3 (pays_cell k a env) (omega arith) (omega arith)) (λ v. pays_then (suc K) (pays_cells (k + cell_opens a) xs env) (λ vs. pays_give (suc K) 3 (v ∷ vs)))
