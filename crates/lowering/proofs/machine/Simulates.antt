-- The machine follows what an entry, a frame's places, a fold's turns and an instruction come to.
use Rattle.std.proofs.Common.{◌≡◌, refl, sym, ap, subst, ◌∙◌, ℕ, Bool, true, false, List, [], ◌∷◌, ◌++◌, Option, Some, None}
use Rattle.std.specs.Prelude.{slice_get}
use Rattle.core_syntax.specs.declared.errors.TrapKind.TheVariants as trap
use Rattle.core_syntax.specs.declared.errors.StuckKind.TheVariants as stuck
use Rattle.core_syntax.specs.Lists.{same_numbers}
use Rattle.core_syntax.specs.Fits.{forms}
use Rattle.core_syntax.specs.Arrays.{Arrayed}
use Rattle.machine_table.specs.declared.code.Instr.{Instr}
use Rattle.machine_table.specs.declared.code.Block.{Block}
use Rattle.machine_table.specs.Values.{Env, ValueRules, collapse}
use Rattle.machine_table.specs.Begins.{Place, Entry, Refuses, Enters, Answers, Faults, Folds, place_entry, apply_entry}
use Rattle.machine_table.specs.Instructions.{Begun, Fails, Halts, Pushes, Maps}
use Rattle.machine_table.specs.Machine.{State, Running, Mapping, Folding, Next, Goes, Stops, Trap, Stuck, hand, enter_block, begin, begun, end_map, step}
use Rattle.lowering.specs.Runs as runs
use Rattle.lowering.specs.Runs.{Comp, behind, go_on, ◌then_run◌, give, tick, count, stop, lost}
use Rattle.lowering.specs.Evals.{map_ticks, hand_val, hand_over, collapse_vals, entry_val, turn, turns, place_val, places_val, begun_val}
use Rattle.lowering.proofs.machine.Follows.{Follows, Simulates, sim_lost, sim_tick, sim_ticks, sim_count, sim_one, sim_stop, sim_then}

module _ {V : Type 0} (R : ValueRules V) (blocks : List Block) (enter : Env V → ℕ → Comp (Arrayed V)) where
  -- R blocks that are entered run as `enter` says, and are lost where the code doesn't have them
  pub record EntersWell : Type 0 where
    pub known : (env : Env V) (b : ℕ) (is : Block) → slice_get blocks b ≡ Some is → (s : State V) → Simulates R blocks (Running is.steps env [] ∷ s) (λ v. Running [] env (v ∷ []) ∷ s) (enter env b)
    pub missing : (env : Env V) (b : ℕ) → slice_get blocks b ≡ None → (budget : ℕ) → enter env b budget ≡ runs.Lost

  -- the machine follows what hands a result over to s
  abbrev pub Hands : State V → (Arrayed V → State V) → (Arrayed V → Comp (Arrayed V)) → Type 0
  Hands s K h = (v : Arrayed V) (t : State V) → step R blocks t ≡ hand v s → Simulates R blocks t K (h v)

  hands_over : (s : State V) (K : Arrayed V → State V) → ((v : Arrayed V) → hand v s ≡ Goes (K v)) → Hands s K hand_over
  hands_over s K h v t e = sim_one R blocks K v (e ∙ h v)

  -- a result that reaches a frame
  hands_map : (F : List ℕ) (vs : List (Arrayed V)) (ps : List (Place V)) (s : State V) → Hands (Mapping F vs ps ∷ s) (λ v. Mapping F (vs ++ v ∷ []) ps ∷ s) (hand_val F vs)
  hands_map [] [] ps s v t e = go (forms (v.dims)) e
    where
      go : (b : Bool) → step R blocks t ≡ elim b as (λ b. Next V) [ true ↦ Goes (Mapping [] (v ∷ []) ps ∷ s) | false ↦ Stops (Trap trap.Size) ] → Simulates R blocks t (λ v. Mapping [] (v ∷ []) ps ∷ s) (elim b as (λ b. Comp (Arrayed V)) [ true ↦ count 1 (give v) | false ↦ lost ])
      go true e = sim_one R blocks (λ v. Mapping [] (v ∷ []) ps ∷ s) v e
      go false e = sim_lost R blocks t (λ v. Mapping [] (v ∷ []) ps ∷ s)
  hands_map (n ∷ F) [] ps s v t e = go (forms ((n ∷ F) ++ v.dims)) e
    where
      K : Arrayed V → State V
      K v = Mapping (n ∷ F) (v ∷ []) ps ∷ s

      go : (b : Bool) → step R blocks t ≡ elim b as (λ b. Next V) [ true ↦ Goes (Mapping (n ∷ F) (v ∷ []) ps ∷ s) | false ↦ Stops (Trap trap.Size) ] → Simulates R blocks t (λ v. Mapping (n ∷ F) (v ∷ []) ps ∷ s) (elim b as (λ b. Comp (Arrayed V)) [ true ↦ count 1 (give v) | false ↦ tick (count 1 (stop trap.Size)) ])
      go true e = sim_one R blocks (λ v. Mapping (n ∷ F) (v ∷ []) ps ∷ s) v e
      go false e = sim_tick R blocks (sim_stop R blocks (λ v. Mapping (n ∷ F) (v ∷ []) ps ∷ s) trap.Size e)
  hands_map F (w ∷ ws) ps s v t e = go (same_numbers (w.dims) (v.dims)) e
    where
      go : (b : Bool) → step R blocks t ≡ elim b as (λ b. Next V) [ true ↦ Goes (Mapping F (w ∷ (ws ++ v ∷ [])) ps ∷ s) | false ↦ Stops (Stuck stuck.Shape) ] → Simulates R blocks t (λ v. Mapping F (w ∷ (ws ++ v ∷ [])) ps ∷ s) (elim b as (λ b. Comp (Arrayed V)) [ true ↦ count 1 (give v) | false ↦ lost ])
      go true e = sim_one R blocks (λ v. Mapping F (w ∷ (ws ++ v ∷ [])) ps ∷ s) v e
      go false e = sim_lost R blocks t (λ v. Mapping F (w ∷ (ws ++ v ∷ [])) ps ∷ s)

  module _ (well : EntersWell) where
    -- a block that is entered by the step of t, with what follows at its end
    pub sim_enter : (t s : State V) (K : Arrayed V → State V) (env : Env V) (b : ℕ) (f : Arrayed V → Comp (Arrayed V)) → step R blocks t ≡ enter_block R blocks (slice_get blocks b) env s
        → ((v : Arrayed V) → Simulates R blocks (Running [] env (v ∷ []) ∷ s) K (f v)) → Simulates R blocks t K (count 1 (enter env b then_run f))
    sim_enter t s K env b f e h = go (slice_get blocks b) refl
      where
        go : (o : Option Block) → slice_get blocks b ≡ o → Simulates R blocks t K (count 1 (enter env b then_run f))
        go (Some is) there = sim_count R blocks (e ∙ ap (λ o. enter_block R blocks o env s) there) (sim_then R blocks (well.known env b is there s) h)
        go None there = record { within = λ budget. subst (λ r. Follows R blocks t K (behind 0 1 (go_on budget f r))) (sym (well.missing env b there budget)) tt }

    -- an entry that the step of t begins
    pub sim_entry : (s : State V) (K : Arrayed V → State V) (fold : V → Arrayed V → List (Arrayed V) → Comp (Arrayed V)) (h : Arrayed V → Comp (Arrayed V)) → Hands s K h
        → ((f : V) (acc : Arrayed V) (xs : List (Arrayed V)) → Simulates R blocks (Folding f acc xs ∷ s) K (fold f acc xs))
        → (t : State V) (x : Entry V) → step R blocks t ≡ begin R blocks x s → Simulates R blocks t K (entry_val R enter fold h x)
    sim_entry s K fold h hands folds t (Refuses k) e = sim_lost R blocks t K
    sim_entry s K fold h hands folds t (Enters env b) e = sim_tick R blocks (sim_enter t s K env b h e (λ v. hands v (Running [] env (v ∷ []) ∷ s) refl))
    sim_entry s K fold h hands folds t (Answers v) e = sim_tick R blocks (hands v t e)
    sim_entry s K fold h hands folds t (Faults k) e = sim_tick R blocks (sim_stop R blocks K k e)
    sim_entry s K fold h hands folds t (Folds f acc xs) e = sim_tick R blocks (sim_count R blocks e (folds f acc xs))

    -- a turn of a fold, and all turns
    pub sim_turn : (f : V) (acc x : Arrayed V) (xs : List (Arrayed V)) (s : State V) → Simulates R blocks (Folding f acc (x ∷ xs) ∷ s) (λ v. Folding f v xs ∷ s) (turn R enter f acc x)
    sim_turn f acc x xs s =
        sim_entry (Folding f acc xs ∷ s) (λ v. Folding f v xs ∷ s) (λ f acc xs. lost) hand_over (hands_over (Folding f acc xs ∷ s) (λ v. Folding f v xs ∷ s) (λ v. refl))
        (λ g a ys. sim_lost R blocks (Folding g a ys ∷ Folding f acc xs ∷ s) (λ v. Folding f v xs ∷ s)) (Folding f acc (x ∷ xs) ∷ s) (apply_entry R f (acc ∷ x ∷ [])) refl

    pub sim_turns : (s : State V) (K : Arrayed V → State V) (h : Arrayed V → Comp (Arrayed V)) → Hands s K h → (f : V) (acc : Arrayed V) (xs : List (Arrayed V)) → Simulates R blocks (Folding f acc xs ∷ s) K (turns R enter h f acc xs)
    sim_turns s K h hands f acc [] = hands acc (Folding f acc [] ∷ s) refl
    sim_turns s K h hands f acc (x ∷ xs) = sim_then R blocks (sim_turn f acc x xs s) (λ v. sim_turns s K h hands f v xs)

    -- a place of a frame
    pub sim_place : (F : List ℕ) (vs : List (Arrayed V)) (p : Place V) (ps : List (Place V)) (s : State V) → Simulates R blocks (Mapping F vs (p ∷ ps) ∷ s) (λ v. Mapping F (vs ++ v ∷ []) ps ∷ s) (place_val R enter (hand_val F vs) p)
    sim_place F vs p ps s =
        sim_entry (Mapping F vs ps ∷ s) (λ v. Mapping F (vs ++ v ∷ []) ps ∷ s) (turns R enter (hand_val F vs)) (hand_val F vs) (hands_map F vs ps s)
        (sim_turns (Mapping F vs ps ∷ s) (λ v. Mapping F (vs ++ v ∷ []) ps ∷ s) (hand_val F vs) (hands_map F vs ps s)) (Mapping F vs (p ∷ ps) ∷ s) (place_entry R p) refl

    module _ (rest : List Instr) (env : Env V) (ops : List (Arrayed V)) (s : State V) where
      -- the state behind a term: its value is pushed
      abbrev pub pushed : Arrayed V → State V
      pushed v = Running rest env (v ∷ ops) ∷ s

      sim_collapse : (F : List ℕ) (t : State V) (ws : List (Arrayed V)) → step R blocks t ≡ end_map F ws (Running rest env ops ∷ s) → Simulates R blocks t pushed (collapse_vals F ws)
      sim_collapse F t [] e = sim_lost R blocks t pushed
      sim_collapse F t (w ∷ ws) e = sim_ticks R blocks (map_ticks F) (sim_one R blocks pushed (collapse F w ws) e)

      -- the places that are left of a frame
      pub sim_places : (F : List ℕ) (vs : List (Arrayed V)) (ps : List (Place V)) → Simulates R blocks (Mapping F vs ps ∷ Running rest env ops ∷ s) pushed (places_val R enter F vs ps)
      sim_places F vs [] = sim_collapse F (Mapping F vs [] ∷ Running rest env ops ∷ s) vs refl
      sim_places F vs (p ∷ ps) = sim_then R blocks (sim_place F vs p ps (Running rest env ops ∷ s)) (λ v. sim_places F (vs ++ v ∷ []) ps)

      -- what an instruction begins
      pub sim_begun : (t : State V) (x : Begun V) → step R blocks t ≡ begun x rest env ops s → Simulates R blocks t pushed (begun_val R enter x)
      sim_begun t (Fails k) e = sim_lost R blocks t pushed
      sim_begun t (Halts k) e = sim_tick R blocks (sim_stop R blocks pushed k e)
      sim_begun t (Pushes v) e = sim_tick R blocks (sim_one R blocks pushed v e)
      sim_begun t (Maps F ps) e = sim_count R blocks e (sim_places F [] ps)
