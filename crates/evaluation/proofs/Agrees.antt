-- The code of an erased program ends as the program does, where the evaluation is its reduction.
use Rattle.std.proofs.Common.{◌≡◌, refl, sym, subst, ℕ, suc, ◌+◌, ◌*◌, ◌≤◌, arith, List}
use Rattle.core_syntax.specs.declared.errors.TrapKind.{TrapKind}
use Rattle.core_syntax.specs.Lists.{each}
use Rattle.core_syntax.specs.Arrays.{Arrayed}
use Rattle.core_syntax.specs.Terms.{Cell}
use Rattle.core_syntax.specs.Data.{Data}
use Rattle.machine_table.specs.Values.{ValueRules}
use Rattle.machine_table.specs.Machine.{Outcome, Done, Trap, Stuck}
use Rattle.machine_table.specs.Ends.{Ends}
use Rattle.erasure.specs.Erased.{erased, ErasedTerm, erased_rules}
use Rattle.erasure.specs.Programs.{ErasedProgram, erased_start, ErasedReaches, ErasedTraps}
use Rattle.erasure.specs.TermNodes.{program_nodes}
use Rattle.lowering.specs.Lower.{Body, lower}
use Rattle.lowering.specs.Runs as runs
use Rattle.lowering.specs.Runs.{Run, Ended, Stopped, GoesOn}
use Rattle.lowering.specs.Laws.{CodeRunsAs, EndsSoon, UsesFew, EndedAs}
use Rattle.lowering.proofs.Results.{code_follows, evaluation_ends_soon, evaluation_uses_few, evaluation_ends}
use Rattle.reduction_laws.proofs.runs.Once.{one_value, one_trap, not_both}
use Rattle.evaluation.specs.Agrees.{AreNear}
use Rattle.evaluation.specs.Laws.{value_of, ReducesAs, evaluated, DoesAsErased}

module _ {A : Type 0} (R : ValueRules A) (cell : List Body → A → Cell erased) (as_array : Data → Arrayed A) (E : ErasedProgram) (xs : List Data)
    (evaluates : (k : ℕ) → ReducesAs R cell as_array E xs k (evaluated R cell as_array E xs k)) where
  -- the code's inputs, the program's first term, and the term that an array stands for
  abbrev inputs : List (Arrayed A)
  inputs = each as_array xs

  abbrev start : ErasedTerm
  start = erased_start E xs

  abbrev value : Arrayed A → ErasedTerm
  value = value_of R cell as_array E

  -- so many steps of both
  abbrev Near : (n k : ℕ) → Type 0
  Near n k = AreNear (program_nodes E) n k

  near : (n k : ℕ) → n ≤ 16 * (program_nodes E * (k + 1)) → k ≤ 4 * n → Near n k
  near n k a b = (a, b)

  -- a done code's last step is one more than the evaluation's
  nearly : (n k : ℕ) → suc n ≤ 16 * (program_nodes E * (k + 1)) → k ≤ 4 * n → Near (suc n) k
  nearly n k a b = near (suc n) k a (omega (arith, b))

  -- ---- where the program ends

  abbrev Reached : (k : ℕ) (w : ErasedTerm) → Type 0
  Reached k w = (n : ℕ) × (a : Arrayed A) × Ends R (lower E) inputs n (Done a) × (value a ≡ w) × Near n k

  reaches_by : (k : ℕ) (w : ErasedTerm) → ErasedReaches E xs k w → (run : Run (Arrayed A)) → ReducesAs R cell as_array E xs k run → CodeRunsAs R E inputs run → EndsSoon E run → UsesFew k run → Reached k w
  reaches_by k w h (Ended a used n) same follows soon few =
      let once = one_value erased_rules E.defs used k start (value a) w same.0 h in
      (suc n, a, follows, once.1, subst (Near (suc n)) once.0 (nearly n used soon few))
  reaches_by k w h (Stopped kind used n) same follows soon few = absurd (not_both erased_rules E.defs k used start w kind h same.0)
  reaches_by k w h (GoesOn n) same follows soon few = absurd ((same k (omega arith)).0 w h)
  reaches_by k w h runs.Lost same follows soon few = absurd same

  abbrev Trapping : (k : ℕ) (kind : TrapKind) → Type 0
  Trapping k kind = (n : ℕ) × Ends R (lower E) inputs n (Trap kind) × Near n k

  traps_by : (k : ℕ) (kind : TrapKind) → ErasedTraps E xs k kind → (run : Run (Arrayed A)) → ReducesAs R cell as_array E xs k run → CodeRunsAs R E inputs run → EndsSoon E run → UsesFew k run → Trapping k kind
  traps_by k kind h (Ended a used n) same follows soon few = absurd (not_both erased_rules E.defs used k start (value a) kind same.0 h)
  traps_by k kind h (Stopped met used n) same follows soon few =
      let once = one_trap erased_rules E.defs used k start met kind same.0 h in
      (n, subst (λ q. Ends R (lower E) inputs n (Trap q)) once.1 follows, subst (Near n) once.0 (near n used soon few))
  traps_by k kind h (GoesOn n) same follows soon few = absurd ((same k (omega arith)).1 kind h)
  traps_by k kind h runs.Lost same follows soon few = absurd same

  -- ---- where the code ends

  abbrev Back : (n : ℕ) → Outcome A → Type 0
  Back n (Done a) = (k : ℕ) × (w : ErasedTerm) × ErasedReaches E xs k w × (value a ≡ w) × Near n k
  Back n (Trap kind) = (k : ℕ) × ErasedTraps E xs k kind × Near n k
  Back n (Stuck fault) = ⊥

  back_by : (b n : ℕ) (o : Outcome A) (run : Run (Arrayed A)) → ReducesAs R cell as_array E xs b run → EndedAs n o run → EndsSoon E run → UsesFew b run → Back n o
  back_by b n o (Ended a used m) same ended soon few =
      let last : suc m ≡ n = sym ended.0 in
      let outcome : Done a ≡ o = sym ended.1 in
      subst (Back n) outcome (used, value a, same.0, refl, subst (λ j. Near j used) last (nearly m used soon few))
  back_by b n o (Stopped kind used m) same ended soon few =
      let last : m ≡ n = sym ended.0 in
      let outcome : Trap kind ≡ o = sym ended.1 in
      subst (Back n) outcome (used, same.0, subst (λ j. Near j used) last (near m used soon few))
  back_by b n o (GoesOn m) same ended soon few = absurd ended
  back_by b n o runs.Lost same ended soon few = absurd same

  back : (n : ℕ) (o : Outcome A) → Ends R (lower E) inputs n o → Back n o
  back n o e =
      let b = 4 * n + 1 in
      back_by b n o (evaluated R cell as_array E xs b) (evaluates b) (evaluation_ends R E inputs n o e) (evaluation_ends_soon R E inputs b) (evaluation_uses_few R E inputs b)

  pub does_as_erased : DoesAsErased R cell as_array E xs
  does_as_erased =
      record {
        reaches = λ k w h. reaches_by k w h (evaluated R cell as_array E xs k) (evaluates k) (code_follows R E inputs k) (evaluation_ends_soon R E inputs k) (evaluation_uses_few R E inputs k);
        traps = λ k kind h. traps_by k kind h (evaluated R cell as_array E xs k) (evaluates k) (code_follows R E inputs k) (evaluation_ends_soon R E inputs k) (evaluation_uses_few R E inputs k);
        done = λ n a e. back n (Done a) e;
        trapped = λ n kind e. back n (Trap kind) e;
        never_stuck = λ n kind e. back n (Stuck kind) e;
      }
