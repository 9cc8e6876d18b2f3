-- Where the code of a program ends, its evaluation within a budget of four steps for each machine step has ended alike.
use Rattle.std.proofs.Common.{◌≡◌, refl, sym, ap, ◌∙◌, ℕ, zero, suc, ◌+◌, ◌*◌, ◌≤◌, arith, List, length, Option, Some, None}
use Rattle.core_syntax.specs.Arrays.{Arrayed}
use Rattle.machine_table.specs.declared.code.Block.{Block}
use Rattle.machine_table.specs.Values.{Env, ValueRules, no_env, with_arrays}
use Rattle.machine_table.specs.Machine.{Next, Goes, Stops, Outcome, Done, Trap, step, from, start, EndsAt}
use Rattle.erasure.specs.Erased.{ErasedTerm}
use Rattle.erasure.specs.Programs.{ErasedProgram}
use Rattle.lowering.specs.Lower.{Body, behind_defs, bodies_of, blocks_of}
use Rattle.lowering.specs.Runs as runs
use Rattle.lowering.specs.Runs.{Run, Ended, Stopped, GoesOn, Comp}
use Rattle.lowering.specs.Evals.{with_body, entered, eval, enter_within, evals, evals_on}
use Rattle.lowering.specs.Laws.{CodeRunsAs, EndedAs, UsesFew}
use Rattle.lowering.proofs.counts.Credit.{Paid, Pays, pays_lost}
use Rattle.lowering.proofs.counts.Credits.{pays_term}
use Rattle.lowering.proofs.machine.Lowered.{lowered_runs}

module _ {V : Type 0} (R : ValueRules V) (bodies : List Body) where
  -- what is paid of a body is paid of what enters it
  pays_body : (K : ℕ) (f : Body → Comp (Arrayed V)) (o : Option Body) → ((body : Body) → Pays K 0 3 (f body)) → Pays K 0 3 (with_body o f)
  pays_body K f None h = pays_lost K 0 3
  pays_body K f (Some body) h = h body

  pays_enter : (k : ℕ) (env : Env V) (b : ℕ) → Pays k 0 3 (enter_within R bodies k env b)
  pays_enter zero env b = pays_body zero (λ body budget. GoesOn 0) (entered bodies b) (λ body. record { within = λ budget le. omega arith })
  pays_enter (suc k) env b =
      pays_body (suc k) (λ body. eval R (enter_within R bodies k) body.first env body.term) (entered bodies b)
      (λ body. pays_term R k (enter_within R bodies k) (pays_enter k) body.first body.term env)

  -- within k erased steps: an ended term used at most 4*n of them, and where it goes on k is at most 4*n
  pub uses_few : (k : ℕ) (first : ℕ) (env : Env V) (t : ErasedTerm) → UsesFew k (evals R bodies k env first t)
  uses_few k first env t = by (evals R bodies k env first t) ((pays_term R k (enter_within R bodies k) (pays_enter k) first t env).within k (omega arith))
    where
      by : (r : Run (Arrayed V)) → Paid (suc k) 0 3 k r → UsesFew k r
      by (Ended v used n) h = let e : used + 3 ≤ 4 * n + 0 = h.0 in omega arith
      by (Stopped q used n) h = omega arith
      by (GoesOn n) h = omega arith
      by runs.Lost h = tt

-- a machine ends once
pub ends_once : {V : Type 0} (R : ValueRules V) (blocks : List Block) (n m : ℕ) (x : Next V) (o q : Outcome V) → from R blocks n x ≡ Some (Stops o) → from R blocks m x ≡ Some (Stops q) → (n ≡ m) × (o ≡ q)
ends_once R blocks zero zero x o q e f = let both : Some (Stops o) ≡ Some (Stops q) = sym e ∙ f in (refl, cc)
ends_once R blocks zero (suc m) (Goes s) o q e f = absurd (cc)
ends_once R blocks zero (suc m) (Stops p) o q e f = absurd (cc)
ends_once R blocks (suc n) zero (Goes s) o q e f = absurd (cc)
ends_once R blocks (suc n) zero (Stops p) o q e f = absurd (cc)
ends_once R blocks (suc n) (suc m) (Goes s) o q e f = let h = ends_once R blocks n m (step R blocks s) o q e f in (ap suc h.0, h.1)
ends_once R blocks (suc n) (suc m) (Stops p) o q e f = absurd (cc)

-- where the code's n-th step ends, the evaluation within 4*n + 1 erased steps has ended alike, or is lost
pub ended_as : {V : Type 0} (R : ValueRules V) (p : ErasedProgram) (inputs : List (Arrayed V)) (n : ℕ) (o : Outcome V) → EndsAt R (blocks_of p) inputs n o → EndedAs n o (evals_on R p inputs (4 * n + 1))
ended_as {V} R p inputs n o e =
    by (evals_on R p inputs (4 * n + 1)) (lowered_runs R p inputs (4 * n + 1))
    (uses_few R (bodies_of p) (4 * n + 1) (behind_defs (suc (length p.defs)) p.defs) (with_arrays inputs no_env) p.body)
  where
    by : (r : Run (Arrayed V)) → CodeRunsAs R p inputs r → UsesFew (4 * n + 1) r → EndedAs n o r
    by (Ended v used m) h few = ends_once R (blocks_of p) n (suc m) (Goes (start R (blocks_of p) inputs)) o (Done v) e h
    by (Stopped k used m) h few = ends_once R (blocks_of p) n m (Goes (start R (blocks_of p) inputs)) o (Trap k) e h
    by (GoesOn m) h few = h n o (omega arith) e
    by runs.Lost h few = tt
