-- What is due for a job, from what its task says of the data that the input has.
use Rattle.std.proofs.Common.{◌≡◌, refl, subst, ℕ, ◌+◌, ◌<◌, arith, List, [], length, Option, Some, None, Result, Ok, Err}
use Rattle.std.specs.Prelude.{IfOk, IfSome, IsTrue}
use Rattle.remora_driver.specs.declared.job.Job.{Job}
use Rattle.remora_driver.specs.declared.job.Job.TheVariants.{Check, Build, Run, Exec, Reduce, Soak}
use Rattle.remora_driver.specs.declared.reply.Reply.{Reply}
use Rattle.remora_driver.specs.declared.status.Status.TheVariants as status
use Rattle.remora_driver.specs.declared.task.Task.{Task}
use Rattle.remora_driver.specs.declared.task.Task.TheVariants as task
use Rattle.remora_driver.specs.Due.{Answer, data_refused, front, unfit, with_data, without, IsJobDue, TakesData}
use Rattle.remora_driver.specs.Jobs.{reads_source}
use Rattle.remora_driver.specs.Sources.{seen}
use Rattle.remora_driver.specs.Tasks.{IsTaskDue, HasInputs, IsTaskOf}
use Rattle.remora_driver.specs.Top.{IsTold, IsDueOnInput, IsJobDueFor}
use Rattle.value_text.specs.DataTexts.{longest_data, too_long}
use Rattle.remora_driver.proofs.Answers.{told_some, some_bytes}
use Rattle.remora_driver.proofs.OneData.{due_by_further}

-- ---- data that is too long

task_too_long : (t : Task) (given : List ℕ) (a : Answer) → longest_data < length given → a ≡ data_refused 44 front → IsTaskDue t given a
task_too_long (task.Run code budget) given a long is = unfit 44 front (too_long long refl) is
task_too_long (task.Reduce checked budget) given a long is = unfit 44 front (too_long long refl) is

pub told_data_too_long : (t : Task) (left : Option (List ℕ)) (a : Answer) → IfSome left (λ bytes. longest_data < length bytes) → a ≡ data_refused 44 front → (given : List ℕ) × IsTold left given × IsTaskDue t given a
told_data_too_long t (Some given) a long is = (given, refl, task_too_long t given a long is)
told_data_too_long t None a long is =
    let others = some_bytes (longest_data + 1) in
    (others.0, tt, task_too_long t others.0 a (omega (arith, others.1)) is)

-- ---- data that is taken or isn't

-- what is due on the data that the input has
pub taken_due : {E : Type 0} (T : Type 0) (D : List ℕ → Answer → Type 0) (input : Option (List ℕ)) (r : Result Reply E) → T → IfOk r (λ a. (given : List ℕ) × IsTold input given × D given (seen a)) → IfOk r (λ a. IsDueOnInput T D input (seen a))
taken_due T D input (Ok a) takes h = (h.0, h.1, with_data takes h.2)
taken_due T D input (Err e) takes h = tt

-- what is due on no data
pub untaken_due : (T : Type 0) (D : List ℕ → Answer → Type 0) (input : Option (List ℕ)) (a : Answer) → ¬ T → D [] a → IsDueOnInput T D input a
untaken_due T D input a none due = let some = told_some input in (some.0, some.1, without none due)

-- what is due for the task of a job
pub task_due : {E : Type 0} (job : Job) (bytes : List ℕ) (t : Task) (input : Option (List ℕ)) (r : Result Reply E) → IsTaskOf job bytes t → IfOk r (λ a. IsDueOnInput (HasInputs t) (IsTaskDue t) input (seen a)) → IfOk r (λ a. IsDueOnInput (TakesData job bytes) (IsJobDue job bytes) input (seen a))
task_due job bytes t input (Ok a) is h = (h.0, h.1, due_by_further (HasInputs t) (TakesData job bytes) (IsTaskDue t) (IsJobDue job bytes) h.0 (seen a) is.takes (λ given due. is.due given (seen a) due) h.2)
task_due job bytes t input (Err e) is h = tt

-- and for the bytes that the program source has
pub bytes_due : {E : Type 0} (job : Job) (bytes : List ℕ) (left input : Option (List ℕ)) (r : Result Reply E) → IsTold left bytes → IfOk r (λ a. IsDueOnInput (TakesData job bytes) (IsJobDue job bytes) input (seen a)) → IfOk r (λ a. IsJobDueFor job left input (seen a))
bytes_due job bytes left input (Ok a) told h = (bytes, h.0, told, h.1, h.2)
bytes_due job bytes left input (Err e) told h = tt

-- ---- a job that reads no program source

module _ (job : Job) (none : ¬ (IsTrue (reads_source job))) where
  -- takes no data
  pub sourceless_takes : (bytes : List ℕ) → ¬ (TakesData job bytes)
  sourceless_takes bytes = go job none
    where
      go : (j : Job) → ¬ (IsTrue (reads_source j)) → TakesData j bytes → ⊥
      go Check out takes = takes
      go Build out takes = takes
      go (Run budget) out takes = out refl
      go (Exec budget) out takes = out refl
      go (Reduce budget) out takes = out refl
      go (Soak count) out takes = takes

  -- and what is due for it is so whatever the bytes
  job_due_same : (bytes bytes' given : List ℕ) (a : Answer) → IsJobDue job bytes given a → IsJobDue job bytes' given a
  job_due_same bytes bytes' given a = go job none
    where
      go : (j : Job) → ¬ (IsTrue (reads_source j)) → IsJobDue j bytes given a → IsJobDue j bytes' given a
      go Check out due = absurd (out refl)
      go Build out due = absurd (out refl)
      go (Run budget) out due = absurd (out refl)
      go (Exec budget) out due = absurd (out refl)
      go (Reduce budget) out due = absurd (out refl)
      go (Soak count) out due = due

  pub sourceless_due : {E : Type 0} (bytes : List ℕ) (left input : Option (List ℕ)) (r : Result Reply E) → IfOk r (λ a. IsDueOnInput (TakesData job bytes) (IsJobDue job bytes) input (seen a)) → IfOk r (λ a. IsJobDueFor job left input (seen a))
  sourceless_due bytes left input (Ok a) h =
      let some = told_some left in (
        some.0,
        h.0,
        some.1,
        h.1,
        due_by_further (TakesData job bytes) (TakesData job some.0) (IsJobDue job bytes) (IsJobDue job some.0) h.0 (seen a) (
          λ takes. absurd (sourceless_takes bytes takes),
          λ takes. absurd (sourceless_takes some.0 takes),
        ) (λ given due. job_due_same bytes some.0 given (seen a) due) h.2,
      )
  sourceless_due bytes left input (Err e) h = tt

  -- so it isn't asked for as one that takes some
  pub sourceless_asks : (left : Option (List ℕ)) → ((bytes : List ℕ) → IsTold left bytes → TakesData job bytes) → ⊥
  sourceless_asks left takes = let some = told_some left in sourceless_takes some.0 (takes some.0 some.1)

-- ---- what the top call's parts hand on

-- what holds of a value where data is taken, by what is taken
pub ends_taken : {E : Type 0} (T T' A : Type 0) (r : Result Reply E) → (T' → T) → IfOk r (λ a. a.status ≡ status.Ok → T → A) → IfOk r (λ a. a.status ≡ status.Ok → T' → A)
ends_taken T T' A (Ok a) f h = λ ok takes. h ok (f takes)
ends_taken T T' A (Err e) f h = tt

-- what holds of a reply that is a value
pub ended_so : {E : Type 0} (A : Type 0) (r : Result Reply E) (a : Reply) → r ≡ Ok a → IfOk r (λ x. x.status ≡ status.Ok → A) → a.status ≡ status.Ok → A
ended_so {E} A r a is h ok = subst (λ (s : Result Reply E). IfOk s (λ x. x.status ≡ status.Ok → A)) is h ok
