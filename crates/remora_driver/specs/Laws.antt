-- What the definition of the due answers comes to.
use Rattle.std.specs.Prelude.{◌≡◌, ◌≢◌, ℕ, List}
use Rattle.remora_driver.specs.declared.job.Job.{Job}
use Rattle.remora_driver.specs.declared.telling.Telling.TheVariants as telling
use Rattle.remora_driver.specs.Due.{Answer, still_running, IsJobDue, IsDue, IsRunDue, IsReduceDue}
use Rattle.remora_driver.specs.Meant.{IsJobMeant}

-- for the same words, program source and input one answer is due at most
abbrev pub OneAnswer : Type 0
OneAnswer = (words : List (List ℕ)) (bytes input : List ℕ) (a b : Answer) → IsDue words bytes input a → IsDue words bytes input b → a ≡ b

-- what is due for a source that is run on data, or is built, or for the soak program, is what typed reduction of its program comes to
abbrev pub DueMeans : Type 0
DueMeans = (job : Job) (bytes given : List ℕ) (a : Answer) → IsJobDue job bytes given a → IsJobMeant job bytes given a

-- where neither is still running, `run` and `reduce` answer the same on the same data
abbrev pub RunIsReduce : Type 0
RunIsReduce =
    (bytes given : List ℕ) (steps reductions : ℕ) (a b : Answer) → IsRunDue telling.Value bytes given steps a → IsReduceDue bytes given reductions b → a ≢ still_running → b ≢ still_running → a ≡ b
