-- What a job on a source or a code text comes to, before its data.
use Rattle.std.specs.Prelude.{◌≡◌, ◌≢◌, ◌↔◌, ◌≤◌, ℕ, List, [], ⊤, Result, Ok, Err}
use Rattle.core_syntax.specs.Wholes.{program_of}
use Rattle.remora_driver.specs.declared.answer.Answer.{Answer as Given}
use Rattle.remora_driver.specs.declared.answer.Answer.TheVariants as given
use Rattle.remora_driver.specs.declared.errors.SourceRefusal.{SourceRefusal}
use Rattle.remora_driver.specs.declared.errors.SourceRefusal.TheVariants as no_task
use Rattle.remora_driver.specs.declared.job.Job.{Job}
use Rattle.remora_driver.specs.declared.job.Job.TheVariants as job
use Rattle.remora_driver.specs.declared.telling.Telling.TheVariants as telling
use Rattle.remora_driver.specs.declared.task.Task.{Task}
use Rattle.remora_driver.specs.declared.task.Task.TheVariants.{Run, Reduce}
use Rattle.remora_driver.specs.declared.commands.Begun.{Begun}
use Rattle.remora_driver.specs.declared.commands.Begun.TheVariants as begun
use Rattle.remora_driver.specs.declared.reply.Reply.{Reply}
use Rattle.remora_driver.specs.Calls.{TellsDue}
use Rattle.remora_driver.specs.Due.{Answer, refused, IsDueOn, IsCodeDue, IsJobDue, TakesData}
use Rattle.remora_driver.specs.Programs.{input_types}
use Rattle.remora_driver.specs.Reductions.{EndsIn}
use Rattle.remora_driver.specs.Sources.{seen}

-- a count of definitions is one that words can ask for
abbrev pub IsAsked : Job → Type 0
IsAsked (job.Soak count) = (1 ≤ count) × (count ≤ 4096)
IsAsked _ = ⊤

-- what is due for a task on these data
abbrev pub IsTaskDue : Task → List ℕ → Answer → Type 0
IsTaskDue (Run code budget) bytes a = IsCodeDue telling.Value code bytes budget a
IsTaskDue (Reduce checked budget) bytes a = IsDueOn (input_types (program_of checked.program)) bytes (EndsIn checked budget) a

-- the code or the program has inputs
abbrev pub HasInputs : Task → Type 0
HasInputs (Run code budget) = code.params ≢ []
HasInputs (Reduce checked budget) = (program_of checked.program).inputs ≢ []

-- the task is that of the job on these bytes
pub record IsTaskOf (job : Job) (bytes : List ℕ) (task : Task) : Type 0 where
  pub due : (data' : List ℕ) (a : Answer) → IsTaskDue task data' a → IsJobDue job bytes data' a
  pub takes : HasInputs task ↔ TakesData job bytes

-- the answer is due whatever the data, and the job takes none
pub record IsAnswered (job : Job) (bytes : List ℕ) (a : Answer) : Type 0 where
  pub due : (data' : List ℕ) → IsJobDue job bytes data' a
  pub takes_none : ¬ (TakesData job bytes)

-- the task of the job, or why there is none, or there was no memory
abbrev pub TaskFor : Job → List ℕ → Result Task SourceRefusal → Type 0
TaskFor job bytes (Ok task) = IsTaskOf job bytes task
TaskFor job bytes (Err (no_task.Refused number at)) = IsAnswered job bytes (refused number at)
TaskFor job bytes (Err no_task.Memory) = ⊤

-- the answer of a task on these data, or why there is none
abbrev pub Answers : Result Task SourceRefusal → List ℕ → Given → Type 0
Answers (Ok task) bytes g = TellsDue (IsTaskDue task bytes) g
Answers (Err (no_task.Refused number at)) bytes g = g ≡ given.Refused number at
Answers (Err no_task.Memory) bytes g = g ≡ given.Memory

-- the job is answered, or this is its task
abbrev pub IsBegun : Job → List ℕ → Begun → Type 0
IsBegun job bytes (begun.Answered reply) = IsAnswered job bytes (seen reply)
IsBegun job bytes (begun.Open task) = IsTaskOf job bytes task

-- this reply is the answer
abbrev pub AnsweredBy : {E : Type 0} → Result Reply E → Begun → Type 0
AnsweredBy (Ok reply) b = b ≡ begun.Answered reply
AnsweredBy (Err e) b = ⊥

-- a task is open, or its refusal is the answer
abbrev pub Opens : Result Task SourceRefusal → Begun → Type 0
Opens (Ok task) b = b ≡ begun.Open task
Opens (Err (no_task.Refused number at)) (begun.Answered reply) = seen reply ≡ refused number at
Opens (Err (no_task.Refused number at)) (begun.Open task) = ⊥
Opens (Err no_task.Memory) b = ⊥
