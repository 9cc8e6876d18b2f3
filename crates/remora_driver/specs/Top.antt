-- What the top call says of its sources and its sink.
use Rattle.std.specs.Prelude.{◌≡◌, ◌⊎◌, ℕ, List, Option, IfSome, IsTrue, ⊤}
use Rattle.rem_base.specs.Counts.{Rose}
use Rattle.remora_driver.specs.declared.top.Halt.{Halt}
use Rattle.remora_driver.specs.declared.top.Halt.TheVariants as halt
use Rattle.remora_driver.specs.declared.status.Status.{Status}
use Rattle.remora_driver.specs.declared.status.Status.TheVariants.{Ok, Trap, Refused, Usage, ReadFault, WriteFault, StillRunning, Memory, DataRefused, Stuck}
use Rattle.remora_driver.specs.declared.job.Job.{Job}
use Rattle.remora_driver.specs.Due.{Answer, IsDueBy, IsJobDue, IsDue, TakesData}
use Rattle.remora_driver.specs.Jobs.{IsJob, reads_source}

-- these are the bytes that were left, where the source tells them
abbrev pub IsTold : Option (List ℕ) → List ℕ → Type 0
IsTold left bytes = IfSome left (λ told. told ≡ bytes)

-- the answer is due for these words, and for what the program source and the input had left
abbrev pub IsDueFor : List (List ℕ) → (program input : Option (List ℕ)) → Answer → Type 0
IsDueFor words program input a = (bytes given : List ℕ) × IsTold program bytes × IsTold input given × IsDue words bytes given a

-- the same of a job, and of what is due on data that is taken so
abbrev pub IsJobDueFor : Job → (program input : Option (List ℕ)) → Answer → Type 0
IsJobDueFor job program input a = (bytes given : List ℕ) × IsTold program bytes × IsTold input given × IsDueBy (TakesData job bytes) (IsJobDue job bytes) given a

abbrev pub IsDueOnInput : Type 0 → (List ℕ → Answer → Type 0) → (input : Option (List ℕ)) → Answer → Type 0
IsDueOnInput Taken Due input a = (given : List ℕ) × IsTold input given × IsDueBy Taken Due given a

-- the words ask for a job that reads its program source
abbrev pub AsksForSource : List (List ℕ) → Type 0
AsksForSource words = (job : Job) × IsJob words job × IsTrue (reads_source job)

-- the words ask for a job that takes data, where the program source had these bytes left
abbrev pub AsksForData : List (List ℕ) → Option (List ℕ) → Type 0
AsksForData words left = (job : Job) (bytes : List ℕ) → IsJob words job → IsTold left bytes → TakesData job bytes

-- they ask for none that does
abbrev pub AsksForNone : List (List ℕ) → Option (List ℕ) → Type 0
AsksForNone words left = (job : Job) (bytes : List ℕ) → IsJob words job → IsTold left bytes → ¬ (TakesData job bytes)

-- the status is that of an answer: no fault, and no want of memory
abbrev pub IsAnswer : Status → Type 0
IsAnswer Ok = ⊤
IsAnswer (Trap why) = ⊤
IsAnswer (Refused number at) = ⊤
IsAnswer Usage = ⊤
IsAnswer ReadFault = ⊥
IsAnswer WriteFault = ⊥
IsAnswer StillRunning = ⊤
IsAnswer Memory = ⊥
IsAnswer (DataRefused number at) = ⊤
IsAnswer (Stuck why) = ⊤

-- the count of the program source's faults or that of the input's rose
abbrev pub Faulted : (program program' input input' : ℕ) → Type 0
Faulted p p' i i' = Rose p p' ⊎ Rose i i'

-- a fault comes only where this holds
abbrev pub HaltsFor : Halt → Type 0 → Type 0
HaltsFor halt.ReadFault Fault = Fault
HaltsFor halt.Memory Fault = ⊤
