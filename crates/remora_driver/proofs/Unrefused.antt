-- What is due for a task on data is no refusal of the program or the code.
use Rattle.std.proofs.Common.{◌≡◌, sym, subst, ℕ, List, Option, Result, Ok, Err}
use Rattle.std.specs.Prelude.{IfOk, ⊤}
use Rattle.core_syntax.specs.declared.span.Span.{Span}
use Rattle.core_syntax.specs.Data.{Data}
use Rattle.core_syntax.specs.Notes.{NodeNote}
use Rattle.core_syntax.specs.Syntax.{Ty, Program}
use Rattle.core_syntax.specs.Wholes.{program_of}
use Rattle.array_values.specs.declared.value.Value.{Value}
use Rattle.machine_table.specs.Codes.{Code}
use Rattle.machine_table.specs.Machine.{Outcome}
use Rattle.machine_table.specs.Machine as table
use Rattle.remora_driver.specs.declared.reply.Reply.{Reply}
use Rattle.remora_driver.specs.declared.status.Status.{Status}
use Rattle.remora_driver.specs.declared.status.Status.TheVariants as status
use Rattle.remora_driver.specs.declared.task.Task.{Task}
use Rattle.remora_driver.specs.declared.task.Task.TheVariants as task
use Rattle.remora_driver.specs.declared.telling.Telling.{Telling}
use Rattle.remora_driver.specs.declared.telling.Telling.TheVariants as telling
use Rattle.remora_driver.specs.Due.{Answer, shown, trapped, still_running, data_refused, IsDueOn, unfit, fitting, outcome_answer, HasCodeEnd, ends, goes_on, types_of_inputs, HasEnd, reaches, traps, keeps_going}
use Rattle.remora_driver.specs.Programs.{input_types}
use Rattle.remora_driver.specs.Reductions.{notes_of, EndsIn}
use Rattle.remora_driver.specs.Sources.{seen}
use Rattle.remora_driver.specs.Tasks.{IsTaskDue}
use Rattle.remora_driver.specs.Top.{IsTold}

-- the status is none of a refused program or code
abbrev IsUnrefused : Status → Type 0
IsUnrefused (status.Refused number at) = ⊥
IsUnrefused _ = ⊤

same_status : (a b : Answer) → a ≡ b → IsUnrefused b.status → IsUnrefused a.status
same_status a b e h = subst (λ (x : Answer). IsUnrefused x.status) (sym e) h

outcome_unrefused : (how : Telling) (n : ℕ) (o : Outcome Value) → IsUnrefused (outcome_answer how n o).status
outcome_unrefused how n (table.Done a) = tt
outcome_unrefused how n (table.Trap t) = tt
outcome_unrefused how n (table.Stuck t) = tt

code_unrefused : (how : Telling) (code : Code) (budget : ℕ) (xs : List Data) (a : Answer) → HasCodeEnd how code budget xs a → IsUnrefused a.status
code_unrefused how code budget xs a (ends inputs n o are within end is) = same_status a (outcome_answer how n o) is (outcome_unrefused how n o)
code_unrefused how code budget xs a (goes_on inputs are still is) = same_status a still_running is tt

reduction_unrefused : (P : Program) (notes : List NodeNote) (budget : ℕ) (xs : List Data) (a : Answer) → HasEnd P notes budget xs a → IsUnrefused a.status
reduction_unrefused P notes budget xs a (reaches k v x within reached same is) = same_status a (shown x) is tt
reduction_unrefused P notes budget xs a (traps k t within trap is) = same_status a (trapped t) is tt
reduction_unrefused P notes budget xs a (keeps_going going is) = same_status a still_running is tt

on_data : (types : List Ty) (given : List ℕ) (IsEnd : List Data → Answer → Type 0) (a : Answer) → ((xs : List Data) → IsEnd xs a → IsUnrefused a.status) → IsDueOn types given IsEnd a → IsUnrefused a.status
on_data types given IsEnd a f (unfit number at why is) = same_status a (data_refused number at) is tt
on_data types given IsEnd a f (fitting xs fits end) = f xs end

task_unrefused : (t : Task) (given : List ℕ) (a : Answer) → IsTaskDue t given a → IsUnrefused a.status
task_unrefused (task.Run code budget) given a due =
    on_data (types_of_inputs code) given (HasCodeEnd telling.Value code budget) a (λ xs end. code_unrefused telling.Value code budget xs a end) due
task_unrefused (task.Reduce checked budget) given a due =
    on_data (input_types (program_of checked.program)) given (EndsIn checked budget) a (λ xs end. reduction_unrefused (program_of checked.program) (notes_of checked) budget xs a end) due

-- so a task that took data has refused nothing
pub task_refuses_none : {E : Type 0} (t : Task) (input : Option (List ℕ)) (A : Type 0) (r : Result Reply E) → IfOk r (λ a. (given : List ℕ) × IsTold input given × IsTaskDue t given (seen a)) → IfOk r (λ a. (number : ℕ) (at : Span) → a.status ≡ status.Refused number at → A)
task_refuses_none t input A (Ok a) h = λ number at is. absurd (subst IsUnrefused is (task_unrefused t h.0 (seen a) h.2))
task_refuses_none t input A (Err e) h = tt

-- what holds of a reply that is a refusal
pub refused_so : {E : Type 0} (A : Type 0) (r : Result Reply E) (a : Reply) → r ≡ Ok a → IfOk r (λ x. (number : ℕ) (at : Span) → x.status ≡ status.Refused number at → A) → (number : ℕ) (at : Span) → a.status ≡ status.Refused number at → A
refused_so {E} A r a is h = subst (λ (s : Result Reply E). IfOk s (λ x. (number : ℕ) (at : Span) → x.status ≡ status.Refused number at → A)) is h
