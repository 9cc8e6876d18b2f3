-- The answers that are due.
use Rattle.std.specs.Prelude.{◌≡◌, ◌≢◌, ℕ, ◌<◌, ◌≤◌, List, [], length, Some}
use Rattle.core_syntax.specs.declared.span.Span.{Span}
use Rattle.core_syntax.specs.declared.errors.StuckKind.{StuckKind}
use Rattle.core_syntax.specs.declared.errors.TrapKind.{TrapKind}
use Rattle.core_syntax.specs.Blame.{Blames}
use Rattle.core_syntax.specs.Data.{Data, array_of_value}
use Rattle.core_syntax.specs.Lists.{each}
use Rattle.core_syntax.specs.Notes.{NodeNote, ProgramNotesAre}
use Rattle.core_syntax.specs.Start.{Reaches, SourceTraps, SourceGoes}
use Rattle.core_syntax.specs.Syntax.{Ty, Program}
use Rattle.core_syntax.specs.Typed.{typed_rules, TypedTerm}
use Rattle.core_syntax.specs.Typing.{Has, body_context}
use Rattle.array_values.specs.Data.{array_data}
use Rattle.array_values.specs.Values.{Array}
use Rattle.array_values.specs.declared.value.Value.{Value}
use Rattle.machine_table.specs.Codes.{Code}
use Rattle.machine_table.specs.Ends.{Ends}
use Rattle.machine_table.specs.Machine.{Outcome, Done, Trap, Stuck}
use Rattle.machine_table.specs.ParamTypes.{type_of}
use Rattle.machine_table.specs.ValueRules.{value_rules}
use Rattle.code_text.specs.Blame.{CodeText, Blame}
use Rattle.code_text.specs.declared.refusal.CodeKind.{CodeKind}
use Rattle.code_text.specs.declared.refusal.CodeKind.TheVariants.{Byte, End}
use Rattle.lowering.specs.Laws.{code_of_program}
use Rattle.sexp_reader.specs.Forms.{Forms}
use Rattle.sexp_reader.specs.Reads.{Reads, read_blame}
use Rattle.name_resolve.specs.Means.{NameBlame}
use Rattle.soak_gen.specs.SoakText.{program_text}
use Rattle.remora_driver.specs.declared.job.Job.{Job}
use Rattle.remora_driver.specs.declared.job.Job.TheVariants.{Check, Build, Run, Exec, Reduce, Soak}
use Rattle.remora_driver.specs.declared.status.Status.{Status}
use Rattle.remora_driver.specs.declared.status.Status.TheVariants as status
use Rattle.remora_driver.specs.declared.telling.Telling.{Telling}
use Rattle.remora_driver.specs.declared.telling.Telling.TheVariants as telling
use Rattle.remora_driver.specs.Jobs.{usual_budget, longest_source, longest_code, IsJob, IsCall}
use Rattle.remora_driver.specs.Places.{bytes_behind}
use Rattle.remora_driver.specs.Programs.{IsSource, IsAcceptedSource, IsProgram, input_types}
use Rattle.value_text.specs.DataFits.{Fits}
use Rattle.value_text.specs.DataTexts.{DataBlame}
use Rattle.value_text.specs.ValueText.{array_text}
use Rattle.remora_driver.specs.Texts.{line, told_text, accepted_text, refusal_text, data_refusal_text, trap_text, stuck_text, still_running_text, usage_text}

-- a status, and the text that is written with it
pub record Answer : Type 0 where
  pub status : Status
  pub text : List ℕ

-- a text that is made
abbrev pub written : List ℕ → Answer
written text = record { status = status.Ok; text = text }

-- the usage line
abbrev pub usage : Answer
usage = record { status = status.Usage; text = line usage_text }

-- a refusal and its line
abbrev pub refused : ℕ → Span → Answer
refused number at = record { status = status.Refused number at; text = line (refusal_text number at) }

-- the type of an accepted program's body, and its line
abbrev pub accepted : Ty → Answer
accepted t = written (line (accepted_text t))

-- a value and its line
abbrev pub shown : Array → Answer
shown a = written (line (array_text a))

-- a trap and its line
abbrev pub trapped : TrapKind → Answer
trapped kind = record { status = status.Trap kind; text = line (trap_text kind) }

-- a stuck machine and its line
abbrev pub stuck : StuckKind → Answer
stuck kind = record { status = status.Stuck kind; text = line (stuck_text kind) }

-- a budget that was used up, and its line
abbrev pub still_running : Answer
still_running = record { status = status.StillRunning; text = line still_running_text }

-- a refusal of data and its line
abbrev pub data_refused : ℕ → Span → Answer
data_refused number at = record { status = status.DataRefused number at; text = line (data_refusal_text number at) }

-- the empty place at the start of a text
abbrev pub front : Span
front = record { from = 0; to = 0; line = 1; col = 1 }

-- ---- data

-- what is due on data for inputs of these types: why it is refused, or what is due on the values that it is the text of
pub data IsDueOn (types : List Ty) (given : List ℕ) (IsEnd : List Data → Answer → Type 0) (a : Answer) : Type 0 where
  unfit : (number : ℕ) (at : Span) → DataBlame given types (number, at) → a ≡ data_refused number at → IsDueOn types given IsEnd a
  fitting : (xs : List Data) → Fits given types xs → IsEnd xs a → IsDueOn types given IsEnd a

-- what is due on the input, where it is taken as data, and what is due on no data, where it isn't
pub data IsDueBy (Taken : Type 0) (Due : List ℕ → Answer → Type 0) (input : List ℕ) (a : Answer) : Type 0 where
  with_data : Taken → Due input a → IsDueBy Taken Due input a
  without : ¬ Taken → Due [] a → IsDueBy Taken Due input a

-- ---- runs of code

-- the code on these arrays hasn't ended with any of its first steps, of which there are so many
abbrev pub StillRuns : Code → List Array → ℕ → Type 0
StillRuns code inputs budget = (n : ℕ) (o : Outcome Value) → n ≤ budget → ¬ (Ends value_rules code inputs n o)

-- a value that a run reaches at its n-th step, told so, and its line
abbrev pub reached : Telling → ℕ → Array → Answer
reached how n a = written (line (told_text how n (array_text a)))

-- the answer that shows how a run ends at its n-th step
abbrev pub outcome_answer : Telling → ℕ → Outcome Value → Answer
outcome_answer how n (Done a) = reached how n a
outcome_answer how n (Trap kind) = trapped kind
outcome_answer how n (Stuck kind) = stuck kind

-- how at most so many steps of a code end, on arrays with these values, where a value is told so
pub data HasCodeEnd (how : Telling) (code : Code) (budget : ℕ) (xs : List Data) (a : Answer) : Type 0 where
  ends : (inputs : List Array) (n : ℕ) (o : Outcome Value) → each array_data inputs ≡ xs → n ≤ budget → Ends value_rules code inputs n o → a ≡ outcome_answer how n o → HasCodeEnd how code budget xs a
  goes_on : (inputs : List Array) → each array_data inputs ≡ xs → StillRuns code inputs budget → a ≡ still_running → HasCodeEnd how code budget xs a

-- the types of a code's inputs
abbrev pub types_of_inputs : Code → List Ty
types_of_inputs code = each type_of code.params

-- what is due for a code on these data, of which so many steps may be done
abbrev pub IsCodeDue : Telling → Code → List ℕ → ℕ → Answer → Type 0
IsCodeDue how code given budget a = IsDueOn (types_of_inputs code) given (HasCodeEnd how code budget) a

-- ---- programs

-- why a program source is refused, in this order
pub data IsRefused (bytes : List ℕ) (number : ℕ) (at : Span) : Type 0 where
  too_long : longest_source < length bytes → number ≡ 31 → at ≡ front → IsRefused bytes number at
  -- 1 to 6: the text reads as no forms
  unread : length bytes ≤ longest_source → read_blame bytes ≡ Some (number, at) → IsRefused bytes number at
  -- 7 to 12: the forms that it reads as mean no program
  unresolved : (fs : Forms) → length bytes ≤ longest_source → Reads bytes fs → NameBlame fs (number, at) → IsRefused bytes number at
  -- 13 to 30: the program that it means isn't typed, or a measure is too large
  ill_typed : (P : Program) → length bytes ≤ longest_source → IsSource bytes P → Blames P (number, at) → IsRefused bytes number at

-- what is due for a program source that is checked: its refusal, or the type of its program's body
pub data IsCheckDue (bytes : List ℕ) (a : Answer) : Type 0 where
  check_refused : (number : ℕ) (at : Span) → IsRefused bytes number at → a ≡ refused number at → IsCheckDue bytes a
  checks : (P : Program) (t : Ty) → IsAcceptedSource bytes P → ∥ Has (body_context P) P.body t ∥₁ → a ≡ accepted t → IsCheckDue bytes a

-- what is due for a program source of which the code is built: its refusal, or the text of the code
pub data IsBuildDue (bytes : List ℕ) (a : Answer) : Type 0 where
  build_refused : (number : ℕ) (at : Span) → IsRefused bytes number at → a ≡ refused number at → IsBuildDue bytes a
  builds : (P : Program) (notes : List NodeNote) → IsProgram bytes P notes → a.status ≡ status.Ok → CodeText (code_of_program P notes) a.text → IsBuildDue bytes a

-- what is due for a program source that is run on data: its refusal, or how its code ends, where a value is told so
pub data IsRunDue (how : Telling) (bytes given : List ℕ) (budget : ℕ) (a : Answer) : Type 0 where
  run_refused : (number : ℕ) (at : Span) → IsRefused bytes number at → a ≡ refused number at → IsRunDue how bytes given budget a
  runs : (P : Program) (notes : List NodeNote) → IsProgram bytes P notes → IsCodeDue how (code_of_program P notes) given budget a → IsRunDue how bytes given budget a

-- what is due for the soak program with so many definitions: what is due for its text, run without data and with the usual budget, where a value is told with the steps
abbrev pub IsSoakDue : ℕ → Answer → Type 0
IsSoakDue count a = IsRunDue (telling.Soak count) (program_text count) [] usual_budget a

-- ---- reduction

-- how at most so many steps of a program's body end, with these values in the place of its inputs, where these are the notes of its nodes: a value is reached, a step traps, or the run goes on
pub data HasEnd (P : Program) (notes : List NodeNote) (budget : ℕ) (xs : List Data) (a : Answer) : Type 0 where
  reaches : (k : ℕ) (v : TypedTerm) (x : Array) → k ≤ budget → Reaches P notes xs k v → array_data x ≡ array_of_value typed_rules v → a ≡ shown x → HasEnd P notes budget xs a
  traps : (k : ℕ) (kind : TrapKind) → k ≤ budget → SourceTraps P notes xs k kind → a ≡ trapped kind → HasEnd P notes budget xs a
  keeps_going : SourceGoes P notes xs budget → a ≡ still_running → HasEnd P notes budget xs a

-- what is due for an accepted program that is reduced on these data
abbrev pub IsReductionDue : Program → List NodeNote → List ℕ → ℕ → Answer → Type 0
IsReductionDue P notes given budget a = IsDueOn (input_types P) given (HasEnd P notes budget) a

-- what is due for a program source that is reduced on data (its program has one list of notes at most, so they are those of `IsProgram`)
pub data IsReduceDue (bytes given : List ℕ) (budget : ℕ) (a : Answer) : Type 0 where
  reduce_refused : (number : ℕ) (at : Span) → IsRefused bytes number at → a ≡ refused number at → IsReduceDue bytes given budget a
  reduces : (P : Program) (notes : List NodeNote) → IsAcceptedSource bytes P → ∥ ProgramNotesAre P notes ∥₁ → IsReductionDue P notes given budget a → IsReduceDue bytes given budget a

-- ---- code texts

-- the number of a code text's refusal
abbrev pub text_number : CodeKind → ℕ
text_number Byte = 32
text_number End = 33

-- and its place: the first byte with which no code text goes on, or the end
abbrev pub text_place : CodeKind → ℕ → List ℕ → Span
text_place Byte at bytes = bytes_behind at 1 bytes
text_place End at bytes = bytes_behind at 0 bytes

-- what is due for a code text that is executed on data, in this order
pub data IsExecDue (bytes given : List ℕ) (budget : ℕ) (a : Answer) : Type 0 where
  text_too_long : longest_code < length bytes → a ≡ refused 31 front → IsExecDue bytes given budget a
  no_code : (kind : CodeKind) (at : ℕ) → length bytes ≤ longest_code → Blame kind bytes at → a ≡ refused (text_number kind) (text_place kind at bytes) → IsExecDue bytes given budget a
  executes : (c : Code) → length bytes ≤ longest_code → CodeText c bytes → IsCodeDue telling.Value c given budget a → IsExecDue bytes given budget a

-- ---- calls

-- what is due for a job on these bytes and data
abbrev pub IsJobDue : Job → List ℕ → List ℕ → Answer → Type 0
IsJobDue Check bytes given a = IsCheckDue bytes a
IsJobDue Build bytes given a = IsBuildDue bytes a
IsJobDue (Run budget) bytes given a = IsRunDue telling.Value bytes given budget a
IsJobDue (Exec budget) bytes given a = IsExecDue bytes given budget a
IsJobDue (Reduce budget) bytes given a = IsReduceDue bytes given budget a
IsJobDue (Soak count) bytes given a = IsSoakDue count a

-- the job takes data: it runs, executes or reduces, and these bytes are those of an accepted program or of a code that has inputs
abbrev pub TakesData : Job → List ℕ → Type 0
TakesData Check bytes = ⊥
TakesData Build bytes = ⊥
TakesData (Run budget) bytes = (P : Program) × IsAcceptedSource bytes P × (P.inputs ≢ [])
TakesData (Exec budget) bytes = (c : Code) × (length bytes ≤ longest_code) × CodeText c bytes × (c.params ≢ [])
TakesData (Reduce budget) bytes = (P : Program) × IsAcceptedSource bytes P × (P.inputs ≢ [])
TakesData (Soak count) bytes = ⊥

-- what is due for these words, the bytes of the program source and those of the input, which are data where the job takes some
pub data IsDue (words : List (List ℕ)) (bytes input : List ℕ) (a : Answer) : Type 0 where
  no_job : ¬ (IsCall words) → a ≡ usage → IsDue words bytes input a
  does : (job : Job) → IsJob words job → IsDueBy (TakesData job bytes) (IsJobDue job bytes) input a → IsDue words bytes input a
