-- What is due for a program that runs or is built, and for the soak program, is what typed reduction of the program comes to.
use Rattle.std.specs.Prelude.{◌≡◌, ℕ, ◌+◌, ◌*◌, ◌<◌, ◌≤◌, List, [], ⊤}
use Rattle.core_syntax.specs.declared.errors.TrapKind.{TrapKind}
use Rattle.core_syntax.specs.declared.span.Span.{Span}
use Rattle.core_syntax.specs.Data.{FitsValues, array_of_value}
use Rattle.core_syntax.specs.Lists.{each}
use Rattle.core_syntax.specs.Made.{nodes}
use Rattle.core_syntax.specs.Notes.{NodeNote}
use Rattle.core_syntax.specs.Start.{Reaches, SourceTraps}
use Rattle.core_syntax.specs.Syntax.{Program}
use Rattle.core_syntax.specs.Typed.{typed_rules, TypedTerm}
use Rattle.array_values.specs.Data.{array_data}
use Rattle.array_values.specs.Values.{Array}
use Rattle.machine_table.specs.Ends.{Ends}
use Rattle.machine_table.specs.Machine.{Done, Trap}
use Rattle.machine_table.specs.ValueRules.{value_rules}
use Rattle.code_text.specs.Blame.{CodeText}
use Rattle.lowering.specs.Laws.{code_of_program}
use Rattle.compiled_laws.specs.Laws.{Bounds, DoesAsSource, SourceEnds}
use Rattle.value_text.specs.DataFits.{Fits}
use Rattle.value_text.specs.DataTexts.{DataBlame}
use Rattle.remora_driver.specs.declared.job.Job.{Job}
use Rattle.remora_driver.specs.declared.job.Job.TheVariants.{Build, Run, Soak}
use Rattle.remora_driver.specs.declared.telling.Telling.{Telling}
use Rattle.remora_driver.specs.declared.telling.Telling.TheVariants as telling
use Rattle.remora_driver.specs.Due.{Answer, refused, data_refused, reached, trapped, still_running, StillRuns, IsRefused, IsDueBy, TakesData}
use Rattle.remora_driver.specs.Jobs.{usual_budget, IsJob}
use Rattle.soak_gen.specs.SoakText.{program_text}
use Rattle.remora_driver.specs.Programs.{IsAcceptedSource, IsProgram, input_types}

-- What typed reduction of a program comes to on these arrays in the place of its inputs, where its code may do so many steps and a value is told so: the value that is reached or the trap that is met, at its k-th step and the n-th of the code, which bound each other; or the code hasn't ended, and reduction ends only at a k with the budget below 16 * S * (k + 1), where S is the number of nodes.
pub data ShowsReduction (how : Telling) (P : Program) (notes : List NodeNote) (inputs : List Array) (budget : ℕ) (a : Answer) : Type 0 where
  value : (n k : ℕ) (v : TypedTerm) (x : Array) → n ≤ budget → Ends value_rules (code_of_program P notes) inputs n (Done x) → Reaches P notes (each array_data inputs) k v → array_data x ≡ array_of_value typed_rules v
      → Bounds P n k → a ≡ reached how n x → ShowsReduction how P notes inputs budget a
  trap : (n k : ℕ) (kind : TrapKind) → n ≤ budget → Ends value_rules (code_of_program P notes) inputs n (Trap kind) → SourceTraps P notes (each array_data inputs) k kind → Bounds P n k
      → a ≡ trapped kind → ShowsReduction how P notes inputs budget a
  unfinished : StillRuns (code_of_program P notes) inputs budget → ((k : ℕ) → SourceEnds P notes (each array_data inputs) k → budget < 16 * (nodes P * (k + 1)))
      → a ≡ still_running → ShowsReduction how P notes inputs budget a

-- what is answered for a source that is run on data: why the source is refused, why the data is, or what typed reduction of its program on that data comes to
pub data IsRunMeant (how : Telling) (bytes given : List ℕ) (budget : ℕ) (a : Answer) : Type 0 where
  not_run : (number : ℕ) (at : Span) → IsRefused bytes number at → a ≡ refused number at → IsRunMeant how bytes given budget a
  not_fit : (P : Program) (number : ℕ) (at : Span) → IsAcceptedSource bytes P → DataBlame given (input_types P) (number, at) → a ≡ data_refused number at → IsRunMeant how bytes given budget a
  shows : (P : Program) (notes : List NodeNote) (inputs : List Array) → IsProgram bytes P notes → Fits given (input_types P) (each array_data inputs) → ∥ ShowsReduction how P notes inputs budget a ∥₁ → IsRunMeant how bytes given budget a

-- the code does as the program by typed reduction, and is never stuck, on all arrays that fit the program's inputs
abbrev pub AlwaysDoes : Program → List NodeNote → Type 0
AlwaysDoes P notes = (inputs : List Array) → FitsValues (input_types P) (each array_data inputs) → ∥ DoesAsSource P notes inputs ∥₁

-- what is answered for a source that is built: why it is refused, or the text of a code that does as its program does
pub data IsBuildMeant (bytes : List ℕ) (a : Answer) : Type 0 where
  not_built : (number : ℕ) (at : Span) → IsRefused bytes number at → a ≡ refused number at → IsBuildMeant bytes a
  gives : (P : Program) (notes : List NodeNote) → IsProgram bytes P notes → CodeText (code_of_program P notes) a.text → AlwaysDoes P notes → IsBuildMeant bytes a

-- the same of these jobs, on data
abbrev pub IsJobMeant : Job → List ℕ → List ℕ → Answer → Type 0
IsJobMeant Build bytes given a = IsBuildMeant bytes a
IsJobMeant (Run budget) bytes given a = IsRunMeant telling.Value bytes given budget a
IsJobMeant (Soak count) bytes given a = IsRunMeant (telling.Soak count) (program_text count) [] usual_budget a
IsJobMeant _ bytes given a = ⊤

-- and of words that ask for them, where the bytes of the input are data if the job takes some
abbrev pub IsMeant : List (List ℕ) → List ℕ → List ℕ → Answer → Type 0
IsMeant words bytes input a = (job : Job) → IsJob words job → IsDueBy (TakesData job bytes) (IsJobMeant job bytes) input a
