-- What reading a program source says, and how an answer of the code is seen.
use Rattle.std.specs.Prelude.{◌≡◌, ℕ, ◌<◌, ◌≤◌, List, length, Result, Ok, Err, ⊤}
use Rattle.core_syntax.specs.declared.checked.Checked.{Checked}
use Rattle.core_syntax.specs.declared.program.Program.{Program}
use Rattle.core_syntax.specs.declared.span.Span.{Span}
use Rattle.core_syntax.specs.Blame.{Blames}
use Rattle.core_syntax.specs.Lists.{each}
use Rattle.core_syntax.specs.Literals.{LiteralsFit}
use Rattle.core_syntax.specs.Notes.{NodeNote, note_of}
use Rattle.core_syntax.specs.Syntax as syntax
use Rattle.core_syntax.specs.Wholes.{program_of}
use Rattle.sexp_reader.specs.Forms.{Forms}
use Rattle.name_resolve.specs.Means.{Means, NameBlame}
use Rattle.machine.specs.declared.running.Outcome.{Outcome}
use Rattle.machine.specs.declared.running.Outcome.TheVariants as outcome
use Rattle.lowering.specs.Laws.{code_of_program}
use Rattle.machine_table.specs.Codes.{Code}
use Rattle.code_text.specs.Blame.{Blame, CodeText}
use Rattle.code_text.specs.declared.refusal.CodeKind.{CodeKind}
use Rattle.remora_driver.specs.declared.reply.Reply.{Reply}
use Rattle.remora_driver.specs.declared.telling.Telling.{Telling}
use Rattle.remora_driver.specs.declared.errors.SourceRefusal.{SourceRefusal}
use Rattle.remora_driver.specs.declared.errors.SourceRefusal.TheVariants as no_code
use Rattle.remora_driver.specs.Due.{Answer, front, IsRefused, text_number, text_place, reached, trapped, stuck, still_running}
use Rattle.remora_driver.specs.Jobs.{longest_code}
use Rattle.remora_driver.specs.Programs.{IsSource, IsAcceptedSource, IsProgram}

-- the program that the forms mean, or why they mean none, or there was no memory
abbrev pub Resolves : Forms → Result Program SourceRefusal → Type 0
Resolves fs (Ok P) = Means fs (program_of P)
Resolves fs (Err (no_code.Refused number at)) = NameBlame fs (number, at)
Resolves fs (Err no_code.Memory) = ⊤

-- the program that the text means, or why the source is refused, or there was no memory
abbrev pub ResolvesSource : List ℕ → Result Program SourceRefusal → Type 0
ResolvesSource bytes (Ok P) = IsSource bytes (program_of P)
ResolvesSource bytes (Err (no_code.Refused number at)) = IsRefused bytes number at
ResolvesSource bytes (Err no_code.Memory) = ⊤

-- the program, checked, or the first premise that isn't met, or there was no memory
abbrev pub ChecksProgram : Program → Result Checked SourceRefusal → Type 0
ChecksProgram P (Ok c) = c.program ≡ P
ChecksProgram P (Err (no_code.Refused number at)) = Blames (program_of P) (number, at)
ChecksProgram P (Err no_code.Memory) = ⊤

-- the program that the text means, checked, or why the source is refused, or there was no memory
abbrev pub ChecksSource : List ℕ → Result Checked SourceRefusal → Type 0
ChecksSource bytes (Ok c) = IsAcceptedSource bytes (program_of c.program)
ChecksSource bytes (Err (no_code.Refused number at)) = IsRefused bytes number at
ChecksSource bytes (Err no_code.Memory) = ⊤

-- the code of a checked program, whose literals are those that a text can hold
pub record IsCodeOf (c : Checked) (code : Code) : Type 0 where
  pub literals : LiteralsFit (program_of c.program)
  pub compiled : code ≡ code_of_program (program_of c.program) (each note_of c.notes)

-- this is the code of the program that the text means
pub record IsCompiled (bytes : List ℕ) (code : Code) : Type 0 where
  pub program : syntax.Program
  pub notes : List NodeNote
  pub runs : IsProgram bytes program notes
  pub compiled : code ≡ code_of_program program notes

-- the code of the program, or why the source is refused, or there was no memory
abbrev pub Compiles : List ℕ → Result Code SourceRefusal → Type 0
Compiles bytes (Ok code) = IsCompiled bytes code
Compiles bytes (Err (no_code.Refused number at)) = IsRefused bytes number at
Compiles bytes (Err no_code.Memory) = ⊤

-- why bytes are no text of a code, in this order
pub data IsNoCode (bytes : List ℕ) (number : ℕ) (at : Span) : Type 0 where
  too_long : longest_code < length bytes → number ≡ 31 → at ≡ front → IsNoCode bytes number at
  blamed : (kind : CodeKind) (place : ℕ) → length bytes ≤ longest_code → Blame kind bytes place → number ≡ text_number kind → at ≡ text_place kind place bytes → IsNoCode bytes number at

-- the code with this text, or why there is none, or there was no memory
abbrev pub ReadsCode : List ℕ → Result Code SourceRefusal → Type 0
ReadsCode bytes (Ok code) = (length bytes ≤ longest_code) × CodeText code bytes
ReadsCode bytes (Err (no_code.Refused number at)) = IsNoCode bytes number at
ReadsCode bytes (Err no_code.Memory) = ⊤

-- the status and the bytes of a reply
abbrev pub seen : Reply → Answer
seen a = record { status = a.status; text = a.text.items }

-- the answer that shows what a machine answered after so many steps, where a value is told so
abbrev pub told : Telling → ℕ → Outcome → Answer
told how n (outcome.Done a) = reached how n a
told how n (outcome.Trap kind) = trapped kind
told how n outcome.Going = still_running
told how n (outcome.Stuck kind) = stuck kind
