-- What is due for a source, from what the reader, the names, the checker and the compiler say.
use Rattle.std.proofs.Common.{◌≡◌, sym, subst, ℕ, ◌≤◌, List, length, Result, Ok, Err}
use Rattle.std.specs.Prelude.{IfOk, IfErr}
use Rattle.std.proofs.Math.Logic.{∥∥₁_map}
use Rattle.core_syntax.specs.declared.checked.Checked.{Checked}
use Rattle.core_syntax.specs.declared.program.Program.{Program}
use Rattle.core_syntax.specs.Wholes.{program_of}
use Rattle.sexp_reader.specs.Forms.{Forms}
use Rattle.sexp_reader.specs.Reads.{Reads}
use Rattle.machine_table.specs.Codes.{Code}
use Rattle.type_check.proofs.whole_programs.Accepted.{accepted_typed}
use Rattle.remora_driver.specs.declared.errors.SourceRefusal.{SourceRefusal}
use Rattle.remora_driver.specs.declared.errors.SourceRefusal.TheVariants.{Refused, Memory}
use Rattle.remora_driver.specs.Due.{unresolved, ill_typed}
use Rattle.remora_driver.specs.Jobs.{longest_source}
use Rattle.remora_driver.specs.Programs.{IsSource, IsAcceptedSource}
use Rattle.remora_driver.specs.Reductions.{notes_of}
use Rattle.remora_driver.specs.Sources.{Resolves, ResolvesSource, ChecksProgram, ChecksSource, IsCodeOf, Compiles}
use Rattle.remora_driver.proofs.Ready.{checked_made}

-- a source that reads as forms
pub source_resolved : (bytes : List ℕ) (fs : Forms) (r : Result Program SourceRefusal) → length bytes ≤ longest_source → Reads bytes fs → Resolves fs r → ResolvesSource bytes r
source_resolved bytes fs (Ok P) short reads is = record { forms = fs; reads = reads; means = is }
source_resolved bytes fs (Err (Refused number at)) short reads is = unresolved fs short reads is
source_resolved bytes fs (Err Memory) short reads is = tt

-- the check of a source's program
pub source_checked : (bytes : List ℕ) (P : Program) (r : Result Checked SourceRefusal) → length bytes ≤ longest_source → IsSource bytes (program_of P) → ChecksProgram P r → ChecksSource bytes r
source_checked bytes P (Ok c) short is same =
    record {
      short = short;
      means = subst (λ (Q : Program). IsSource bytes (program_of Q)) (sym same) is;
      accepted = ∥∥₁_map c.checked (λ x. x.accepted);
      typed = ∥∥₁_map c.checked (λ x. accepted_typed (program_of c.program) c.program.well_made x.accepted);
    }
source_checked bytes P (Err (Refused number at)) short is blamed = ill_typed (program_of P) short is blamed
source_checked bytes P (Err Memory) short is blamed = tt

-- the code of a source's program
pub source_compiled : (bytes : List ℕ) (c : Checked) (r : Result Code SourceRefusal) → IsAcceptedSource bytes (program_of c.program) → IfOk r (λ code. IsCodeOf c code) → IfErr r (λ e. e ≡ Memory) → Compiles bytes r
source_compiled bytes c (Ok code) is h lost =
    record { program = program_of c.program; notes = notes_of c; runs = record { source = is; literals = h.literals; made = checked_made c }; compiled = h.compiled }
source_compiled bytes c (Err e) is h lost = subst (λ (r : SourceRefusal). Compiles bytes (Err r)) (sym lost) tt

-- a source that isn't accepted has no code
pub not_compiled : (bytes : List ℕ) (e : SourceRefusal) → ChecksSource bytes (Err e) → Compiles bytes (Err e)
not_compiled bytes (Refused number at) why = why
not_compiled bytes Memory why = tt
