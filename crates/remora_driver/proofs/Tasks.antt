-- What a job on a source or a code text comes to, before its data.
use Rattle.std.proofs.Common.{◌≡◌, refl, sym, ap, ◌∙◌, subst, ℕ, arith, List, [], ◌∷◌, length, ◌==◌, Bool as Truth, true, false, not, Result, Ok, Err}
use Rattle.std.specs.Prelude.{◌≢◌, ◌↔◌, ◌≤◌, IfOk, IsTrue, map}
use Rattle.std.proofs.lemmas.Bool.Decides.{nat_tests}
use Rattle.core_syntax.specs.declared.checked.Checked.{Checked}
use Rattle.core_syntax.specs.declared.program.Program.{Program as Tree}
use Rattle.core_syntax.specs.declared.span.Span.{Span}
use Rattle.core_syntax.specs.Lists.{each}
use Rattle.core_syntax.specs.NormTypes.{norm_ty}
use Rattle.core_syntax.specs.Refine.{ty_of}
use Rattle.core_syntax.specs.Syntax.{Ty, Program}
use Rattle.core_syntax.specs.Wholes.{program_of}
use Rattle.code_text.specs.Blame.{CodeText}
use Rattle.code_text.proofs.Verdicts.{one_code_read}
use Rattle.lowering.specs.Params.{ty_param}
use Rattle.machine_table.specs.declared.code.Param.{Param}
use Rattle.machine_table.specs.Codes.{Code, param_of}
use Rattle.remora_driver.specs.declared.answer.Answer.{Answer as Given}
use Rattle.remora_driver.specs.declared.commands.Begun.{Begun}
use Rattle.remora_driver.specs.declared.commands.Begun.TheVariants as begun
use Rattle.remora_driver.specs.declared.errors.SourceRefusal.{SourceRefusal}
use Rattle.remora_driver.specs.declared.errors.SourceRefusal.TheVariants.{Refused, Memory}
use Rattle.remora_driver.specs.declared.job.Job.{Job}
use Rattle.remora_driver.specs.declared.job.Job.TheVariants as job
use Rattle.remora_driver.specs.declared.reply.Reply.{Reply}
use Rattle.remora_driver.specs.declared.telling.Telling.TheVariants as telling
use Rattle.remora_driver.specs.declared.task.Task.{Task}
use Rattle.remora_driver.specs.declared.task.Task.TheVariants as task
use Rattle.remora_driver.specs.Calls.{TellsDue}
use Rattle.remora_driver.specs.Due.{refused, front, IsCodeDue, IsRefused, run_refused, runs, reduce_refused, reduces, text_too_long, no_code, executes, IsCheckDue, IsBuildDue, IsSoakDue, IsJobDue, TakesData}
use Rattle.remora_driver.specs.Jobs.{longest_code}
use Rattle.remora_driver.specs.Programs.{IsAcceptedSource}
use Rattle.remora_driver.specs.Reductions.{notes_of}
use Rattle.remora_driver.specs.Sources.{seen, IsCompiled, Compiles, IsNoCode, too_long, blamed, ReadsCode, ChecksSource}
use Rattle.remora_driver.specs.Tasks.{IsTaskOf, IsAnswered, TaskFor, Answers, IsBegun, AnsweredBy, Opens}
use Rattle.remora_driver.proofs.Called.{told_further}
use Rattle.remora_driver.proofs.OneBlame.{unblamed}
use Rattle.remora_driver.proofs.OneDue.{one_source, refused_same, refused_or_not}
use Rattle.remora_driver.proofs.Reductions.{notes_are}

-- ---- inputs

-- a list is none just where each of its items is
each_none : {A B : Type 0} (f : A → B) (xs : List A) → each f xs ≡ [] → xs ≡ []
each_none f [] e = refl
each_none f (x ∷ xs) e = absurd (cc)

-- no input has no parameter, and the other way
params_none : (ts : List Ty) → ts ≡ [] → each ty_param (each norm_ty ts) ≡ []
params_none ts e = ap (λ (us : List Ty). each ty_param (each norm_ty us)) e

inputs_none : (ts : List Ty) → each ty_param (each norm_ty ts) ≡ [] → ts ≡ []
inputs_none ts e = each_none norm_ty ts (each_none ty_param (each norm_ty ts) e)

-- a code of a source has inputs just where its program has
run_takes : (bytes : List ℕ) (budget : ℕ) (code : Code) → IsCompiled bytes code → (code.params ≢ []) ↔ TakesData (job.Run budget) bytes
run_takes bytes budget code is = (
  λ some. (is.program, is.runs.source, λ none. some (ap (λ (c : Code). c.params) is.compiled ∙ params_none is.program.inputs none)),
  λ takes none. takes.2 (ap (λ (P : Program). P.inputs) (one_source bytes takes.0 is.program takes.1.means is.runs.source.means) ∙ inputs_none is.program.inputs (sym (ap (λ (c : Code). c.params) is.compiled) ∙ none)),
)

exec_takes : (bytes : List ℕ) (budget : ℕ) (code : Code) → length bytes ≤ longest_code → CodeText code bytes → (code.params ≢ []) ↔ TakesData (job.Exec budget) bytes
exec_takes bytes budget code short text = (
  λ some. (code, short, text, some),
  λ takes none. takes.3 (ap (λ (c : Code). c.params) (one_code_read takes.0 code bytes takes.2 text) ∙ none),
)

reduce_takes : (bytes : List ℕ) (budget : ℕ) (P : Program) → IsAcceptedSource bytes P → (P.inputs ≢ []) ↔ TakesData (job.Reduce budget) bytes
reduce_takes bytes budget P is = (
  λ some. (P, is, some),
  λ takes none. takes.2 (ap (λ (Q : Program). Q.inputs) (one_source bytes takes.0 P takes.1.means is.means) ∙ none),
)

-- ---- the tests of a task

true_or_not : (b : Truth) (A : Type 0) → IsTrue b ↔ A → IsTrue (not b) ↔ ¬ A
true_or_not true A tells = (λ h. absurd (cc), λ none. absurd (none (tells.0 refl)))
true_or_not false A tells = (λ h is. let x = tells.1 is in absurd (cc), λ none. refl)

-- a code has parameters
pub has_params : (c : Code) (params : List Param) (b : Truth) → map param_of params ≡ c.params → b ≡ (length params == 0) → IsTrue (not b) ↔ (c.params ≢ [])
has_params c [] b are tells = true_or_not b (c.params ≡ []) (λ h. sym are, λ none. tells)
has_params c (p ∷ ps) b are tells = true_or_not b (c.params ≡ []) (λ h. absurd (grind (arith, nat_tests)), λ none. let e = are ∙ none in absurd (cc))

-- a checked program has inputs
pub has_inputs : (c : Checked) (P : Tree) (b : Truth) → P ≡ c.program → IsTrue b ↔ (P.inputs ≡ []) → IsTrue (not b) ↔ ((program_of c.program).inputs ≢ [])
has_inputs c P b same tells = true_or_not b ((program_of c.program).inputs ≡ []) (
  λ h. ap (λ (Q : Tree). (program_of Q).inputs) (sym same) ∙ ap (each ty_of) (tells.0 h),
  λ none. tells.1 (each_none ty_of P.inputs (ap (λ (Q : Tree). (program_of Q).inputs) same ∙ none)),
)

-- ---- tasks

pub run_task_of : (bytes : List ℕ) (budget : ℕ) (code : Code) → IsCompiled bytes code → IsTaskOf (job.Run budget) bytes (task.Run code budget)
run_task_of bytes budget code is =
    record {
      due = λ given a due. runs is.program is.notes is.runs (subst (λ (c : Code). IsCodeDue telling.Value c given budget a) is.compiled due);
      takes = run_takes bytes budget code is;
    }

pub exec_task_of : (bytes : List ℕ) (budget : ℕ) (code : Code) → length bytes ≤ longest_code → CodeText code bytes → IsTaskOf (job.Exec budget) bytes (task.Run code budget)
exec_task_of bytes budget code short text = record { due = λ given a due. executes code short text due; takes = exec_takes bytes budget code short text }

pub reduce_task_of : (bytes : List ℕ) (budget : ℕ) (c : Checked) → IsAcceptedSource bytes (program_of c.program) → IsTaskOf (job.Reduce budget) bytes (task.Reduce c budget)
reduce_task_of bytes budget c is =
    record {
      due = λ given a due. reduces (program_of c.program) (notes_of c) is (notes_are c) due;
      takes = reduce_takes bytes budget (program_of c.program) is;
    }

-- ---- why there is none

run_answered : (bytes : List ℕ) (budget number : ℕ) (at : Span) → IsRefused bytes number at → IsAnswered (job.Run budget) bytes (refused number at)
run_answered bytes budget number at why = record { due = λ given. run_refused number at why refl; takes_none = λ takes. refused_or_not bytes number at takes.0 why takes.1 }

exec_answered : (bytes : List ℕ) (budget number : ℕ) (at : Span) → IsNoCode bytes number at → IsAnswered (job.Exec budget) bytes (refused number at)
exec_answered bytes budget number at (too_long long e h) =
    record { due = λ given. text_too_long long (refused_same number 31 at front e h); takes_none = λ takes. let short = takes.1 in absurd (omega (arith, long, short)) }
exec_answered bytes budget number at (blamed kind place short why e h) =
    record { due = λ given. no_code kind place short why (refused_same number _ at _ e h); takes_none = λ takes. unblamed bytes kind place takes.0 why takes.2 }

reduce_answered : (bytes : List ℕ) (budget number : ℕ) (at : Span) → IsRefused bytes number at → IsAnswered (job.Reduce budget) bytes (refused number at)
reduce_answered bytes budget number at why = record { due = λ given. reduce_refused number at why refl; takes_none = λ takes. refused_or_not bytes number at takes.0 why takes.1 }

pub run_untasked : (bytes : List ℕ) (budget : ℕ) (e : SourceRefusal) → Compiles bytes (Err e) → TaskFor (job.Run budget) bytes (Err e)
run_untasked bytes budget (Refused number at) why = run_answered bytes budget number at why
run_untasked bytes budget Memory why = tt

pub exec_untasked : (bytes : List ℕ) (budget : ℕ) (e : SourceRefusal) → ReadsCode bytes (Err e) → TaskFor (job.Exec budget) bytes (Err e)
exec_untasked bytes budget (Refused number at) why = exec_answered bytes budget number at why
exec_untasked bytes budget Memory why = tt

pub reduce_untasked : (bytes : List ℕ) (budget : ℕ) (e : SourceRefusal) → ChecksSource bytes (Err e) → TaskFor (job.Reduce budget) bytes (Err e)
reduce_untasked bytes budget (Refused number at) why = reduce_answered bytes budget number at why
reduce_untasked bytes budget Memory why = tt

-- ---- answers

-- the answer of a job's task, or of why there is none, is due
pub answers_due : (j : Job) (bytes given : List ℕ) (r : Result Task SourceRefusal) (g : Given) → TaskFor j bytes r → Answers r given g → TellsDue (IsJobDue j bytes given) g
answers_due j bytes given (Ok t) g is h = told_further _ (IsJobDue j bytes given) g (is.due given) h
answers_due j bytes given (Err (Refused number at)) g is h = subst (TellsDue (IsJobDue j bytes given)) (sym h) (refused number at, is.due given, refl)
answers_due j bytes given (Err Memory) g is h = subst (TellsDue (IsJobDue j bytes given)) (sym h) tt

-- ---- what a job comes to before its data

-- a check, a build and the soak program are answered
pub check_answered : {E : Type 0} (bytes : List ℕ) (r : Result Reply E) → IfOk r (λ a. IsCheckDue bytes (seen a)) → IfOk r (λ a. IsAnswered job.Check bytes (seen a))
check_answered bytes (Ok a) due = record { due = λ given. due; takes_none = λ takes. takes }
check_answered bytes (Err e) due = tt

pub build_answered : {E : Type 0} (bytes : List ℕ) (r : Result Reply E) → IfOk r (λ a. IsBuildDue bytes (seen a)) → IfOk r (λ a. IsAnswered job.Build bytes (seen a))
build_answered bytes (Ok a) due = record { due = λ given. due; takes_none = λ takes. takes }
build_answered bytes (Err e) due = tt

pub soak_answered : {E : Type 0} (count : ℕ) (bytes : List ℕ) (r : Result Reply E) → IfOk r (λ a. IsSoakDue count (seen a)) → IfOk r (λ a. IsAnswered (job.Soak count) bytes (seen a))
soak_answered count bytes (Ok a) due = record { due = λ given. due; takes_none = λ takes. takes }
soak_answered count bytes (Err e) due = tt

-- a refusal in the place of a task is the answer
pub refused_opens : {E F : Type 0} (number : ℕ) (at : Span) (r : Result Reply E) (s : Result Begun F) → IfOk r (λ a. seen a ≡ refused number at) → IfOk s (λ b. AnsweredBy r b) → IfOk s (λ b. Opens (Err (Refused number at)) b)
refused_opens number at (Ok a) (Ok b) is by = subst (Opens (Err (Refused number at))) (sym by) is
refused_opens number at (Err e) (Ok b) is by = absurd by
refused_opens number at r (Err e) is by = tt

-- an answer and a task are those of the job
pub begun_answered : {E F : Type 0} (j : Job) (bytes : List ℕ) (r : Result Reply E) (s : Result Begun F) → IfOk r (λ a. IsAnswered j bytes (seen a)) → IfOk s (λ b. AnsweredBy r b) → IfOk s (λ b. IsBegun j bytes b)
begun_answered j bytes (Ok a) (Ok b) is by = subst (IsBegun j bytes) (sym by) is
begun_answered j bytes (Err e) (Ok b) is by = absurd by
begun_answered j bytes r (Err e) is by = tt

pub begun_opened : {F : Type 0} (j : Job) (bytes : List ℕ) (r : Result Task SourceRefusal) (s : Result Begun F) → TaskFor j bytes r → IfOk s (λ b. Opens r b) → IfOk s (λ b. IsBegun j bytes b)
begun_opened j bytes (Ok t) (Ok b) is opens = subst (IsBegun j bytes) (sym opens) is
begun_opened j bytes (Err (Refused number at)) (Ok (begun.Answered a)) is opens = subst (IsAnswered j bytes) (sym opens) is
begun_opened j bytes (Err (Refused number at)) (Ok (begun.Open t)) is opens = absurd opens
begun_opened j bytes (Err Memory) (Ok b) is opens = absurd opens
begun_opened j bytes r (Err e) is opens = tt
