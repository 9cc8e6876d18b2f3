-- What is due, from what the code and the machine say.
use Rattle.std.proofs.Common.{◌≡◌, refl, sym, ap, subst, ℕ, suc, ◌+◌, ◌<◌, max, arith, List, [], ◌∷◌, length, Option, Some, None, Result, Ok, Err}
use Rattle.std.specs.Prelude.{IfOk, IfErr, IfSome, IsTrue}
use Rattle.core_syntax.specs.declared.span.Span.{Span}
use Rattle.core_syntax.specs.Data.{FitsType}
use Rattle.core_syntax.specs.Lists.{each, EachTwo}
use Rattle.core_syntax.specs.Syntax.{Ty, Program}
use Rattle.core_syntax.specs.Typing.{Has, body_context}
use Rattle.array_values.specs.Data.{array_data}
use Rattle.array_values.specs.Values.{Array}
use Rattle.code_text.specs.Blame.{CodeText}
use Rattle.machine.specs.declared.running.Outcome.{Outcome}
use Rattle.machine.specs.declared.running.Outcome.TheVariants as outcome
use Rattle.machine.specs.Answers.{Answers}
use Rattle.machine.proofs.Runs.{never}
use Rattle.machine_table.specs.Codes.{Code, Param}
use Rattle.machine_table.specs.Machine.{Goes, start}
use Rattle.machine_table.specs.Machine as table
use Rattle.machine_table.specs.ParamTypes.{type_of}
use Rattle.machine_table.specs.ValueRules.{value_rules}
use Rattle.remora_driver.specs.declared.errors.SourceRefusal.{SourceRefusal}
use Rattle.remora_driver.specs.declared.errors.SourceRefusal.TheVariants as no_text
use Rattle.remora_driver.specs.declared.reply.Reply.{Reply}
use Rattle.remora_driver.specs.declared.running.Ended.{Ended}
use Rattle.remora_driver.specs.declared.telling.Telling.{Telling}
use Rattle.remora_driver.specs.Calls.{RefusesBuild}
use Rattle.remora_driver.specs.Due.{Answer, written, refused, accepted, front, usage, HasCodeEnd, ends, goes_on, IsRefused, too_long, IsCheckDue, check_refused, checks, IsBuildDue, build_refused, builds, run_refused, text_too_long, reduce_refused, without, IsJobDue, TakesData, no_job, does}
use Rattle.remora_driver.specs.Jobs.{longest, reads_source, IsJob}
use Rattle.remora_driver.specs.declared.job.Job.{Job}
use Rattle.remora_driver.specs.declared.job.Job.TheVariants.{Check, Build, Run, Exec, Reduce, Soak}
use Rattle.remora_driver.specs.Programs.{IsAcceptedSource}
use Rattle.remora_driver.specs.Sources.{IsCompiled, Compiles, seen, told}
use Rattle.remora_driver.specs.Top.{IsDueFor, IsJobDueFor}
use Rattle.remora_driver.proofs.Answers.{told_some, some_bytes}

-- ---- codes

-- what a machine that has done nothing answers
pub answered : {E : Type 0} (r : Result Ended E) (code own : Code) (inputs owned : List Array) (budget steps : ℕ) → own ≡ code → owned ≡ inputs → steps ≡ 0 → IfOk r (λ e. Answers own owned (max budget steps) e.steps e.outcome) → IfOk r (λ e. Answers code inputs budget e.steps e.outcome)
answered (Ok e) code own inputs owned budget steps same are none h =
    let most : max budget steps ≡ budget = omega (arith, none) in
    subst (λ (c : Code). Answers c inputs budget e.steps e.outcome) same
    (subst (λ (xs : List Array). Answers own xs budget e.steps e.outcome) are (subst (λ (m : ℕ). Answers own owned m e.steps e.outcome) most h))
answered (Err e) code own inputs owned budget steps same are none h = tt

-- how a code ends, from what the machine answers
pub code_ends : (how : Telling) (code : Code) (inputs : List Array) (budget k : ℕ) (o : Outcome) → Answers code inputs budget k o → HasCodeEnd how code budget (each array_data inputs) (told how k o)
code_ends how code inputs budget k (outcome.Done a) h = ends inputs k (table.Done a) refl h.0 h.1 refl
code_ends how code inputs budget k (outcome.Trap t) h = ends inputs k (table.Trap t) refl h.0 h.1 refl
code_ends how code inputs budget k (outcome.Stuck t) h = ends inputs k (table.Stuck t) refl h.0 h.1 refl
code_ends how code inputs budget k outcome.Going h =
    goes_on inputs refl (λ n o within end. never code.blocks budget n (Goes (start value_rules code.blocks inputs)) o h.1.0 within end h.1.1) refl

-- there are as many arrays that fit as types
pub as_many : (ps : List Param) (inputs : List Array) → EachTwo FitsType (each type_of ps) (each array_data inputs) → length inputs ≡ length ps
as_many [] [] fits = refl
as_many [] (a ∷ inputs) fits = absurd fits
as_many (p ∷ ps) [] fits = absurd fits
as_many (p ∷ ps) (a ∷ inputs) fits = ap suc (as_many ps inputs fits.1)

-- the text of the code that a source has
pub text_due : {T : Type 0} (bytes : List ℕ) (code : Code) (bytes_of : T → List ℕ) (r : Result T SourceRefusal) → IsCompiled bytes code → IfOk r (λ text. CodeText code (bytes_of text)) → IfOk r (λ text. IsBuildDue bytes (written (bytes_of text)))
text_due bytes code bytes_of (Ok text) is h = builds is.program is.notes is.runs refl (subst (λ (c : Code). CodeText c (bytes_of text)) is.compiled h)
text_due bytes code bytes_of (Err e) is h = tt

-- that there was no memory for it is no refusal
pub text_lost : {T : Type 0} (bytes : List ℕ) (r : Result T SourceRefusal) → IfErr r (λ e. e ≡ no_text.Memory) → IfErr r (λ e. RefusesBuild bytes e)
text_lost bytes (Ok text) h = tt
text_lost bytes (Err e) h = subst (RefusesBuild bytes) (sym h) tt

-- a source that has no code isn't built
pub not_built : (bytes : List ℕ) (e : SourceRefusal) → Compiles bytes (Err e) → RefusesBuild bytes e
not_built bytes (no_text.Refused number at) why = build_refused number at why refl
not_built bytes no_text.Memory why = tt

-- ---- checks

pub check_due : {E : Type 0} (bytes : List ℕ) (P : Program) (t : Ty) (r : Result Reply E) → IsAcceptedSource bytes P → ∥ Has (body_context P) P.body t ∥₁ → IfOk r (λ a. seen a ≡ accepted t) → IfOk r (λ a. IsCheckDue bytes (seen a))
check_due bytes P t (Ok a) is has h = checks P t is has h
check_due bytes P t (Err e) is has h = tt

pub refused_check : {E : Type 0} (bytes : List ℕ) (number : ℕ) (at : Span) (r : Result Reply E) → IsRefused bytes number at → IfOk r (λ a. seen a ≡ refused number at) → IfOk r (λ a. IsCheckDue bytes (seen a))
refused_check bytes number at (Ok a) is h = check_refused number at is h
refused_check bytes number at (Err e) is h = tt

pub built_due : {E : Type 0} (bytes : List ℕ) (a : Answer) (r : Result Reply E) → IsBuildDue bytes a → IfOk r (λ x. seen x ≡ a) → IfOk r (λ x. IsBuildDue bytes (seen x))
built_due bytes a (Ok x) due h = subst (IsBuildDue bytes) (sym h) due
built_due bytes a (Err e) due h = tt

-- ---- calls

-- bytes that are too long are refused whatever the data, and take none
job_too_long : (job : Job) (bytes given : List ℕ) (a : Answer) → IsTrue (reads_source job) → longest job < length bytes → a ≡ refused 31 front → IsJobDue job bytes given a
job_too_long Check bytes given a reads long is = check_refused 31 front (too_long long refl refl) is
job_too_long Build bytes given a reads long is = build_refused 31 front (too_long long refl refl) is
job_too_long (Run budget) bytes given a reads long is = run_refused 31 front (too_long long refl refl) is
job_too_long (Exec budget) bytes given a reads long is = text_too_long long is
job_too_long (Reduce budget) bytes given a reads long is = reduce_refused 31 front (too_long long refl refl) is
job_too_long (Soak count) bytes given a reads long is = absurd (cc)

takes_no_data : (job : Job) (bytes : List ℕ) → longest job < length bytes → TakesData job bytes → ⊥
takes_no_data Check bytes long takes = takes
takes_no_data Build bytes long takes = takes
takes_no_data (Run budget) bytes long takes = let short = takes.1.short in absurd (omega (arith, long, short))
takes_no_data (Exec budget) bytes long takes = let short = takes.1 in absurd (omega (arith, long, short))
takes_no_data (Reduce budget) bytes long takes = let short = takes.1.short in absurd (omega (arith, long, short))
takes_no_data (Soak count) bytes long takes = takes

-- a source that is too long is refused
pub told_too_long : (job : Job) (left input : Option (List ℕ)) (a : Answer) → IsTrue (reads_source job) → IfSome left (λ bytes. longest job < length bytes) → a ≡ refused 31 front → IsJobDueFor job left input a
told_too_long job (Some bytes) input a reads long is =
    let given = told_some input in
    (bytes, given.0, refl, given.1, without (λ takes. takes_no_data job bytes long takes) (job_too_long job bytes [] a reads long is))
told_too_long job None input a reads long is =
    let others = some_bytes (longest job + 1) in
    let given = told_some input in
    let over : longest job < length others.0 = omega (arith, others.1) in
    (others.0, given.0, tt, given.1, without (λ takes. takes_no_data job others.0 over takes) (job_too_long job others.0 [] a reads over is))

-- the answer of a job is due
pub job_is_due : {E : Type 0} (words : List (List ℕ)) (left input : Option (List ℕ)) (job : Job) (r : Result Reply E) → IsJob words job → IfOk r (λ a. IsJobDueFor job left input (seen a)) → IfOk r (λ a. IsDueFor words left input (seen a))
job_is_due words left input job (Ok a) is h = (h.0, h.1, h.2, h.3, does job is h.4)
job_is_due words left input job (Err e) is due = tt

-- so is the usage line of other words
pub usage_is_due : (words : List (List ℕ)) (left input : Option (List ℕ)) (a : Answer) → ((j : Job) → ¬ (IsJob words j)) → a ≡ usage → IsDueFor words left input a
usage_is_due words left input a none is =
    let some = told_some left in
    let given = told_some input in
    (some.0, given.0, some.1, given.1, no_job (λ call. none call.0 call.1) is)
