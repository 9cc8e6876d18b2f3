-- One answer is due.
use Rattle.std.proofs.Common.{◌≡◌, sym, ap, ◌∙◌, subst, ℕ, arith, List, [], ◌++◌, Option, Some, Ok, Err}
use Rattle.std.proofs.lemmas.Option.{none-some}
use Rattle.std.proofs.Math.Logic.{∥∥₁_elim, ∥∥₁_map, ∥∥₁_map₂}
use Rattle.std.specs.Coded.{Coded-set, coded_list, coded_ℕ}
use Rattle.std.specs.Prelude.{codes}
use Rattle.std.specs.Str.Parse.{digits_value}
use Rattle.core_syntax.specs.declared.span.Span.{Span}
use Rattle.core_syntax.specs.Blame.{Blames}
use Rattle.core_syntax.specs.Lists.{each}
use Rattle.core_syntax.specs.NormTypes.{ty_text}
use Rattle.core_syntax.specs.Notes.{NodeNote, ProgramNotesAre}
use Rattle.core_syntax.specs.Syntax.{Ty, Program}
use Rattle.core_syntax.specs.Typing.{Has, body_context}
use Rattle.core_syntax.proofs.NormTyLemmas.{same_normal}
use Rattle.core_syntax.proofs.OneBlame.{one_blame, accepted_alone}
use Rattle.core_syntax.proofs.Unique.{unique}
use Rattle.sexp_reader.specs.Forms.{Forms}
use Rattle.sexp_reader.specs.Reads.{Reads, Refusal, read_blame}
use Rattle.sexp_reader.proofs.Leftmost.{reads_one_way, reads_or_is_refused}
use Rattle.name_resolve.specs.Means.{NameBlame, program}
use Rattle.name_resolve.specs.Reading.{Read}
use Rattle.lowering.specs.Laws.{code_of_program}
use Rattle.lowering.specs.Params.{ty_param}
use Rattle.machine_table.specs.Codes.{Code}
use Rattle.machine_table.specs.ParamTypes.{type_of}
use Rattle.code_text.specs.Text.{code_text}
use Rattle.code_text.proofs.Verdicts.{one_code_read}
use Rattle.remora_driver.specs.declared.job.Job.{Job}
use Rattle.remora_driver.specs.declared.job.Job.TheVariants.{Check, Build, Run, Exec, Reduce, Soak}
use Rattle.remora_driver.specs.declared.telling.Telling.{Telling}
use Rattle.remora_driver.specs.declared.telling.Telling.TheVariants as telling
use Rattle.soak_gen.specs.SoakText.{program_text}
use Rattle.remora_driver.specs.Due.{Answer, written, refused, IsRefused, too_long, unread, unresolved, ill_typed, IsCheckDue, check_refused, checks, types_of_inputs, HasCodeEnd, IsDueOn, IsDueBy, IsCodeDue, IsRunDue, run_refused, runs, IsBuildDue, build_refused, builds, IsExecDue, text_too_long, no_code, executes, HasEnd, IsReductionDue, IsReduceDue, reduce_refused, reduces, IsJobDue, TakesData, IsDue, no_job, does}
use Rattle.remora_driver.specs.Jobs.{usual_budget, IsJob, plain, limited, soak, plain_job, limited_job}
use Rattle.remora_driver.specs.Programs.{IsSource, IsAcceptedSource, IsProgram, input_types}
use Rattle.remora_driver.specs.Texts.{line, accepted_text}
use Rattle.remora_driver.proofs.JobWords.{soak_is_no_plain, first_of_two, last_of_two, two_four, first_of_four, last_of_four}
use Rattle.remora_driver.proofs.OneBlame.{one_blamed, unblamed}
use Rattle.remora_driver.proofs.OneData.{one_due_on, one_due_by}
use Rattle.remora_driver.proofs.OneEnd.{one_code_end, one_end}
use Rattle.remora_driver.proofs.OneNotes.{program_one_notes}

-- ---- programs

program_same : (P Q : Program) → ◌≡◌ {A = Read Program} (Ok P) (Ok Q) → P ≡ Q
program_same P Q e = cc

-- a text means one program
pub one_source : (bytes : List ℕ) (P Q : Program) → IsSource bytes P → IsSource bytes Q → P ≡ Q
one_source bytes P Q p q = program_same P Q (sym p.means ∙ ap program (reads_one_way bytes p.forms q.forms p.reads q.reads) ∙ q.means)

-- and of one program's nodes these are the notes
pub program_notes : (bytes : List ℕ) (P : Program) (notes : List NodeNote) → IsProgram bytes P notes → ∥ ProgramNotesAre P notes ∥₁
program_notes bytes P notes is = ∥∥₁_map is.made (λ x. x.1.checked.notes_are)

pub notes_agree : (P Q : Program) (ns ms : List NodeNote) → P ≡ Q → ∥ ProgramNotesAre P ns ∥₁ → ∥ ProgramNotesAre Q ms ∥₁ → ∥ ns ≡ ms ∥₁
notes_agree P Q ns ms same are are' =
    ∥∥₁_map₂ (subst (λ (R : Program). ∥ ProgramNotesAre R ns ∥₁) same are) are' (λ x y. program_one_notes Q ns ms x y)

codes_agree : (bytes : List ℕ) (P Q : Program) (ns ms : List NodeNote) → IsProgram bytes P ns → IsProgram bytes Q ms → ∥ code_of_program P ns ≡ code_of_program Q ms ∥₁
codes_agree bytes P Q ns ms is is' =
    let same : P ≡ Q = one_source bytes P Q is.source.means is'.source.means in
    ∥∥₁_map (notes_agree P Q ns ms same (program_notes bytes P ns is) (program_notes bytes Q ms is')) (λ e. ap (λ (R : Program). code_of_program R ns) same ∙ ap (code_of_program Q) e)

-- a text that reads as forms isn't refused by the reader, and one that means a program isn't by the names
blamed_unread : (bytes : List ℕ) (fs : Forms) (r : Refusal) → read_blame bytes ≡ Some r → Reads bytes fs → ⊥
blamed_unread bytes fs r blamed reads = absurd (none-some r (sym (reads_or_is_refused bytes fs reads) ∙ blamed))

blamed_unmeant : (bytes : List ℕ) (fs : Forms) (r : Refusal) (P : Program) → Reads bytes fs → NameBlame fs r → IsSource bytes P → ⊥
blamed_unmeant bytes fs r P reads blamed is =
    let same : ◌≡◌ {A = Read Program} (Err r) (Ok P) = sym blamed ∙ ap program (reads_one_way bytes fs is.forms reads is.reads) ∙ is.means in
    absurd (cc)

pair_same : (m n : ℕ) (p q : Span) → ◌≡◌ {A = Option Refusal} (Some (m, p)) (Some (n, q)) → (m ≡ n) × (p ≡ q)
pair_same m n p q e = let h : ◌≡◌ {A = Refusal} (m, p) (n, q) = cc in (ap (λ (r : Refusal). r.0) h, ap (λ (r : Refusal). r.1) h)

blame_same : (m n : ℕ) (p q : Span) → ◌≡◌ {A = Read Program} (Err (m, p)) (Err (n, q)) → (m ≡ n) × (p ≡ q)
blame_same m n p q e = let h : ◌≡◌ {A = Refusal} (m, p) (n, q) = cc in (ap (λ (r : Refusal). r.0) h, ap (λ (r : Refusal). r.1) h)

pub refused_same : (m n : ℕ) (p q : Span) → m ≡ n → p ≡ q → refused m p ≡ refused n q
refused_same m n p q e h = ap (λ (k : ℕ). refused k p) e ∙ ap (refused n) h

-- a program that equals a blamed one is blamed
blamed_same : (bytes : List ℕ) (P Q : Program) (r : Refusal) → IsSource bytes P → IsSource bytes Q → Blames P r → Blames Q r
blamed_same bytes P Q r p q b = subst (λ (R : Program). Blames R r) (one_source bytes P Q p q) b

pub one_refusal : (bytes : List ℕ) (m n : ℕ) (p q : Span) → IsRefused bytes m p → IsRefused bytes n q → refused m p ≡ refused n q
one_refusal bytes m n p q (too_long l e h) (too_long l' e' h') = refused_same m n p q (e ∙ sym e') (h ∙ sym h')
one_refusal bytes m n p q (too_long l e h) (unread s' b') = absurd (omega (arith, l, s'))
one_refusal bytes m n p q (too_long l e h) (unresolved gs s' reads' b') = absurd (omega (arith, l, s'))
one_refusal bytes m n p q (too_long l e h) (ill_typed Q s' is' b') = absurd (omega (arith, l, s'))
one_refusal bytes m n p q (unread s b) (too_long l' e' h') = absurd (omega (arith, l', s))
one_refusal bytes m n p q (unread s b) (unread s' b') = let same = pair_same m n p q (sym b ∙ b') in refused_same m n p q same.0 same.1
one_refusal bytes m n p q (unread s b) (unresolved gs s' reads' b') = absurd (blamed_unread bytes gs (m, p) b reads')
one_refusal bytes m n p q (unread s b) (ill_typed Q s' is' b') = absurd (blamed_unread bytes is'.forms (m, p) b is'.reads)
one_refusal bytes m n p q (unresolved fs s reads b) (too_long l' e' h') = absurd (omega (arith, l', s))
one_refusal bytes m n p q (unresolved fs s reads b) (unread s' b') = absurd (blamed_unread bytes fs (n, q) b' reads)
one_refusal bytes m n p q (unresolved fs s reads b) (unresolved gs s' reads' b') = let same = blame_same m n p q (sym b ∙ ap program (reads_one_way bytes fs gs reads reads') ∙ b') in refused_same m n p q same.0 same.1
one_refusal bytes m n p q (unresolved fs s reads b) (ill_typed Q s' is' b') = absurd (blamed_unmeant bytes fs (m, p) Q reads b is')
one_refusal bytes m n p q (ill_typed P s is b) (too_long l' e' h') = absurd (omega (arith, l', s))
one_refusal bytes m n p q (ill_typed P s is b) (unread s' b') = absurd (blamed_unread bytes is.forms (n, q) b' is.reads)
one_refusal bytes m n p q (ill_typed P s is b) (unresolved gs s' reads' b') = absurd (blamed_unmeant bytes gs (n, q) P reads' b' is)
one_refusal bytes m n p q (ill_typed P s is b) (ill_typed Q s' is' b') =
    let same : ◌≡◌ {A = Refusal} (m, p) (n, q) = one_blame Q (m, p) (n, q) (blamed_same bytes P Q (m, p) is is' b) b' in
    refused_same m n p q (ap (λ (r : Refusal). r.0) same) (ap (λ (r : Refusal). r.1) same)

-- what is refused isn't accepted
pub refused_or_not : (bytes : List ℕ) (n : ℕ) (at : Span) (P : Program) → IsRefused bytes n at → IsAcceptedSource bytes P → ⊥
refused_or_not bytes n at P (too_long l e h) is = absurd (omega (arith, l, is.short))
refused_or_not bytes n at P (unread s b) is = blamed_unread bytes is.means.forms (n, at) b is.means.reads
refused_or_not bytes n at P (unresolved fs s reads b) is = blamed_unmeant bytes fs (n, at) P reads b is.means
refused_or_not bytes n at P (ill_typed Q s source b) is =
    ∥∥₁_elim is.accepted (λ x y. absurd x) (λ met. accepted_alone P (n, at) met (blamed_same bytes Q P (n, at) source is.means b))

-- ---- checks

-- two types of the body of one program have one text
one_text : (P Q : Program) (t u : Ty) → P ≡ Q → ∥ Has (body_context P) P.body t ∥₁ → ∥ Has (body_context Q) Q.body u ∥₁ → accepted_text t ≡ accepted_text u
one_text P Q t u e p q =
    let one = Coded-set (coded_list coded_ℕ) (accepted_text t) (accepted_text u) in
    ∥∥₁_elim p one (λ h.
    ∥∥₁_elim q one (λ k.
    ap (λ (n : Ty). codes "ok " ++ ty_text n) (same_normal t u (unique (body_context Q) Q.body t u (subst (λ (R : Program). Has (body_context R) R.body t) e h) k))))

one_check : (bytes : List ℕ) (a b : Answer) → IsCheckDue bytes a → IsCheckDue bytes b → a ≡ b
one_check bytes a b (check_refused m p why e) (check_refused n q why' h) = e ∙ one_refusal bytes m n p q why why' ∙ sym h
one_check bytes a b (check_refused m p why e) (checks P t is has h) = absurd (refused_or_not bytes m p P why is)
one_check bytes a b (checks P t is has e) (check_refused m p why h) = absurd (refused_or_not bytes m p P why is)
one_check bytes a b (checks P t is has e) (checks Q u is' has' h) =
    e ∙ ap (λ (text : List ℕ). written (line text)) (one_text P Q t u (one_source bytes P Q is.means is'.means) has has') ∙ sym h

-- ---- codes of programs

-- what is due for equal codes of the same types
one_code : (how : Telling) (c d : Code) (given : List ℕ) (budget : ℕ) (a b : Answer) → types_of_inputs c ≡ types_of_inputs d → ∥ c ≡ d ∥₁ → IsCodeDue how c given budget a → IsCodeDue how d given budget b → a ≡ b
one_code how c d given budget a b types same due due' =
    one_due_on (types_of_inputs d) given (HasCodeEnd how c budget) (HasCodeEnd how d budget) a b (λ xs fits p q. one_code_end how c d same budget (types_of_inputs d) xs fits a b p q)
    (subst (λ (ts : List Ty). IsDueOn ts given (HasCodeEnd how c budget) a) types due) due'

one_run : (how : Telling) (bytes given : List ℕ) (budget : ℕ) (a b : Answer) → IsRunDue how bytes given budget a → IsRunDue how bytes given budget b → a ≡ b
one_run how bytes given budget a b (run_refused m p why e) (run_refused n q why' h) = e ∙ one_refusal bytes m n p q why why' ∙ sym h
one_run how bytes given budget a b (run_refused m p why e) (runs P ns is due) = absurd (refused_or_not bytes m p P why is.source)
one_run how bytes given budget a b (runs P ns is due) (run_refused m p why e) = absurd (refused_or_not bytes m p P why is.source)
one_run how bytes given budget a b (runs P ns is due) (runs Q ms is' due') =
    let types : types_of_inputs (code_of_program P ns) ≡ types_of_inputs (code_of_program Q ms) =
    ap (λ (R : Program). each type_of (each ty_param (input_types R))) (one_source bytes P Q is.source.means is'.source.means) in
    one_code how (code_of_program P ns) (code_of_program Q ms) given budget a b types (codes_agree bytes P Q ns ms is is') due due'

answer_same : (a b : Answer) → a.status ≡ b.status → a.text ≡ b.text → a ≡ b
answer_same a b e h = λ i. record { status = e i; text = h i }

one_build : (bytes : List ℕ) (a b : Answer) → IsBuildDue bytes a → IsBuildDue bytes b → a ≡ b
one_build bytes a b (build_refused m p why e) (build_refused n q why' h) = e ∙ one_refusal bytes m n p q why why' ∙ sym h
one_build bytes a b (build_refused m p why e) (builds P ns is ok text) = absurd (refused_or_not bytes m p P why is.source)
one_build bytes a b (builds P ns is ok text) (build_refused m p why e) = absurd (refused_or_not bytes m p P why is.source)
one_build bytes a b (builds P ns is ok text) (builds Q ms is' ok' text') =
    let one : a.text ≡ b.text =
    ∥∥₁_elim (codes_agree bytes P Q ns ms is is') (Coded-set (coded_list coded_ℕ) a.text b.text) (λ e. text.text ∙ ap code_text e ∙ sym text'.text) in
    answer_same a b (ok ∙ sym ok') one

-- ---- reductions

-- what is due for one program with equal notes
one_reduction : (P : Program) (ns ms : List NodeNote) (given : List ℕ) (budget : ℕ) (a b : Answer) → ∥ ns ≡ ms ∥₁ → IsReductionDue P ns given budget a → IsReductionDue P ms given budget b → a ≡ b
one_reduction P ns ms given budget a b same end end' =
    one_due_on (input_types P) given (HasEnd P ns budget) (HasEnd P ms budget) a b (λ xs fits p q. one_end P ns ms same xs budget a b p q) end end'

one_reduce : (bytes given : List ℕ) (budget : ℕ) (a b : Answer) → IsReduceDue bytes given budget a → IsReduceDue bytes given budget b → a ≡ b
one_reduce bytes given budget a b (reduce_refused m p why e) (reduce_refused n q why' h) = e ∙ one_refusal bytes m n p q why why' ∙ sym h
one_reduce bytes given budget a b (reduce_refused m p why e) (reduces P ns is are due) = absurd (refused_or_not bytes m p P why is)
one_reduce bytes given budget a b (reduces P ns is are due) (reduce_refused m p why e) = absurd (refused_or_not bytes m p P why is)
one_reduce bytes given budget a b (reduces P ns is are due) (reduces Q ms is' are' due') =
    let same : P ≡ Q = one_source bytes P Q is.means is'.means in
    let notes : ∥ ns ≡ ms ∥₁ = notes_agree P Q ns ms same are are' in
    one_reduction Q ns ms given budget a b notes (subst (λ (R : Program). IsReductionDue R ns given budget a) same due) due'

-- ---- code texts

one_exec : (bytes given : List ℕ) (budget : ℕ) (a b : Answer) → IsExecDue bytes given budget a → IsExecDue bytes given budget b → a ≡ b
one_exec bytes given budget a b (text_too_long l e) (text_too_long l' h) = e ∙ sym h
one_exec bytes given budget a b (text_too_long l e) (no_code k n s blame h) = absurd (omega (arith, l, s))
one_exec bytes given budget a b (text_too_long l e) (executes c s text due) = absurd (omega (arith, l, s))
one_exec bytes given budget a b (no_code k n s blame e) (text_too_long l h) = absurd (omega (arith, l, s))
one_exec bytes given budget a b (no_code k n s blame e) (no_code l m s' blame' h) = e ∙ one_blamed bytes k l n m blame blame' ∙ sym h
one_exec bytes given budget a b (no_code k n s blame e) (executes c s' text due) = absurd (unblamed bytes k n c blame text)
one_exec bytes given budget a b (executes c s text due) (text_too_long l h) = absurd (omega (arith, l, s))
one_exec bytes given budget a b (executes c s text due) (no_code k n s' blame h) = absurd (unblamed bytes k n c blame text)
one_exec bytes given budget a b (executes c s text due) (executes d s' text' due') =
    let same : c ≡ d = one_code_read c d bytes text text' in
    one_code telling.Value c d given budget a b (ap types_of_inputs same) ∣ same ∣₁ due due'

-- ---- calls

job_same : (j k : Job) → ◌≡◌ {A = Option Job} (Some j) (Some k) → j ≡ k
job_same j k e = cc

pub one_job : (words : List (List ℕ)) (j k : Job) → IsJob words j → IsJob words k → j ≡ k
one_job words j k (plain c f w p) (plain d g v q) = job_same j k (sym p ∙ ap plain_job (first_of_two c d f g (sym w ∙ v)) ∙ q)
one_job words j k (plain c f w p) (limited d g s n v b q) = absurd (two_four c d f g (codes "--steps") s (sym w ∙ v))
one_job words j k (limited d g s n v b q) (plain c f w p) = absurd (two_four c d f g (codes "--steps") s (sym w ∙ v))
one_job words j k (limited c f s n w b p) (limited d g r m v b' q) =
    let word : s ≡ r = last_of_four c d f g (codes "--steps") (codes "--steps") s r (sym w ∙ v) in
    let same : n ≡ m = sym b.value ∙ ap (digits_value 10) word ∙ b'.value in
    job_same j k (sym p ∙ ap (limited_job c) same ∙ ap (λ (x : List ℕ). limited_job x m) (first_of_four c d f g (codes "--steps") (codes "--steps") s r (sym w ∙ v)) ∙ q)
one_job words j k (soak w n v b e) (plain c f v' p) = absurd (soak_is_no_plain k (ap plain_job (first_of_two (codes "soak") c w f (sym v ∙ v')) ∙ p))
one_job words j k (plain c f v' p) (soak w n v b e) = absurd (soak_is_no_plain j (ap plain_job (first_of_two (codes "soak") c w f (sym v ∙ v')) ∙ p))
one_job words j k (soak w n v b e) (limited d g s m v' b' q) = absurd (two_four (codes "soak") d w g (codes "--steps") s (sym v ∙ v'))
one_job words j k (limited d g s m v' b' q) (soak w n v b e) = absurd (two_four (codes "soak") d w g (codes "--steps") s (sym v ∙ v'))
one_job words j k (soak w n v b e) (soak u m v' b' h) =
    e ∙ ap Soak (sym b.value ∙ ap (digits_value 10) (last_of_two (codes "soak") (codes "soak") w u (sym v ∙ v')) ∙ b'.value) ∙ sym h

one_job_due : (job : Job) (bytes given : List ℕ) (a b : Answer) → IsJobDue job bytes given a → IsJobDue job bytes given b → a ≡ b
one_job_due Check bytes given a b p q = one_check bytes a b p q
one_job_due Build bytes given a b p q = one_build bytes a b p q
one_job_due (Run budget) bytes given a b p q = one_run telling.Value bytes given budget a b p q
one_job_due (Exec budget) bytes given a b p q = one_exec bytes given budget a b p q
one_job_due (Reduce budget) bytes given a b p q = one_reduce bytes given budget a b p q
one_job_due (Soak count) bytes given a b p q = one_run (telling.Soak count) (program_text count) [] usual_budget a b p q

pub one_due : (words : List (List ℕ)) (bytes input : List ℕ) (a b : Answer) → IsDue words bytes input a → IsDue words bytes input b → a ≡ b
one_due words bytes input a b (no_job n p) (no_job m q) = p ∙ sym q
one_due words bytes input a b (no_job n p) (does job is q) = absurd (n (job, is))
one_due words bytes input a b (does job is p) (no_job n q) = absurd (n (job, is))
one_due words bytes input a b (does job is p) (does job' is' q) =
    one_due_by (TakesData job' bytes) (IsJobDue job' bytes) input a b (λ given. one_job_due job' bytes given a b)
    (subst (λ (j : Job). IsDueBy (TakesData j bytes) (IsJobDue j bytes) input a) (one_job words job job' is is') p) q
