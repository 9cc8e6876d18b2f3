-- What is due for a program that runs is what typed reduction of the program comes to.
use Rattle.std.proofs.Common.{◌≡◌, sym, subst, ℕ, ◌≤◌, List, []}
use Rattle.std.proofs.Math.Logic.{∥∥₁_map}
use Rattle.core_syntax.specs.declared.errors.StuckKind.{StuckKind}
use Rattle.core_syntax.specs.Data.{Data, FitsValues}
use Rattle.core_syntax.specs.Lists.{each}
use Rattle.core_syntax.specs.Literals.{LiteralsFit}
use Rattle.core_syntax.specs.Notes.{NodeNote}
use Rattle.core_syntax.specs.Syntax.{Ty, Program}
use Rattle.array_values.specs.Data.{array_data}
use Rattle.array_values.specs.Values.{Array}
use Rattle.array_values.specs.declared.value.Value.{Value}
use Rattle.reduction_laws.specs.Laws.{IsReady}
use Rattle.machine_table.specs.Ends.{Ends}
use Rattle.machine_table.specs.Machine.{Outcome, Done, Trap, Stuck}
use Rattle.machine_table.specs.ValueRules.{value_rules}
use Rattle.lowering.specs.Laws.{code_of_program}
use Rattle.compiled_laws.specs.Laws.{DoesAsSource}
use Rattle.compiled_laws.proofs.Results.{code_does, code_goes_on}
use Rattle.value_text.specs.DataFits.{Fits}
use Rattle.remora_driver.specs.declared.job.Job.TheVariants.{Check, Build, Run, Exec, Reduce, Soak}
use Rattle.remora_driver.specs.declared.telling.Telling.{Telling}
use Rattle.remora_driver.specs.declared.telling.Telling.TheVariants as telling
use Rattle.remora_driver.specs.Jobs.{usual_budget}
use Rattle.soak_gen.specs.SoakText.{program_text}
use Rattle.remora_driver.specs.Due.{Answer, stuck, outcome_answer, still_running, StillRuns, HasCodeEnd, ends, goes_on, IsDueOn, unfit, fitting, IsDueBy, TakesData, IsCodeDue, IsRunDue, run_refused, runs, IsBuildDue, build_refused, builds, IsJobDue, IsDue, no_job, does}
use Rattle.remora_driver.specs.Laws.{DueMeans}
use Rattle.remora_driver.specs.Meant.{ShowsReduction, value, trap, unfinished, IsRunMeant, not_run, not_fit, shows, AlwaysDoes, IsBuildMeant, not_built, gives, IsJobMeant, IsMeant}
use Rattle.remora_driver.specs.Programs.{IsProgram, input_types}
use Rattle.remora_driver.proofs.OneData.{due_by_further}
use Rattle.remora_driver.proofs.OneDue.{one_job}
use Rattle.remora_driver.proofs.OneEnd.{not_so}
use Rattle.remora_driver.proofs.Ready.{ready, inputs_are}
use Rattle.remora_driver.proofs.Statuses.{stuck_or_shown, stuck_or_trapped, stuck_or_refused, stuck_or_unfit, stuck_or_running}

-- the code of a program does as the source, on all arrays that fit
pub does_as_source : (bytes : List ℕ) (P : Program) (notes : List NodeNote) → IsProgram bytes P notes → AlwaysDoes P notes
does_as_source bytes P notes is = λ inputs fits. ∥∥₁_map is.made (λ x. code_does P x.0 notes inputs (ready P x.0 notes (each array_data inputs) x.1 fits) is.literals)

-- how the code ends is what reduction comes to
module _ (how : Telling) (P : Program) (notes : List NodeNote) (inputs : List Array) (t : Ty) (is_ready : IsReady P t notes (each array_data inputs)) (literals : LiteralsFit P) (budget : ℕ) (a : Answer) where
  does_so : DoesAsSource P notes inputs
  does_so = code_does P t notes inputs is_ready literals

  end_shows : (n : ℕ) (o : Outcome Value) → n ≤ budget → Ends value_rules (code_of_program P notes) inputs n o → a ≡ outcome_answer how n o → ShowsReduction how P notes inputs budget a
  end_shows n (Done x) le end is = let r = does_so.done n x end in value n r.0 r.1 x le end r.2 r.3 r.4 is
  end_shows n (Trap kind) le end is = let r = does_so.trapped n kind end in trap n r.0 kind le end r.1 r.2 is
  end_shows n (Stuck kind) le end is = absurd (does_so.never_stuck n kind end)

  still_shows : StillRuns (code_of_program P notes) inputs budget → a ≡ still_running → ShowsReduction how P notes inputs budget a
  still_shows still is = unfinished still (λ k end. code_goes_on P t notes inputs is_ready literals budget k still end) is

-- and so what is due on data that fits is what typed reduction comes to
module _ (how : Telling) (bytes given : List ℕ) (P : Program) (notes : List NodeNote) (is : IsProgram bytes P notes) (budget : ℕ) (a : Answer) where
  shown_so : (inputs : List Array) → Fits given (input_types P) (each array_data inputs)
      → ((t : Ty) → IsReady P t notes (each array_data inputs) → ShowsReduction how P notes inputs budget a) → IsRunMeant how bytes given budget a
  shown_so inputs fits f = shows P notes inputs is fits (∥∥₁_map is.made (λ x. f x.0 (ready P x.0 notes (each array_data inputs) x.1 fits.fits)))

  end_means : (xs : List Data) → Fits given (input_types P) xs → HasCodeEnd how (code_of_program P notes) budget xs a → IsRunMeant how bytes given budget a
  end_means xs fits (ends inputs n o seen le end same) =
      shown_so inputs (subst (λ (ys : List Data). Fits given (input_types P) ys) (sym seen) fits) (λ t r. end_shows how P notes inputs t r is.literals budget a n o le end same)
  end_means xs fits (goes_on inputs seen still same) =
      shown_so inputs (subst (λ (ys : List Data). Fits given (input_types P) ys) (sym seen) fits) (λ t r. still_shows how P notes inputs t r is.literals budget a still same)

  on_means : IsDueOn (input_types P) given (HasCodeEnd how (code_of_program P notes) budget) a → IsRunMeant how bytes given budget a
  on_means (unfit number at why same) = not_fit P number at is.source why same
  on_means (fitting xs fits end) = end_means xs fits end

  pub code_means : IsCodeDue how (code_of_program P notes) given budget a → IsRunMeant how bytes given budget a
  code_means due = on_means (subst (λ (ts : List Ty). IsDueOn ts given (HasCodeEnd how (code_of_program P notes) budget) a) (inputs_are bytes P notes is) due)

run_means : (how : Telling) (bytes given : List ℕ) (budget : ℕ) (a : Answer) → IsRunDue how bytes given budget a → IsRunMeant how bytes given budget a
run_means how bytes given budget a (run_refused number at why is) = not_run number at why is
run_means how bytes given budget a (runs P notes is due) = code_means how bytes given P notes is budget a due

build_means : (bytes : List ℕ) (a : Answer) → IsBuildDue bytes a → IsBuildMeant bytes a
build_means bytes a (build_refused number at why is) = not_built number at why is
build_means bytes a (builds P notes is ok text) = gives P notes is text (does_as_source bytes P notes is)

pub job_means : DueMeans
job_means Check bytes given a due = tt
job_means Build bytes given a due = build_means bytes a due
job_means (Run budget) bytes given a due = run_means telling.Value bytes given budget a due
job_means (Exec budget) bytes given a due = tt
job_means (Reduce budget) bytes given a due = tt
job_means (Soak count) bytes given a due = run_means (telling.Soak count) (program_text count) [] usual_budget a due

pub due_means : (words : List (List ℕ)) (bytes input : List ℕ) (a : Answer) → IsDue words bytes input a → IsMeant words bytes input a
due_means words bytes input a (no_job none is) = λ job call. absurd (none (job, call))
due_means words bytes input a (does job call due) = λ other call'.
    subst (λ j. IsDueBy (TakesData j bytes) (IsJobMeant j bytes) input a) (one_job words job other call call')
    (due_by_further (TakesData job bytes) (TakesData job bytes) (IsJobDue job bytes) (IsJobMeant job bytes) input a (λ t. t, λ t. t) (λ given d. job_means job bytes given a d) due)

-- ---- a source that is run is never stuck

module _ (bytes : List ℕ) (P : Program) (notes : List NodeNote) (is : IsProgram bytes P notes) (budget : ℕ) (kind : StuckKind) where
  never_ends_stuck : (xs : List Data) → FitsValues (input_types P) xs → HasCodeEnd telling.Value (code_of_program P notes) budget xs (stuck kind) → ⊥
  never_ends_stuck xs fits (ends inputs n (Done x) seen le end same) = stuck_or_shown kind x same
  never_ends_stuck xs fits (ends inputs n (Trap why) seen le end same) = stuck_or_trapped kind why same
  never_ends_stuck xs fits (ends inputs n (Stuck why) seen le end same) =
      not_so (does_as_source bytes P notes is inputs (subst (FitsValues (input_types P)) (sym seen) fits)) (λ d. d.never_stuck n why end)
  never_ends_stuck xs fits (goes_on inputs seen still same) = stuck_or_running kind same

  never_due_stuck : (given : List ℕ) → IsDueOn (input_types P) given (HasCodeEnd telling.Value (code_of_program P notes) budget) (stuck kind) → ⊥
  never_due_stuck given (unfit number at why same) = stuck_or_unfit kind number at same
  never_due_stuck given (fitting xs fits end) = never_ends_stuck xs fits.fits end

pub run_unstuck : (bytes given : List ℕ) (budget : ℕ) (kind : StuckKind) → IsRunDue telling.Value bytes given budget (stuck kind) → ⊥
run_unstuck bytes given budget kind (run_refused number at why is) = stuck_or_refused kind number at is
run_unstuck bytes given budget kind (runs P notes is due) =
    never_due_stuck bytes P notes is budget kind given (subst (λ (ts : List Ty). IsDueOn ts given (HasCodeEnd telling.Value (code_of_program P notes) budget) (stuck kind)) (inputs_are bytes P notes is) due)
