-- Where neither is still running, a source that is run and is reduced has one answer.
use Rattle.std.proofs.Common.{◌≡◌, sym, ap, ◌∙◌, subst, ℕ, List}
use Rattle.std.specs.Prelude.{◌≢◌}
use Rattle.std.proofs.Math.Logic.{∥∥₁_elim}
use Rattle.std.specs.Coded.{Coded-set, coded_list, coded_ℕ}
use Rattle.core_syntax.specs.Data.{Data, FitsValues}
use Rattle.core_syntax.specs.Lists.{each}
use Rattle.core_syntax.specs.Notes.{NodeNote}
use Rattle.core_syntax.specs.Syntax.{Ty, Program}
use Rattle.array_values.specs.Data.{array_data}
use Rattle.array_values.specs.Values.{Array}
use Rattle.array_values.specs.declared.value.Value.{Value}
use Rattle.machine_table.specs.Ends.{Ends}
use Rattle.machine_table.specs.Machine.{Outcome, Done, Trap, Stuck}
use Rattle.machine_table.specs.ValueRules.{value_rules}
use Rattle.lowering.specs.Laws.{code_of_program}
use Rattle.compiled_laws.specs.Laws.{DoesAsSource}
use Rattle.value_text.specs.ValueText.{array_text}
use Rattle.remora_driver.specs.Due.{Answer, written, trapped, still_running, outcome_answer, HasCodeEnd, ends, goes_on, IsDueOn, run_refused, runs, HasEnd, reaches, traps, keeps_going, IsReductionDue, reduce_refused, reduces}
use Rattle.remora_driver.specs.declared.telling.Telling.TheVariants as telling
use Rattle.remora_driver.specs.Laws.{RunIsReduce}
use Rattle.remora_driver.specs.Meant.{AlwaysDoes}
use Rattle.remora_driver.specs.Programs.{input_types}
use Rattle.remora_driver.specs.Texts.{line}
use Rattle.remora_driver.proofs.Meant.{does_as_source}
use Rattle.remora_driver.proofs.OneData.{one_due_on}
use Rattle.remora_driver.proofs.OneDue.{one_source, one_refusal, refused_or_not, program_notes, notes_agree}
use Rattle.remora_driver.proofs.OneEnd.{not_so, coded_kind, values_agree, kinds_agree, value_or_trap, trap_or_value}
use Rattle.remora_driver.proofs.Ready.{inputs_are}

-- one program, whose code ends within one budget and whose reduction within another
module _ (P : Program) (ns ms : List NodeNote) (same : ∥ ns ≡ ms ∥₁) (does : AlwaysDoes P ns) (steps reductions : ℕ) (a b : Answer) (left : a ≢ still_running) (right : b ≢ still_running) where
  -- on some arrays
  ended_so : (i : List Array) → ∥ DoesAsSource P ns i ∥₁ → (n : ℕ) (o : Outcome Value) → Ends value_rules (code_of_program P ns) i n o → a ≡ outcome_answer telling.Value n o → HasEnd P ms reductions (each array_data i) b → a ≡ b
  ended_so i does_so n (Done x) end p (reaches l w y le s is q) =
      let text : array_text x ≡ array_text y =
      ∥∥₁_elim does_so (Coded-set (coded_list coded_ℕ) (array_text x) (array_text y)) (λ d. let r = d.done n x end in values_agree P ns ms same (each array_data i) r.0 l r.1 w x y r.2 s r.3 is) in
      p ∙ ap (λ (t : List ℕ). written (line t)) text ∙ sym q
  ended_so i does_so n (Done x) end p (traps l kind le s q) =
      absurd (not_so does_so (λ d. let r = d.done n x end in value_or_trap P ns ms same (each array_data i) r.0 l r.1 kind r.2 s))
  ended_so i does_so n (Trap k) end p (reaches l w y le s is q) =
      absurd (not_so does_so (λ d. let r = d.trapped n k end in trap_or_value P ns ms same (each array_data i) r.0 l k w r.1 s))
  ended_so i does_so n (Trap k) end p (traps l kind le s q) =
      let one : k ≡ kind = ∥∥₁_elim does_so (Coded-set coded_kind k kind) (λ d. let r = d.trapped n k end in kinds_agree P ns ms same (each array_data i) r.0 l k kind r.1 s) in
      p ∙ ap trapped one ∙ sym q
  ended_so i does_so n (Stuck k) end p due = absurd (not_so does_so (λ d. d.never_stuck n k end))
  ended_so i does_so n o end p (keeps_going going q) = absurd (right q)

  -- on data that fits
  ended_alike : (xs : List Data) → FitsValues (input_types P) xs → HasCodeEnd telling.Value (code_of_program P ns) steps xs a → HasEnd P ms reductions xs b → a ≡ b
  ended_alike xs fits (goes_on i seen still p) due = absurd (left p)
  ended_alike xs fits (ends i n o seen le end p) due =
      ended_so i (does i (subst (FitsValues (input_types P)) (sym seen) fits)) n o end p (subst (λ (ys : List Data). HasEnd P ms reductions ys b) (sym seen) due)

  reduced_alike : (given : List ℕ) → IsDueOn (input_types P) given (HasCodeEnd telling.Value (code_of_program P ns) steps) a → IsReductionDue P ms given reductions b → a ≡ b
  reduced_alike given due end =
      one_due_on (input_types P) given (HasCodeEnd telling.Value (code_of_program P ns) steps) (HasEnd P ms reductions) a b ended_alike due end

pub run_is_reduce : RunIsReduce
run_is_reduce bytes given n m a b (run_refused number at why p) (reduce_refused number' at' why' q) left right =
    p ∙ one_refusal bytes number number' at at' why why' ∙ sym q
run_is_reduce bytes given n m a b (run_refused number at why p) (reduces Q ms is are due) left right = absurd (refused_or_not bytes number at Q why is)
run_is_reduce bytes given n m a b (runs P ns is due) (reduce_refused number' at' why' q) left right = absurd (refused_or_not bytes number' at' P why' is.source)
run_is_reduce bytes given n m a b (runs P ns is due) (reduces Q ms is' are due') left right =
    let same : P ≡ Q = one_source bytes P Q is.source.means is'.means in
    let notes : ∥ ns ≡ ms ∥₁ = notes_agree P Q ns ms same (program_notes bytes P ns is) are in
    reduced_alike P ns ms notes (does_as_source bytes P ns is) n m a b left right given
    (subst (λ (ts : List Ty). IsDueOn ts given (HasCodeEnd telling.Value (code_of_program P ns) n) a) (inputs_are bytes P ns is) due)
    (subst (λ (R : Program). IsReductionDue R ms given m b) (sym same) due')
