-- What is due for a reduction, from what steps of the program's start say.
use Rattle.std.proofs.Common.{refl, ap, subst, ℕ, List, Result, Ok, Err}
use Rattle.std.specs.Prelude.{IfOk}
use Rattle.std.proofs.Math.Logic.{∥∥₁_map}
use Rattle.core_syntax.specs.declared.checked.Checked.{Checked}
use Rattle.core_syntax.specs.declared.errors.StuckKind.{StuckKind}
use Rattle.core_syntax.specs.Data.{Data, FitsValues}
use Rattle.core_syntax.specs.Lists.{each}
use Rattle.core_syntax.specs.Literals.{LiteralsFit}
use Rattle.core_syntax.specs.Notes.{NodeNote, ProgramNotesAre}
use Rattle.core_syntax.specs.Refine.{ty_of}
use Rattle.core_syntax.specs.RefineTerms.{term_of}
use Rattle.core_syntax.specs.Start.{def_terms, start_term, Reaches}
use Rattle.core_syntax.specs.Step.{ReachesValue}
use Rattle.core_syntax.specs.Syntax as syntax
use Rattle.core_syntax.specs.Typed.{typed_rules, TypedTerm}
use Rattle.core_syntax.specs.Wholes.{program_of}
use Rattle.typed_step.specs.declared.closed.Closed.{Closed}
use Rattle.typed_step.specs.declared.closed.Next.{Next}
use Rattle.typed_step.specs.declared.closed.Next.TheVariants as next
use Rattle.typed_step.specs.Steps.{IsTerm, Reduced}
use Rattle.reduction_laws.proofs.runs.Results.{reaches_data}
use Rattle.remora_driver.specs.declared.reducing.Reduction.{Reduction}
use Rattle.remora_driver.specs.declared.reducing.Reduction.TheVariants as reduction
use Rattle.remora_driver.specs.Due.{stuck, IsDueOn, unfit, fitting, HasEnd, reaches, traps, keeps_going, IsReduceDue, reduce_refused, reduces}
use Rattle.remora_driver.specs.Programs.{input_types}
use Rattle.remora_driver.specs.Reductions.{notes_of, IsEndOf, IsEndIn, Prints, PrintsValues, EndsFrom, EndsIn, ended}
use Rattle.remora_driver.proofs.Statuses.{stuck_or_shown, stuck_or_trapped, stuck_or_refused, stuck_or_unfit, stuck_or_running}

-- ---- values that are reached

-- where each value that a term reaches is of a printable type, so is the one at which its steps stand
reduced_prints : (closed : Closed) (budget : ℕ) (n : Next) → PrintsValues closed → Reduced (each term_of closed.defs) (term_of closed.term) budget n → Prints n
reduced_prints closed budget (next.Value c) prints h = prints h.1.0 (term_of c.term) h.1.2
reduced_prints closed budget (next.Trap kind) prints h = tt
reduced_prints closed budget (next.Goes c) prints h = tt

pub steps_print : {E : Type 0} (closed : Closed) (budget : ℕ) (r : Result Next E) → PrintsValues closed → IfOk r (λ n. Reduced (each term_of closed.defs) (term_of closed.term) budget n) → IfOk r (λ n. Prints n)
steps_print closed budget (Ok n) prints h = reduced_prints closed budget n prints h
steps_print closed budget (Err e) prints h = tt

-- the start of a checked program on data that fits
module _ (c : Checked) (xs : List Data) (closed : Closed) (starts : IsTerm (def_terms (program_of c.program) (notes_of c)) (start_term (program_of c.program) (notes_of c) xs) closed) where
  -- what its term reaches the program does
  start_reaches : (k : ℕ) (v : TypedTerm) → ReachesValue typed_rules (each term_of closed.defs) k (term_of closed.term) v → Reaches (program_of c.program) (notes_of c) xs k v
  start_reaches k v reached =
      subst (λ (t : TypedTerm). ReachesValue typed_rules (def_terms (program_of c.program) (notes_of c)) k t v) starts.1
      (subst (λ (ds : List TypedTerm). ReachesValue typed_rules ds k (term_of closed.term) v) starts.0 reached)

  -- and so is of a printable type
  pub start_prints : FitsValues (each ty_of c.inputs) xs → LiteralsFit (program_of c.program) → PrintsValues closed
  start_prints fits literals = λ k v reached.
      ∥∥₁_map c.checked (λ x. (
        ty_of c.body,
        reaches_data (program_of c.program) (ty_of c.body) (notes_of c) xs (record { inputs = each ty_of c.inputs; made = c.program.well_made; checked = x; fits = fits }) literals k v (start_reaches k v reached),
      ))

  -- ---- ends of runs

  -- where its steps stand, the program's do
  start_reduced : (budget : ℕ) (n : Next) → Reduced (each term_of closed.defs) (term_of closed.term) budget n → Reduced (def_terms (program_of c.program) (notes_of c)) (start_term (program_of c.program) (notes_of c) xs) budget n
  start_reduced budget n h =
      subst (λ (t : TypedTerm). Reduced (def_terms (program_of c.program) (notes_of c)) t budget n) starts.1
      (subst (λ (ds : List TypedTerm). Reduced ds (term_of closed.term) budget n) starts.0 h)

  end_is : (budget : ℕ) (n : Next) (e : Reduction) → Reduced (def_terms (program_of c.program) (notes_of c)) (start_term (program_of c.program) (notes_of c) xs) budget n → IsEndOf n e → EndsIn c budget xs (ended e)
  end_is budget (next.Value d) (reduction.Value a) h is = reaches h.1.0 (term_of d.term) a h.1.1 h.1.2 is refl
  end_is budget (next.Value d) (reduction.Trap kind) h is = absurd is
  end_is budget (next.Value d) reduction.Going h is = absurd is
  end_is budget (next.Trap kind) e h is = traps h.0 kind h.1 h.2 (ap ended is)
  end_is budget (next.Goes d) e h is = keeps_going h.2 (ap ended is)

  pub start_ends : {E : Type 0} (budget : ℕ) (r : Result Reduction E) → IfOk r (λ e. EndsFrom closed budget e) → IfOk r (λ e. EndsIn c budget xs (ended e))
  start_ends budget (Ok e) h = end_is budget h.0 e (start_reduced budget h.0 h.1) h.2
  start_ends budget (Err e) h = tt

-- an end of steps is an end from their term
pub ends_from : {E F : Type 0} (closed : Closed) (budget : ℕ) (r : Result Next E) (s : Result Reduction F) → IfOk r (λ n. Reduced (each term_of closed.defs) (term_of closed.term) budget n) → IfOk s (λ e. IsEndIn r e) → IfOk s (λ e. EndsFrom closed budget e)
ends_from closed budget (Ok n) (Ok e) h is = (n, h, is)
ends_from closed budget (Err x) (Ok e) h is = absurd is
ends_from closed budget (Ok n) (Err y) h is = tt
ends_from closed budget (Err x) (Err y) h is = tt

-- the notes of a checked program are those of the rules
pub notes_are : (c : Checked) → ∥ ProgramNotesAre (program_of c.program) (notes_of c) ∥₁
notes_are c = ∥∥₁_map c.checked (λ x. x.notes_are)

-- ---- it is never due that a reduction is stuck

end_unstuck : (P : syntax.Program) (notes : List NodeNote) (budget : ℕ) (xs : List Data) (kind : StuckKind) → HasEnd P notes budget xs (stuck kind) → ⊥
end_unstuck P notes budget xs kind (reaches k v x le r same is) = stuck_or_shown kind x is
end_unstuck P notes budget xs kind (traps k why le r is) = stuck_or_trapped kind why is
end_unstuck P notes budget xs kind (keeps_going going is) = stuck_or_running kind is

on_unstuck : (P : syntax.Program) (notes : List NodeNote) (types : List syntax.Ty) (given : List ℕ) (budget : ℕ) (kind : StuckKind) → IsDueOn types given (HasEnd P notes budget) (stuck kind) → ⊥
on_unstuck P notes types given budget kind (unfit number at why is) = stuck_or_unfit kind number at is
on_unstuck P notes types given budget kind (fitting xs fits end) = end_unstuck P notes budget xs kind end

pub reduce_unstuck : (source given : List ℕ) (budget : ℕ) (kind : StuckKind) → IsReduceDue source given budget (stuck kind) → ⊥
reduce_unstuck source given budget kind (reduce_refused number at why is) = stuck_or_refused kind number at is
reduce_unstuck source given budget kind (reduces P notes is are due) = on_unstuck P notes (input_types P) given budget kind due
