-- Where runs of steps end.
use Rattle.std.specs.Prelude.{ℕ, zero, suc, ◌+◌, ◌≡◌, true, false, List, ◌++◌, Option, Some, None}
use Rattle.core_syntax.specs.declared.errors.TrapKind.TheVariants as trap
use Rattle.core_syntax.specs.Syntax.{Index, Ty}
use Rattle.core_syntax.specs.Fits.{forms}
use Rattle.core_syntax.specs.Move.{Move, Rests, Trapped, Goes, Lost, first_move, where_it_goes}
use Rattle.core_syntax.specs.Rules.{dims_of}
use Rattle.core_syntax.specs.Step.{step, terms_step, cell_step, cells_step}
use Rattle.core_syntax.specs.Terms.{TApp, Terms, no_terms, more_terms, TBoxed, Cells}
use Rattle.core_syntax.specs.Typed.{typed, typed_rules, TypedTerm}
use Rattle.core_syntax.specs.RefineTerms.{TypedCell}
use Rattle.typed_step.specs.declared.outcome.End.{End}
use Rattle.typed_step.specs.declared.outcome.End.TheVariants as end
use Rattle.typed_step.specs.Outcomes.{fires}

-- what stands there after exactly n moves, if there are as many
abbrev pub moves : {A : Type 0} → (A → Move A) → ℕ → A → Option A
moves move zero a = Some a
moves move (suc n) a = where_it_goes (move a) (moves move n)

-- of a budget so much is left after n moves, and what comes next is why the run ends here: it rests, the next move traps, which is counted too, the budget is spent, or there is no rule
abbrev pub EndsHere : {A : Type 0} → Move A → ℕ → ℕ → End → ℕ → Type 0
EndsHere next n budget end.Value left = (n + left ≡ budget) × (next ≡ Rests)
EndsHere next n budget (end.Trap k) left = (suc (n + left) ≡ budget) × (next ≡ Trapped k)
EndsHere next n budget end.Spent left = (n ≡ budget) × (left ≡ 0) × ¬ (next ≡ Rests)
EndsHere next n budget end.Lost left = (n + left ≡ budget) × (next ≡ Lost)

-- a run from the first to the last
pub record RunOf {A : Type 0} (move : A → Move A) (budget : ℕ) (first : A) (end : End) (left : ℕ) (last : A) : Type 0 where
  pub count : ℕ
  pub moved : moves move count first ≡ Some last
  pub ends : EndsHere (move last) count budget end left

-- the cells of a frame with these dims: the first, then the test of its size, then the others
abbrev pub frame_step : List TypedTerm → List ℕ → Terms typed → Move (Terms typed)
frame_step defs dims no_terms = Lost
frame_step defs dims (more_terms t ts) =
    first_move (step typed_rules defs t) (λ u. more_terms u ts)
    (elim (forms (dims ++ dims_of typed_rules t)) [ true ↦ first_move (terms_step typed_rules defs ts) (more_terms t) Rests | false ↦ Trapped trap.Size ])

-- a run of a term, of terms, of the cells of a frame, of an atom and of atoms
abbrev pub TermRun : List TypedTerm → ℕ → TypedTerm → End → ℕ → TypedTerm → Type 0
TermRun defs = RunOf (step typed_rules defs)

abbrev pub TermsRun : List TypedTerm → ℕ → Terms typed → End → ℕ → Terms typed → Type 0
TermsRun defs = RunOf (terms_step typed_rules defs)

abbrev pub FrameRun : List TypedTerm → List ℕ → ℕ → Terms typed → End → ℕ → Terms typed → Type 0
FrameRun defs dims = RunOf (frame_step defs dims)

abbrev pub CellRun : List TypedTerm → ℕ → TypedCell → End → ℕ → TypedCell → Type 0
CellRun defs = RunOf (cell_step typed_rules defs)

abbrev pub CellsRun : List TypedTerm → ℕ → Cells typed → End → ℕ → Cells typed → Type 0
CellsRun defs = RunOf (cells_step typed_rules defs)

-- a run of a box with these indices, in terms of its content
abbrev pub BoxRun : List TypedTerm → List Index → ℕ → TypedTerm → End → ℕ → TypedTerm → Type 0
BoxRun defs is budget first end left last = (u : Ty) → CellRun defs budget (TBoxed is first u) end left (TBoxed is last u)

-- where the parts of a term have been run: if they rest, the term's own rule is next
abbrev pub EndsAround : List TypedTerm → TypedTerm → ℕ → ℕ → End → ℕ → Type 0
EndsAround defs t n budget end.Value left = (n + left ≡ budget) × (step typed_rules defs t ≡ fires defs t)
EndsAround defs t n budget end left = EndsHere (step typed_rules defs t) n budget end left

-- a run of the parts of a term
pub record PartsRun (defs : List TypedTerm) (budget : ℕ) (first : TypedTerm) (end : End) (left : ℕ) (last : TypedTerm) : Type 0 where
  pub count : ℕ
  pub moved : moves (step typed_rules defs) count first ≡ Some last
  pub ends : EndsAround defs last count budget end left

-- the move of a term: it is made, or the run ends at the term
abbrev pub Fired : Move TypedTerm → ℕ → TypedTerm → Option End → ℕ → TypedTerm → Type 0
Fired next budget t None left u = (suc left ≡ budget) × (next ≡ Goes u)
Fired next budget t (Some end) left u = (u ≡ t) × EndsHere next 0 budget end left

-- a run of the function and the arguments of an application
abbrev pub ApplicationRun : List TypedTerm → ℕ → TypedTerm → Terms typed → End → ℕ → TypedTerm → Terms typed → Type 0
ApplicationRun defs budget f ts end left g us = (cs : List Index) (r : Ty) → PartsRun defs budget (TApp f ts cs r) end left (TApp g us cs r)
