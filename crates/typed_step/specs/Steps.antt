-- What steps of closed terms give.
use Rattle.std.specs.Prelude.{ℕ, zero, ◌≤◌, ◌≡◌, List, Some, Result, Ok}
use Rattle.core_syntax.specs.declared.errors.Memory.{Memory}
use Rattle.core_syntax.specs.declared.errors.TrapKind.{TrapKind}
use Rattle.core_syntax.specs.declared.term.TermExpr.{TermExpr}
use Rattle.core_syntax.specs.Lists.{each}
use Rattle.core_syntax.specs.Move.{Rests, Trapped, Goes}
use Rattle.core_syntax.specs.Step.{step, after, ReachesValue, TrapsAt, GoesOn}
use Rattle.core_syntax.specs.RefineTerms.{term_of}
use Rattle.core_syntax.specs.Typed.{typed_rules, TypedTerm}
use Rattle.typed_step.specs.Closing.{IsClosed}
use Rattle.typed_step.specs.declared.outcome.End.{End}
use Rattle.typed_step.specs.declared.outcome.End.TheVariants as end
use Rattle.typed_step.specs.declared.closed.Closed.{Closed}
use Rattle.typed_step.specs.declared.closed.Next.{Next}
use Rattle.typed_step.specs.declared.closed.Next.TheVariants as next

-- this term over these definitions
abbrev pub IsTerm : List TypedTerm → TypedTerm → Closed → Type 0
IsTerm defs t c = (each term_of c.defs ≡ defs) × (term_of c.term ≡ t)

-- one step
abbrev pub Stepped : List TypedTerm → TypedTerm → Next → Type 0
Stepped defs t (next.Value c) = IsTerm defs t c × (step typed_rules defs t ≡ Rests)
Stepped defs t (next.Trap kind) = step typed_rules defs t ≡ Trapped kind
Stepped defs t (next.Goes c) = (each term_of c.defs ≡ defs) × (step typed_rules defs t ≡ Goes (term_of c.term))

-- at most k steps: a value is reached within k, a step within k traps, or the run goes on at k, where this term stands
abbrev pub Reduced : List TypedTerm → TypedTerm → ℕ → Next → Type 0
Reduced defs t k (next.Value c) = (each term_of c.defs ≡ defs) × ((j : ℕ) × (j ≤ k) × ReachesValue typed_rules defs j t (term_of c.term))
Reduced defs t k (next.Trap kind) = (j : ℕ) × (j ≤ k) × TrapsAt typed_rules defs j t kind
Reduced defs t k (next.Goes c) = (each term_of c.defs ≡ defs) × (after typed_rules defs k t ≡ Some (term_of c.term)) × GoesOn typed_rules defs k t

-- a run ends for this reason at a closed term, and not for want of a rule
abbrev pub IsEnd : List TypedTerm → TypedTerm → End → Type 0
IsEnd defs t e = ∥ IsClosed defs t ∥₁ × ¬ (e ≡ end.Lost)

-- a value that took the last step of a budget is the next term
abbrev pub Looked : Result End Memory → ℕ → Result End Memory → Type 0
Looked (Ok end.Value) zero r = r ≡ Ok end.Spent
Looked ran left r = r ≡ ran

-- steps that end for this reason at this term
abbrev pub CameTo : End → List TermExpr → TermExpr → Next → Type 0
CameTo e defs t (next.Value c) = (e ≡ end.Value) × (c.defs ≡ defs) × (c.term ≡ t)
CameTo e defs t (next.Trap k) = e ≡ end.Trap k
CameTo e defs t (next.Goes c) = (e ≡ end.Spent) × (c.defs ≡ defs) × (c.term ≡ t)

-- the same of steps that come to an end at all
abbrev pub Came : Result End Memory → List TermExpr → TermExpr → Next → Type 0
Came ran defs t n = (e : End) × (ran ≡ Ok e) × CameTo e defs t n

-- steps that trap
abbrev pub IsTrap : TrapKind → Next → Type 0
IsTrap k n = n ≡ next.Trap k
