-- What runs of a checked program come to.
use Rattle.std.specs.Prelude.{◌≡◌, ◌⊎◌, ℕ, List, Some}
use Rattle.core_syntax.specs.declared.errors.TrapKind.{TrapKind}
use Rattle.core_syntax.specs.Syntax.{Ty, Program}
use Rattle.core_syntax.specs.Lists.{each}
use Rattle.core_syntax.specs.Literals.{LiteralsFit}
use Rattle.core_syntax.specs.Made.{IsWellMade}
use Rattle.core_syntax.specs.Notes.{NodeNote}
use Rattle.core_syntax.specs.Checks.{IsChecked}
use Rattle.core_syntax.specs.Move.{Lost}
use Rattle.core_syntax.specs.Step.{step, after, ReachedBy, TrappedBy}
use Rattle.core_syntax.specs.Typed.{typed_rules, TypedTerm}
use Rattle.core_syntax.specs.TermTyping.{HasClosed}
use Rattle.core_syntax.specs.Data.{Data, FitsValues, FitsType, array_of_value}
use Rattle.core_syntax.specs.Start.{def_terms, start_term, Reaches, SourceTraps, SourceGoes}

-- a checked program, with data that fits its inputs
pub record IsReady (P : Program) (result : Ty) (notes : List NodeNote) (xs : List Data) : Type 0 where
  pub inputs : List Ty
  pub made : IsWellMade P
  pub checked : IsChecked P result inputs notes
  pub fits : FitsValues inputs xs

-- a fact of each such program and data
abbrev pub Always : (Program → Ty → List NodeNote → List Data → Type 0) → Type 0
Always F = (P : Program) (result : Ty) (notes : List NodeNote) (xs : List Data) → IsReady P result notes xs → F P result notes xs

-- the types of a program's definitions
abbrev pub def_types : Program → List Ty
def_types P = each (λ d. d.ty) P.defs

-- the term after exactly k steps is this one
abbrev pub OnTheWay : Program → List NodeNote → List Data → ℕ → TypedTerm → Type 0
OnTheWay P notes xs k u = after typed_rules (def_terms P notes) k (start_term P notes xs) ≡ Some u

-- the first term has the type of the program's body
abbrev pub StartsTyped : Type 0
StartsTyped = Always (λ P result notes xs. HasClosed (def_types P) (start_term P notes xs) result)

-- each term on the way has it
abbrev pub KeepsType : Type 0
KeepsType = Always (λ P result notes xs. (k : ℕ) (u : TypedTerm) → OnTheWay P notes xs k u → HasClosed (def_types P) u result)

-- none of them is without a rule and no value
abbrev pub NeverStuck : Type 0
NeverStuck = Always (λ P result notes xs. (k : ℕ) (u : TypedTerm) → OnTheWay P notes xs k u → ¬ (step typed_rules (def_terms P notes) u ≡ Lost))

-- where its literals are those of a text, the data of a value that is reached fits that type, as an input fits its own
abbrev pub ReachesData : Type 0
ReachesData = Always (λ P result notes xs. LiteralsFit P → (k : ℕ) (v : TypedTerm) → Reaches P notes xs k v → FitsType result (array_of_value typed_rules v))

-- a value is reached at k or before
abbrev pub HasReached : Program → List NodeNote → List Data → ℕ → Type 0
HasReached P notes xs k = ReachedBy typed_rules (def_terms P notes) k (start_term P notes xs)

-- the run has trapped at k or before
abbrev pub HasTrapped : Program → List NodeNote → List Data → ℕ → Type 0
HasTrapped P notes xs k = TrappedBy typed_rules (def_terms P notes) k (start_term P notes xs)

-- one of these holds, or the run goes on
abbrev pub HasOutcome : Type 0
HasOutcome = Always (λ P result notes xs. (k : ℕ) → HasReached P notes xs k ⊎ (HasTrapped P notes xs k ⊎ SourceGoes P notes xs k))

-- and no two of the three hold
abbrev pub HasOneOutcome : Type 0
HasOneOutcome = Always (λ P result notes xs. (k : ℕ) →
    (HasReached P notes xs k → ¬ HasTrapped P notes xs k) × (HasReached P notes xs k → ¬ SourceGoes P notes xs k) × (HasTrapped P notes xs k → ¬ SourceGoes P notes xs k))

-- one value is reached at most, after one number of steps
abbrev pub EndsOnce : Type 0
EndsOnce = (P : Program) (notes : List NodeNote) (xs : List Data) (j k : ℕ) (v w : TypedTerm) → Reaches P notes xs j v → Reaches P notes xs k w → (j ≡ k) × (v ≡ w)

-- and one trap is met at most, at one step
abbrev pub TrapsOnce : Type 0
TrapsOnce = (P : Program) (notes : List NodeNote) (xs : List Data) (j k : ℕ) (a b : TrapKind) → SourceTraps P notes xs j a → SourceTraps P notes xs k b → (j ≡ k) × (a ≡ b)
