-- What the premises of a program come to.
use Rattle.std.specs.Prelude.{◌≡◌, ◌⊎◌}
use Rattle.core_syntax.specs.Syntax.{Program}
use Rattle.core_syntax.specs.Sorts.{Refusal}
use Rattle.core_syntax.specs.Made.{IsWellMade}
use Rattle.core_syntax.specs.Typing.{Typed}
use Rattle.core_syntax.specs.Blame.{IsAccepted, Blames}

-- a refusal's number is that of a measure
abbrev pub IsMeasure : Refusal → Type 0
IsMeasure r = (r.0 ≡ 13) ⊎ (r.0 ≡ 16)

-- a well-made program whose premises are all met is typed
abbrev pub AcceptedIsTyped : Type 0
AcceptedIsTyped = (P : Program) → IsWellMade P → IsAccepted P → Typed P

-- nothing of it is blamed
abbrev pub AcceptedIsUnrefused : Type 0
AcceptedIsUnrefused = (P : Program) (r : Refusal) → IsAccepted P → ¬ Blames P r

-- a program is blamed at one place with one number at most
abbrev pub HasOneRefusal : Type 0
HasOneRefusal = (P : Program) (r s : Refusal) → Blames P r → Blames P s → r ≡ s

-- a typed program is blamed for a measure only
abbrev pub TypedIsRefusedForAMeasure : Type 0
TypedIsRefusedForAMeasure = (P : Program) → Typed P → (r : Refusal) → Blames P r → IsMeasure r
