-- What reducing a checked program says, and how its answers are seen.
use Rattle.std.specs.Prelude.{◌≡◌, ℕ, List, Result, Ok, Err, ⊤}
use Rattle.core_syntax.specs.declared.checked.Checked.{Checked}
use Rattle.core_syntax.specs.Data.{Data, FitsType, array_of_value}
use Rattle.core_syntax.specs.Lists.{each}
use Rattle.core_syntax.specs.Notes.{NodeNote, note_of}
use Rattle.core_syntax.specs.RefineTerms.{term_of}
use Rattle.core_syntax.specs.Step.{ReachesValue}
use Rattle.core_syntax.specs.Syntax as syntax
use Rattle.core_syntax.specs.Typed.{typed_rules, TypedTerm}
use Rattle.core_syntax.specs.Wholes.{program_of}
use Rattle.typed_step.specs.declared.closed.Closed.{Closed}
use Rattle.typed_step.specs.declared.closed.Next.{Next}
use Rattle.typed_step.specs.declared.closed.Next.TheVariants as next
use Rattle.typed_step.specs.Steps.{Reduced}
use Rattle.array_values.specs.Data.{array_data}
use Rattle.remora_driver.specs.declared.reducing.Reduction.{Reduction}
use Rattle.remora_driver.specs.declared.reducing.Reduction.TheVariants as reduction
use Rattle.remora_driver.specs.Due.{Answer, shown, trapped, still_running, HasEnd}

-- the notes of a checked program's nodes
abbrev pub notes_of : Checked → List NodeNote
notes_of c = each note_of c.notes

-- a value of a printable type
abbrev pub IsPrinted : TypedTerm → Type 0
IsPrinted v = ∥ ((t : syntax.Ty) × FitsType t (array_of_value typed_rules v)) ∥₁

-- the answer that shows how a reduction ends
abbrev pub ended : Reduction → Answer
ended (reduction.Value a) = shown a
ended (reduction.Trap kind) = trapped kind
ended reduction.Going = still_running

-- the end at this value
abbrev pub IsValueOf : TypedTerm → Reduction → Type 0
IsValueOf v (reduction.Value a) = array_data a ≡ array_of_value typed_rules v
IsValueOf v (reduction.Trap kind) = ⊥
IsValueOf v reduction.Going = ⊥

-- the end of a run that stands there after its steps
abbrev pub IsEndOf : Next → Reduction → Type 0
IsEndOf (next.Value c) end = IsValueOf (term_of c.term) end
IsEndOf (next.Trap kind) end = end ≡ reduction.Trap kind
IsEndOf (next.Goes c) end = end ≡ reduction.Going

-- the same of a run for whose steps there was memory
abbrev pub IsEndIn : {E : Type 0} → Result Next E → Reduction → Type 0
IsEndIn (Ok next) end = IsEndOf next end
IsEndIn (Err e) end = ⊥

-- where it stands at a value, that is of a printable type
abbrev pub Prints : Next → Type 0
Prints (next.Value c) = IsPrinted (term_of c.term)
Prints (next.Trap kind) = ⊤
Prints (next.Goes c) = ⊤

-- each value that a closed term reaches is
abbrev pub PrintsValues : Closed → Type 0
PrintsValues c = (k : ℕ) (v : TypedTerm) → ReachesValue typed_rules (each term_of c.defs) k (term_of c.term) v → IsPrinted v

-- so at most that many steps of a closed term end
abbrev pub EndsFrom : Closed → ℕ → Reduction → Type 0
EndsFrom c budget end = (next : Next) × Reduced (each term_of c.defs) (term_of c.term) budget next × IsEndOf next end

-- and of a checked program on these values
abbrev pub EndsIn : Checked → ℕ → List Data → Answer → Type 0
EndsIn c budget xs a = HasEnd (program_of c.program) (notes_of c) budget xs a
