-- The texts that the commands write.
use Rattle.std.specs.Prelude.{ℕ, List, [], ◌∷◌, ◌++◌, codes}
use Rattle.std.specs.Fmt.{decimal}
use Rattle.core_syntax.specs.declared.span.Span.{Span}
use Rattle.core_syntax.specs.declared.errors.TrapKind.{TrapKind}
use Rattle.core_syntax.specs.declared.errors.TrapKind.TheVariants.{Overflow, Zero, Size}
use Rattle.core_syntax.specs.declared.errors.StuckKind.{StuckKind}
use Rattle.core_syntax.specs.declared.errors.StuckKind.TheVariants.{Operand, Kind, Rank, Shape}
use Rattle.core_syntax.specs.NormTypes.{norm_ty, ty_text}
use Rattle.core_syntax.specs.Syntax.{Ty}
use Rattle.remora_driver.specs.declared.telling.Telling.{Telling}
use Rattle.remora_driver.specs.declared.telling.Telling.TheVariants as telling

-- a text that ends its line
abbrev pub line : List ℕ → List ℕ
line text = text ++ 10 ∷ []

-- an accepted program: `ok` and the normal form of its body's type
abbrev pub accepted_text : Ty → List ℕ
accepted_text t = codes "ok " ++ ty_text (norm_ty t)

-- a refusal: its number, and the line and column of its place
abbrev pub refusal_text : ℕ → Span → List ℕ
refusal_text number at = codes "refused " ++ (decimal number ++ (codes " " ++ (decimal at.line ++ (codes ":" ++ decimal at.col))))

-- a refusal of data
abbrev pub data_refusal_text : ℕ → Span → List ℕ
data_refusal_text number at = codes "data " ++ refusal_text number at

-- a trap
abbrev pub trap_text : TrapKind → List ℕ
trap_text Overflow = codes "trap overflow"
trap_text Zero = codes "trap zero"
trap_text Size = codes "trap size"

-- a machine that is stuck
abbrev pub stuck_text : StuckKind → List ℕ
stuck_text Operand = codes "stuck operand"
stuck_text Kind = codes "stuck kind"
stuck_text Rank = codes "stuck rank"
stuck_text Shape = codes "stuck shape"

-- a value of the soak program with so many definitions, of which the code took so many steps
abbrev pub soak_text : ℕ → ℕ → List ℕ → List ℕ
soak_text count steps value = codes "soak " ++ (decimal count ++ (codes ": " ++ (decimal steps ++ (codes " steps, " ++ value))))

-- a value that a run reaches at a step, by how it is told: alone, or as one of the soak program
abbrev pub told_text : Telling → ℕ → List ℕ → List ℕ
told_text telling.Value steps value = value
told_text (telling.Soak count) steps value = soak_text count steps value

-- a budget that was used up
abbrev pub still_running_text : List ℕ
still_running_text = codes "still running"

-- how the program is called
abbrev pub usage_text : List ℕ
usage_text = codes "usage: remora check FILE, build FILE, run or exec or reduce FILE [--steps N], soak K"
