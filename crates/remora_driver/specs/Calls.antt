-- What calls on a source or a code text answer.
use Rattle.std.specs.Prelude.{◌≡◌, ℕ, List, Option, Some, None, ⊤}
use Rattle.core_syntax.specs.declared.checked.Checked.{Checked}
use Rattle.core_syntax.specs.Wholes.{program_of}
use Rattle.remora_driver.specs.declared.answer.Answer.{Answer as Given}
use Rattle.remora_driver.specs.declared.answer.Answer.TheVariants as given
use Rattle.remora_driver.specs.declared.errors.SourceRefusal.{SourceRefusal}
use Rattle.remora_driver.specs.declared.errors.SourceRefusal.TheVariants as no_text
use Rattle.remora_driver.specs.Due.{Answer, written, refused, data_refused, trapped, stuck, still_running, IsBuildDue, IsReductionDue}
use Rattle.remora_driver.specs.Reductions.{notes_of}

-- the status and the text of an answer; want of memory has none in the top call
abbrev pub answer_of : Given → Option Answer
answer_of (given.Text text) = Some (written text.items)
answer_of (given.Trap kind) = Some (trapped kind)
answer_of (given.Refused number at) = Some (refused number at)
answer_of (given.DataRefused number at) = Some (data_refused number at)
answer_of (given.Stuck kind) = Some (stuck kind)
answer_of given.StillRunning = Some still_running
answer_of given.Memory = None

-- the call answers this, or there was no memory
abbrev pub Tells : Answer → Given → Type 0
Tells a given.Memory = ⊤
Tells a g = answer_of g ≡ Some a

-- the call answers what is due, or there was no memory
abbrev pub TellsDue : (Answer → Type 0) → Given → Type 0
TellsDue IsDue given.Memory = ⊤
TellsDue IsDue g = (a : Answer) × IsDue a × (answer_of g ≡ Some a)

-- the call isn't stuck
abbrev pub IsUnstuck : Given → Type 0
IsUnstuck (given.Stuck _) = ⊥
IsUnstuck _ = ⊤

-- what is due for a checked program that is reduced on these data
abbrev pub IsCheckedDue : Checked → List ℕ → ℕ → Answer → Type 0
IsCheckedDue c data' budget a = IsReductionDue (program_of c.program) (notes_of c) data' budget a

-- why a source isn't built, or there was no memory
abbrev pub RefusesBuild : List ℕ → SourceRefusal → Type 0
RefusesBuild source (no_text.Refused number at) = IsBuildDue source (refused number at)
RefusesBuild source no_text.Memory = ⊤
