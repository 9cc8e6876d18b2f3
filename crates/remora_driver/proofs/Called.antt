-- What calls answer, from what is due.
use Rattle.std.proofs.Common.{◌≡◌, sym, ◌∙◌, subst, Some, Result, Ok, Err}
use Rattle.std.specs.Prelude.{IfOk}
use Rattle.std.proofs.lemmas.Option.{none-some}
use Rattle.core_syntax.specs.declared.errors.StuckKind.{StuckKind}
use Rattle.core_syntax.proofs.Unique.{some_is}
use Rattle.remora_driver.specs.declared.answer.Answer.{Answer as Given}
use Rattle.remora_driver.specs.declared.answer.Answer.TheVariants as given
use Rattle.remora_driver.specs.declared.reply.Reply.{Reply}
use Rattle.remora_driver.specs.Calls.{answer_of, Tells, TellsDue, IsUnstuck}
use Rattle.remora_driver.specs.Due.{Answer, stuck}
use Rattle.remora_driver.specs.Sources.{seen}

-- what is due and is told
pub due_told : (IsDue : Answer → Type 0) (a : Answer) (g : Given) → IsDue a → Tells a g → TellsDue IsDue g
due_told IsDue a (given.Text text) due h = (a, due, h)
due_told IsDue a (given.Trap kind) due h = (a, due, h)
due_told IsDue a (given.Refused number at) due h = (a, due, h)
due_told IsDue a (given.DataRefused number at) due h = (a, due, h)
due_told IsDue a (given.Stuck _) due h = (a, due, h)
due_told IsDue a given.StillRunning due h = (a, due, h)
due_told IsDue a given.Memory due h = tt

-- what is due of a part is due of the whole
pub told_further : (IsDue IsDue' : Answer → Type 0) (g : Given) → ((a : Answer) → IsDue a → IsDue' a) → TellsDue IsDue g → TellsDue IsDue' g
told_further D D' (given.Text text) f h = (h.0, f h.0 h.1, h.2)
told_further D D' (given.Trap kind) f h = (h.0, f h.0 h.1, h.2)
told_further D D' (given.Refused number at) f h = (h.0, f h.0 h.1, h.2)
told_further D D' (given.DataRefused number at) f h = (h.0, f h.0 h.1, h.2)
told_further D D' (given.Stuck _) f h = (h.0, f h.0 h.1, h.2)
told_further D D' given.StillRunning f h = (h.0, f h.0 h.1, h.2)
told_further D D' given.Memory f h = tt

-- where no stuck machine is due, the call isn't stuck
pub told_unstuck : (IsDue : Answer → Type 0) (g : Given) → ((kind : StuckKind) → IsDue (stuck kind) → ⊥) → TellsDue IsDue g → IsUnstuck g
told_unstuck D (given.Text text) never h = tt
told_unstuck D (given.Trap kind) never h = tt
told_unstuck D (given.Refused number at) never h = tt
told_unstuck D (given.DataRefused number at) never h = tt
told_unstuck D (given.Stuck kind) never h = never kind (subst D (sym (some_is _ _ h.2)) h.1)
told_unstuck D given.StillRunning never h = tt
told_unstuck D given.Memory never h = tt

-- what is told is due
told_due : (IsDue : Answer → Type 0) (g : Given) (a : Answer) → TellsDue IsDue g → answer_of g ≡ Some a → IsDue a
told_due D (given.Text text) a h e = subst D (sym (some_is _ _ h.2) ∙ some_is _ _ e) h.1
told_due D (given.Trap kind) a h e = subst D (sym (some_is _ _ h.2) ∙ some_is _ _ e) h.1
told_due D (given.Refused number at) a h e = subst D (sym (some_is _ _ h.2) ∙ some_is _ _ e) h.1
told_due D (given.DataRefused number at) a h e = subst D (sym (some_is _ _ h.2) ∙ some_is _ _ e) h.1
told_due D (given.Stuck _) a h e = subst D (sym (some_is _ _ h.2) ∙ some_is _ _ e) h.1
told_due D given.StillRunning a h e = subst D (sym (some_is _ _ h.2) ∙ some_is _ _ e) h.1
told_due D given.Memory a h e = absurd (none-some a e)

-- and so is its reply
pub replied_due : {E : Type 0} (IsDue : Answer → Type 0) (g : Given) (r : Result Reply E) → TellsDue IsDue g → IfOk r (λ x. answer_of g ≡ Some (seen x)) → IfOk r (λ x. IsDue (seen x))
replied_due IsDue g (Ok x) h e = told_due IsDue g (seen x) h e
replied_due IsDue g (Err x) h e = tt
