-- That a machine is stuck is no other answer.
use Rattle.std.proofs.Common.{◌≡◌, ap, ℕ}
use Rattle.core_syntax.specs.declared.errors.StuckKind.{StuckKind}
use Rattle.core_syntax.specs.declared.errors.TrapKind.{TrapKind}
use Rattle.core_syntax.specs.declared.span.Span.{Span}
use Rattle.array_values.specs.Values.{Array}
use Rattle.remora_driver.specs.declared.status.Status.{Status}
use Rattle.remora_driver.specs.declared.status.Status.TheVariants as status
use Rattle.remora_driver.specs.Due.{Answer, refused, data_refused, shown, trapped, stuck, still_running}

abbrev status_of : Answer → Status
status_of a = a.status

pub stuck_or_shown : (kind : StuckKind) (x : Array) → stuck kind ≡ shown x → ⊥
stuck_or_shown kind x e = let s : ◌≡◌ {A = Status} (status.Stuck kind) status.Ok = ap status_of e in absurd (cc)

pub stuck_or_trapped : (kind : StuckKind) (why : TrapKind) → stuck kind ≡ trapped why → ⊥
stuck_or_trapped kind why e = let s : ◌≡◌ {A = Status} (status.Stuck kind) (status.Trap why) = ap status_of e in absurd (cc)

pub stuck_or_refused : (kind : StuckKind) (number : ℕ) (at : Span) → stuck kind ≡ refused number at → ⊥
stuck_or_refused kind number at e = let s : ◌≡◌ {A = Status} (status.Stuck kind) (status.Refused number at) = ap status_of e in absurd (cc)

pub stuck_or_running : (kind : StuckKind) → stuck kind ≡ still_running → ⊥
stuck_or_running kind e = let s : ◌≡◌ {A = Status} (status.Stuck kind) status.StillRunning = ap status_of e in absurd (cc)

pub stuck_or_unfit : (kind : StuckKind) (number : ℕ) (at : Span) → stuck kind ≡ data_refused number at → ⊥
stuck_or_unfit kind number at e = let s : ◌≡◌ {A = Status} (status.Stuck kind) (status.DataRefused number at) = ap status_of e in absurd (cc)
