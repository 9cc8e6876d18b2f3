-- A code and a reduction that end alike.
use Rattle.std.specs.Prelude.{ℕ, ◌+◌, ◌*◌, ◌≤◌}
use Rattle.core_syntax.specs.declared.errors.TrapKind.{TrapKind}
use Rattle.core_syntax.specs.declared.errors.StuckKind.{StuckKind}
use Rattle.core_syntax.specs.Arrays.{Arrayed}
use Rattle.machine_table.specs.Machine.{Outcome, Done, Trap, Stuck}

-- n steps of the code and k of the reduction bound each other, where the program has so many nodes
abbrev pub AreNear : (nodes n k : ℕ) → Type 0
AreNear nodes n k = (n ≤ 16 * (nodes * (k + 1))) × (k ≤ 4 * n)

-- The code of a program of so many nodes, which ends at these steps with these outcomes, ends exactly as the reduction does, which reaches these values and meets these traps; `same` says which arrays stand for which values. The code is never stuck.
pub record Agrees {A V : Type 0} (nodes : ℕ) (ends : ℕ → Outcome A → Type 0) (reached : ℕ → V → Type 0) (trapped_at : ℕ → TrapKind → Type 0) (same : Arrayed A → V → Type 0) : Type 0 where
  -- where the reduction ends, so does the code
  pub reaches : (k : ℕ) (v : V) → reached k v → (n : ℕ) × (a : Arrayed A) × ends n (Done a) × same a v × AreNear nodes n k
  pub traps : (k : ℕ) (kind : TrapKind) → trapped_at k kind → (n : ℕ) × ends n (Trap kind) × AreNear nodes n k
  -- where the code ends, so does the reduction
  pub done : (n : ℕ) (a : Arrayed A) → ends n (Done a) → (k : ℕ) × (v : V) × reached k v × same a v × AreNear nodes n k
  pub trapped : (n : ℕ) (kind : TrapKind) → ends n (Trap kind) → (k : ℕ) × trapped_at k kind × AreNear nodes n k
  pub never_stuck : (n : ℕ) (kind : StuckKind) → ends n (Stuck kind) → ⊥
