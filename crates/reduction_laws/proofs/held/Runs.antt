-- Each term on the way of a run that starts with a held term is held.
use Rattle.std.proofs.Common.{◌≡◌, subst, ℕ, zero, suc, List, Some, None}
use Rattle.core_syntax.specs.Syntax.{Ty}
use Rattle.core_syntax.specs.Lists.{Each}
use Rattle.core_syntax.specs.Move.{Goes}
use Rattle.core_syntax.specs.Step.{step, after}
use Rattle.core_syntax.specs.Typed.{typed_rules, TypedTerm}
use Rattle.core_syntax.specs.TermTyping.{HasClosed, DefTermsTyped}
use Rattle.core_syntax.specs.Held.{IsHeld}
use Rattle.reduction_laws.proofs.held.Moves.{Kept}
use Rattle.reduction_laws.proofs.held.Steps.{step_kept}
use Rattle.reduction_laws.proofs.runs.Once.{goes_to}
use Rattle.reduction_laws.proofs.runs.TypedRuns.{preservation, rests_array}

module _ (D : List Ty) (defs : List TypedTerm) (typed_defs : DefTermsTyped D defs) (defs_held : Each IsHeld defs) where
  -- a step keeps a term held
  pub held_after_step : (t u : TypedTerm) (T : Ty) → HasClosed D t T → IsHeld t → step typed_rules defs t ≡ Goes u → IsHeld u
  held_after_step t u T h g e = subst (Kept IsHeld) e (step_kept D defs (rests_array D defs typed_defs) defs_held None t T h g)

  pub held_after : (k : ℕ) (t u : TypedTerm) (T : Ty) → HasClosed D t T → IsHeld t → after typed_rules defs k t ≡ Some u → IsHeld u
  held_after zero t u T h g e = let same : t ≡ u = cc in subst IsHeld same g
  held_after (suc k) t u T h g e =
      let w = goes_to (step typed_rules defs t) (after typed_rules defs k) u e in
      held_after k w.0 u T (preservation D defs typed_defs t w.0 T h w.1) (held_after_step t w.0 T h g w.1) w.2
