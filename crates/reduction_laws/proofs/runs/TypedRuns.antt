-- Runs of closed typed terms: each term on the way has the type, no step is lost, and at each k exactly one holds: a value is reached, the run has trapped, or it goes on.
use Rattle.std.proofs.Common.{◌≡◌, refl, sym, ◌∙◌, ap, subst, ℕ, zero, suc, ◌≤◌, arith, List, Some, inl, inr}
use Rattle.std.specs.Prelude.{◌⊎◌}
use Rattle.core_syntax.specs.declared.errors.TrapKind.{TrapKind}
use Rattle.core_syntax.specs.Syntax.{Ty}
use Rattle.core_syntax.specs.Typing.{defs_only}
use Rattle.core_syntax.specs.Move.{Move, Rests, Trapped, Goes, Lost, where_it_goes}
use Rattle.core_syntax.specs.Step.{step, after, TrapsAt, GoesOn, ReachedBy, TrappedBy}
use Rattle.core_syntax.specs.Typed.{typed_rules, TypedTerm}
use Rattle.core_syntax.specs.TermTyping.{HasTerm, HasClosed, DefTermsTyped}
use Rattle.core_syntax.proofs.Unique.{beside}
use Rattle.reduction_laws.proofs.steps.Bodies.{DefsClosed}
use Rattle.reduction_laws.proofs.steps.Moves.{Fine}
use Rattle.reduction_laws.proofs.steps.Parts.{IsArr, type_formed}
use Rattle.reduction_laws.proofs.primitives.Rules.{prims_fine}
use Rattle.reduction_laws.proofs.runs.Once.{goes_to, not_both}
use Rattle.reduction_laws.proofs.steps.Steps.{step_fine}

pub defs_closed : (D : List Ty) (defs : List TypedTerm) → DefTermsTyped D defs → DefsClosed D
defs_closed D defs h k u e = let d = beside (λ u t. HasTerm (defs_only D) t u) D defs k u h e in type_formed (defs_only D) d.0 u d.2

module _ (D : List Ty) (defs : List TypedTerm) (typed_defs : DefTermsTyped D defs) where
  -- what a step of a closed typed term does
  pub step_ok : (t : TypedTerm) (T : Ty) → HasClosed D t T → Fine (λ u. HasClosed D u T) (IsArr t) (step typed_rules defs t)
  step_ok t T h = step_fine D (defs_closed D defs typed_defs) (prims_fine D (defs_closed D defs typed_defs)) defs typed_defs t T h

  -- preservation
  pub preservation : (t u : TypedTerm) (T : Ty) → HasClosed D t T → step typed_rules defs t ≡ Goes u → HasClosed D u T
  preservation t u T h e = subst (Fine (λ u. HasClosed D u T) (IsArr t)) e (step_ok t T h)

  -- progress: no step is lost, and what rests is an array
  pub never_lost : (t : TypedTerm) (T : Ty) → HasClosed D t T → step typed_rules defs t ≡ Lost → ⊥
  never_lost t T h e = subst (Fine (λ u. HasClosed D u T) (IsArr t)) e (step_ok t T h)

  pub rests_array : (t : TypedTerm) (T : Ty) → HasClosed D t T → step typed_rules defs t ≡ Rests → IsArr t
  rests_array t T h e = subst (Fine (λ u. HasClosed D u T) (IsArr t)) e (step_ok t T h)

  -- each term on the way has the type
  pub after_has : (k : ℕ) (t u : TypedTerm) (T : Ty) → HasClosed D t T → after typed_rules defs k t ≡ Some u → HasClosed D u T
  after_has zero t u T h e = let same : t ≡ u = cc in subst (λ u. HasClosed D u T) same h
  after_has (suc k) t u T h e =
      let g = goes_to (step typed_rules defs t) (after typed_rules defs k) u e in
      after_has k g.0 u T (preservation t g.0 T h g.1) g.2

  -- ---- exactly one of three

  -- nothing is behind a value, and nothing behind a trap
  after_step : (t a : TypedTerm) (k : ℕ) → step typed_rules defs t ≡ Goes a → after typed_rules defs (suc k) t ≡ after typed_rules defs k a
  after_step t a k e = ap (λ m. where_it_goes m (after typed_rules defs k)) e

  -- a step before
  goes_on_zero : (t u : TypedTerm) → step typed_rules defs t ≡ Goes u → GoesOn typed_rules defs 0 t
  goes_on_zero t u e zero le = (
    (λ v r. let a : t ≡ v = (let e = r.0 in cc) in let x : step typed_rules defs t ≡ Rests = ap (step typed_rules defs) a ∙ r.1 in absurd (cc)),
    (λ kind s. absurd s),
  )
  goes_on_zero t u e (suc j) le = absurd (omega arith)

  no_value : (t : TypedTerm) (kind : TrapKind) → step typed_rules defs t ≡ Trapped kind → GoesOn typed_rules defs 0 t
  no_value t kind e zero le = (
    (λ v r. let a : t ≡ v = (let e = r.0 in cc) in let x : step typed_rules defs t ≡ Rests = ap (step typed_rules defs) a ∙ r.1 in absurd (cc)),
    (λ kind s. absurd s),
  )
  no_value t kind e (suc j) le = absurd (omega arith)

  later_goes : (k : ℕ) (t a : TypedTerm) → step typed_rules defs t ≡ Goes a → GoesOn typed_rules defs k a → GoesOn typed_rules defs (suc k) t
  later_goes k t a e h zero le = goes_on_zero t a e zero (omega arith)
  later_goes k t a e h (suc j) le = (
    (λ v r. (h j (omega arith)).0 v (sym (after_step t a j e) ∙ r.0, r.1)),
    (λ kind s. traps j (omega arith) kind s),
  )
    where
      traps : (j : ℕ) → j ≤ k → (kind : TrapKind) → TrapsAt typed_rules defs (suc j) t kind → ⊥
      traps zero le kind s = let b : t ≡ s.0 = (let e = s.1 in cc) in let y : step typed_rules defs t ≡ Trapped kind = ap (step typed_rules defs) b ∙ s.2 in cc
      traps (suc i) le kind s = (h (suc i) le).1 kind (s.0, sym (after_step t a i e) ∙ s.1, s.2)

  at_start : (t : TypedTerm) (T : Ty) → HasClosed D t T → (m : Move TypedTerm) → step typed_rules defs t ≡ m → ReachedBy typed_rules defs 0 t ⊎ (TrappedBy typed_rules defs 0 t ⊎ GoesOn typed_rules defs 0 t)
  at_start t T h Rests e = inl (0, omega arith, (t, (refl, e)))
  at_start t T h (Trapped kind) e = inr (inr (no_value t kind e))
  at_start t T h (Goes a) e = inr (inr (goes_on_zero t a e))
  at_start t T h Lost e = absurd (never_lost t T h e)

  step_later : (k : ℕ) (t a : TypedTerm) → step typed_rules defs t ≡ Goes a → ReachedBy typed_rules defs k a ⊎ (TrappedBy typed_rules defs k a ⊎ GoesOn typed_rules defs k a) → ReachedBy typed_rules defs (suc k) t ⊎ (TrappedBy typed_rules defs (suc k) t ⊎ GoesOn typed_rules defs (suc k) t)
  step_later k t a e (inl r) = inl (suc r.0, (let le = r.1 in omega arith), (r.2.0, (after_step t a r.0 e ∙ r.2.1.0, r.2.1.1)))
  step_later k t a e (inr (inl (zero, le, x))) = absurd x.1
  step_later k t a e (inr (inl (suc i, le, x))) = inr (inl (suc (suc i), omega arith, (x.0, (x.1.0, after_step t a i e ∙ x.1.1, x.1.2))))
  step_later k t a e (inr (inr g)) = inr (inr (later_goes k t a e g))

  -- one of three at each k
  pub outcome : (k : ℕ) (t : TypedTerm) (T : Ty) → HasClosed D t T → ReachedBy typed_rules defs k t ⊎ (TrappedBy typed_rules defs k t ⊎ GoesOn typed_rules defs k t)
  outcome zero t T h = at_start t T h (step typed_rules defs t) refl
  outcome (suc k) t T h = by (step typed_rules defs t) refl (λ a e. outcome k a T (preservation t a T h e))
    where
      by : (m : Move TypedTerm) → step typed_rules defs t ≡ m → ((a : TypedTerm) → step typed_rules defs t ≡ Goes a → ReachedBy typed_rules defs k a ⊎ (TrappedBy typed_rules defs k a ⊎ GoesOn typed_rules defs k a))
          → ReachedBy typed_rules defs (suc k) t ⊎ (TrappedBy typed_rules defs (suc k) t ⊎ GoesOn typed_rules defs (suc k) t)
      by Rests e f = inl (0, omega arith, (t, (refl, e)))
      by (Trapped kind) e f = inr (inl (1, omega arith, (kind, (t, refl, e))))
      by (Goes a) e f = step_later k t a e (f a e)
      by Lost e f = absurd (never_lost t T h e)

  -- and no two of them
  pub value_or_trap : (k : ℕ) (t : TypedTerm) → ReachedBy typed_rules defs k t → TrappedBy typed_rules defs k t → ⊥
  value_or_trap k t r s = not_both typed_rules defs r.0 s.0 t r.2.0 s.2.0 r.2.1 s.2.1

  pub value_or_goes : (k : ℕ) (t : TypedTerm) → ReachedBy typed_rules defs k t → GoesOn typed_rules defs k t → ⊥
  value_or_goes k t r g = (g r.0 r.1).0 r.2.0 r.2.1

  pub trap_or_goes : (k : ℕ) (t : TypedTerm) → TrappedBy typed_rules defs k t → GoesOn typed_rules defs k t → ⊥
  trap_or_goes k t r g = (g r.0 r.1).1 r.2.0 r.2.1
