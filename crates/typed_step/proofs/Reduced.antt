-- What runs of closed terms come to.
use Rattle.std.proofs.Common.{◌≡◌, sym, ◌∙◌, ap, subst, ℕ, suc, ◌≤◌, ◌<◌, arith, List, Some, inl, inr}
use Rattle.std.specs.Prelude.{◌⊎◌}
use Rattle.std.proofs.Math.Nat.{eq-or-lt_of_le}
use Rattle.std.proofs.Math.Logic.{∥∥₁_map, ∥∥₁_elim}
use Rattle.core_syntax.specs.declared.errors.TrapKind.{TrapKind}
use Rattle.core_syntax.specs.Move.{Rests, Trapped, Goes}
use Rattle.core_syntax.specs.Step.{step, after, ReachesValue, TrapsAt, GoesOn}
use Rattle.core_syntax.specs.Typed.{typed_rules, TypedTerm}
use Rattle.typed_step.specs.declared.outcome.End.{End}
use Rattle.typed_step.specs.declared.outcome.End.TheVariants as end
use Rattle.typed_step.specs.Closing.{IsClosed}
use Rattle.typed_step.specs.Runs.{moves, TermRun}
use Rattle.typed_step.proofs.ClosedRuns.{moves_after, keeps_closed, not_lost, goes_on, after_none, after_one}

module _ (defs : List TypedTerm) (t u : TypedTerm) where
  stands : (n : ℕ) → moves (step typed_rules defs) n t ≡ Some u → after typed_rules defs n t ≡ Some u
  stands n m = sym (moves_after defs n t) ∙ m

  -- the term at the end is closed and typed
  pub run_closed : (budget left : ℕ) (e : End) → ∥ IsClosed defs t ∥₁ → TermRun defs budget t e left u → ∥ IsClosed defs u ∥₁
  run_closed budget left e c r = ∥∥₁_map c (λ x. keeps_closed defs r.count t u x (stands r.count r.moved))

  -- and has a rule
  pub run_not_lost : (budget left : ℕ) (e : End) → ∥ IsClosed defs t ∥₁ → TermRun defs budget t e left u → e ≡ end.Lost → ⊥
  run_not_lost budget left e c r is =
      let s = subst (λ x. TermRun defs budget t x left u) is r in
      ∥∥₁_elim c (λ x y. absurd x) (λ x. not_lost defs u (keeps_closed defs s.count t u x (stands s.count s.moved)) s.ends.1)

  module _ (k left : ℕ) where
    pub value_reached : TermRun defs k t end.Value left u → (j : ℕ) × (j ≤ k) × ReachesValue typed_rules defs j t u
    value_reached r = (r.count, (let x = r.ends.0 in omega arith), (stands r.count r.moved, r.ends.1))

    pub trap_reached : (kind : TrapKind) → TermRun defs k t (end.Trap kind) left u → (j : ℕ) × (j ≤ k) × TrapsAt typed_rules defs j t kind
    trap_reached kind r = (suc r.count, (let x = r.ends.0 in omega arith), (u, stands r.count r.moved, r.ends.1))

    pub still_goes : TermRun defs k t end.Spent left u → (after typed_rules defs k t ≡ Some u) × GoesOn typed_rules defs k t
    still_goes r =
        let a = subst (λ n. after typed_rules defs n t ≡ Some u) r.ends.0 (stands r.count r.moved) in (a, goes_on defs k t u a r.ends.2)

  -- one step at most
  pub is_value : (left : ℕ) → TermRun defs 1 t end.Value left u → left ≡ 1 → (u ≡ t) × (step typed_rules defs t ≡ Rests)
  is_value left r e =
      let none : r.count ≡ 0 = (let x = r.ends.0 in omega arith) in
      let same : t ≡ u = after_none defs t u (subst (λ n. after typed_rules defs n t ≡ Some u) none (stands r.count r.moved)) in
      (sym same, ap (step typed_rules defs) same ∙ r.ends.1)

  pub to_a_value : (left : ℕ) → TermRun defs 1 t end.Value left u → (left ≡ 1 → ⊥) → step typed_rules defs t ≡ Goes u
  to_a_value left r n = one (by (eq-or-lt_of_le (let x = r.ends.0 in let y : left ≤ 1 = omega arith in y)))
    where
      by : (left ≡ 1) ⊎ (left < 1) → r.count ≡ 1
      by (inl e) = absurd (n e)
      by (inr lt) = let x = r.ends.0 in omega (arith, lt, x)

      one : r.count ≡ 1 → step typed_rules defs t ≡ Goes u
      one e = after_one defs t u (subst (λ m. after typed_rules defs m t ≡ Some u) e (stands r.count r.moved))

  pub to_the_next : (left : ℕ) → TermRun defs 1 t end.Spent left u → step typed_rules defs t ≡ Goes u
  to_the_next left r = after_one defs t u (subst (λ n. after typed_rules defs n t ≡ Some u) r.ends.0 (stands r.count r.moved))

  pub to_a_trap : (left : ℕ) (kind : TrapKind) → TermRun defs 1 t (end.Trap kind) left u → step typed_rules defs t ≡ Trapped kind
  to_a_trap left kind r =
      let none : r.count ≡ 0 = (let x = r.ends.0 in omega arith) in
      let same : t ≡ u = after_none defs t u (subst (λ n. after typed_rules defs n t ≡ Some u) none (stands r.count r.moved)) in
      ap (step typed_rules defs) same ∙ r.ends.1
