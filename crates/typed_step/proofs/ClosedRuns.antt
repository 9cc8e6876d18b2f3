-- Runs of closed typed terms: they keep their types, and what they come to is what steps give.
use Rattle.std.proofs.Common.{◌≡◌, refl, sym, ◌∙◌, ap, subst, ℕ, zero, suc, ◌<◌, ◌≤◌, arith, List, Some, inl, inr}
use Rattle.std.specs.Prelude.{◌⊎◌}
use Rattle.std.proofs.Math.Nat.{eq-or-lt_of_le}
use Rattle.core_syntax.specs.declared.errors.TrapKind.{TrapKind}
use Rattle.core_syntax.specs.Move.{Move, Rests, Trapped, Goes, Lost, where_it_goes}
use Rattle.core_syntax.specs.Step.{step, after, ReachesValue, TrapsAt, GoesOn}
use Rattle.core_syntax.specs.Typed.{typed_rules, TypedTerm}
use Rattle.core_syntax.proofs.Unique.{some_is}
use Rattle.typed_step.specs.Closing.{IsClosed}
use Rattle.typed_step.specs.Runs.{moves}
use Rattle.reduction_laws.proofs.runs.Once.{goes_to}
use Rattle.reduction_laws.proofs.runs.TypedRuns.{never_lost, after_has}

-- after moves is after steps
pub moves_after : (defs : List TypedTerm) (n : ℕ) (t : TypedTerm) → moves (step typed_rules defs) n t ≡ after typed_rules defs n t
moves_after defs zero t = refl
moves_after defs (suc n) t = by (step typed_rules defs t) (λ u. moves_after defs n u)
  where
    by : (m : Move TypedTerm) → ((u : TypedTerm) → moves (step typed_rules defs) n u ≡ after typed_rules defs n u) → where_it_goes m (moves (step typed_rules defs) n) ≡ where_it_goes m (after typed_rules defs n)
    by Rests f = refl
    by (Trapped k) f = refl
    by (Goes u) f = f u
    by Lost f = refl

module _ (defs : List TypedTerm) where
  -- each term on the way is closed and typed
  pub keeps_closed : (n : ℕ) (t u : TypedTerm) → IsClosed defs t → after typed_rules defs n t ≡ Some u → IsClosed defs u
  keeps_closed n t u c e = (c.0, c.1, (c.2.0, after_has c.0 defs c.1 n t u c.2.0 c.2.1 e))

  -- and none is without a rule
  pub not_lost : (t : TypedTerm) → IsClosed defs t → step typed_rules defs t ≡ Lost → ⊥
  not_lost t c e = never_lost c.0 defs c.1 t c.2.0 c.2.1 e

  -- a term before another on a run goes on
  before_goes : (i k : ℕ) (t w u : TypedTerm) → i < k → after typed_rules defs i t ≡ Some w → after typed_rules defs k t ≡ Some u → (a : TypedTerm) × (step typed_rules defs w ≡ Goes a)
  before_goes i zero t w u lt e f = absurd (omega (arith, lt))
  before_goes zero (suc k) t w u lt e f =
      let g = goes_to (step typed_rules defs t) (after typed_rules defs k) u f in (g.0, ap (step typed_rules defs) (sym (some_is t w e)) ∙ g.1)
  before_goes (suc i) (suc k) t w u lt e f =
      let g = goes_to (step typed_rules defs t) (after typed_rules defs i) w e in
      let h = goes_to (step typed_rules defs t) (after typed_rules defs k) u f in
      let same : h.0 ≡ g.0 = (let x : Goes h.0 ≡ Goes g.0 = sym h.1 ∙ g.1 in cc) in
      before_goes i k g.0 w u (omega (arith, lt)) g.2 (subst (λ a. after typed_rules defs k a ≡ Some u) same h.2)

  same_after : (i : ℕ) (t w u : TypedTerm) → after typed_rules defs i t ≡ Some w → after typed_rules defs i t ≡ Some u → w ≡ u
  same_after i t w u e f = some_is w u (sym e ∙ f)

  no_rest : (k j : ℕ) (t u v : TypedTerm) → after typed_rules defs k t ≡ Some u → (step typed_rules defs u ≡ Rests → ⊥) → j ≤ k → ReachesValue typed_rules defs j t v → ⊥
  no_rest k j t u v e n le r = by (eq-or-lt_of_le le)
    where
      by : (j ≡ k) ⊎ (j < k) → ⊥
      by (inr lt) = let g = before_goes j k t v u lt r.0 e in let x : Rests ≡ Goes g.0 = sym r.1 ∙ g.1 in cc
      by (inl q) = n (ap (step typed_rules defs) (same_after j t u v (subst (λ i. after typed_rules defs i t ≡ Some u) (sym q) e) r.0) ∙ r.1)

  no_trap : (k j : ℕ) (t u : TypedTerm) (kind : TrapKind) → after typed_rules defs k t ≡ Some u → j ≤ k → TrapsAt typed_rules defs j t kind → ⊥
  no_trap k zero t u kind e le s = s
  no_trap k (suc i) t u kind e le s =
      let g = before_goes i k t s.0 u (omega (arith, le)) s.1 e in let x : Trapped kind ≡ Goes g.0 = sym s.2 ∙ g.1 in cc

  -- a term that stands after k steps and is no value
  pub goes_on : (k : ℕ) (t u : TypedTerm) → after typed_rules defs k t ≡ Some u → (step typed_rules defs u ≡ Rests → ⊥) → GoesOn typed_rules defs k t
  goes_on k t u e n j le = ((λ v r. no_rest k j t u v e n le r), (λ kind s. no_trap k j t u kind e le s))

  -- after no step and after one
  pub after_none : (t u : TypedTerm) → after typed_rules defs 0 t ≡ Some u → t ≡ u
  after_none t u e = some_is t u e

  pub after_one : (t u : TypedTerm) → after typed_rules defs 1 t ≡ Some u → step typed_rules defs t ≡ Goes u
  after_one t u e =
      let g = goes_to (step typed_rules defs t) (after typed_rules defs 0) u e in g.1 ∙ ap Goes (some_is g.0 u g.2)
