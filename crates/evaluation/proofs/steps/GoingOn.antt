-- A run goes on where the term after so many steps leads on or traps.
use Rattle.std.proofs.Common.{◌≡◌, sym, ap, subst, ◌∙◌, inl, inr, ℕ, zero, suc, ◌≤◌, arith, List, Some}
use Rattle.core_syntax.specs.declared.errors.TrapKind.{TrapKind}
use Rattle.core_syntax.specs.Move.{Rests, Trapped, Goes}
use Rattle.core_syntax.specs.Step.{step, after, TrapsAt, GoesOn}
use Rattle.core_syntax.proofs.Unique.{some_is}
use Rattle.erasure.specs.Erased.{ErasedTerm, erased_rules}
use Rattle.evaluation.proofs.steps.Reduces.{goes_to, Moves}
use Rattle.evaluation.proofs.steps.Contexts.{one}

module _ (defs : List ErasedTerm) where
  -- the term that a step leads to
  led : (k : ℕ) (t u : ErasedTerm) → after erased_rules defs (suc k) t ≡ Some u → (a : ErasedTerm) × (step erased_rules defs t ≡ Goes a) × (after erased_rules defs k a ≡ Some u)
  led k t u e = goes_to (step erased_rules defs t) (after erased_rules defs k) u e

  one_way : (t a b : ErasedTerm) → step erased_rules defs t ≡ Goes a → step erased_rules defs t ≡ Goes b → a ≡ b
  one_way t a b p q = let same : Goes a ≡ Goes b = sym p ∙ q in cc

  -- what leads on or traps doesn't rest
  no_rest : (t v : ErasedTerm) → Moves (one defs) t → t ≡ v → step erased_rules defs v ≡ Rests → ⊥
  no_rest t v (inl g) e r = let both : Rests ≡ Goes g.0 = sym r ∙ ap (step erased_rules defs) (sym e) ∙ g.1 in absurd (cc)
  no_rest t v (inr h) e r = let both : Rests ≡ Trapped h.0 = sym r ∙ ap (step erased_rules defs) (sym e) ∙ h.1 in absurd (cc)

  no_value : (j k : ℕ) (t u v : ErasedTerm) → j ≤ k → after erased_rules defs k t ≡ Some u → Moves (one defs) u → after erased_rules defs j t ≡ Some v → step erased_rules defs v ≡ Rests → ⊥
  no_value zero zero t u v le e m f r = no_rest u v m (sym (some_is t u e) ∙ some_is t v f) r
  no_value zero (suc k) t u v le e m f r =
      let g = led k t u e in
      no_rest t v (inl (g.0, g.1)) (some_is t v f) r
  no_value (suc j) zero t u v le e m f r = absurd (omega (arith, le))
  no_value (suc j) (suc k) t u v le e m f r =
      let g = led k t u e in
      let h = led j t v f in
      no_value j k g.0 u v (omega (arith, le)) g.2 m (subst (λ a. after erased_rules defs j a ≡ Some v) (one_way t h.0 g.0 h.1 g.1) h.2) r

  no_trap : (j k : ℕ) (t u w : ErasedTerm) (kind : TrapKind) → suc j ≤ k → after erased_rules defs k t ≡ Some u → after erased_rules defs j t ≡ Some w → step erased_rules defs w ≡ Trapped kind → ⊥
  no_trap j zero t u w kind le e f r = absurd (omega (arith, le))
  no_trap zero (suc k) t u w kind le e f r =
      let g = led k t u e in
      let both : Trapped kind ≡ Goes g.0 = sym r ∙ ap (step erased_rules defs) (sym (some_is t w f)) ∙ g.1 in
      absurd (cc)
  no_trap (suc j) (suc k) t u w kind le e f r =
      let g = led k t u e in
      let h = led j t w f in
      no_trap j k g.0 u w kind (omega (arith, le)) g.2 (subst (λ a. after erased_rules defs j a ≡ Some w) (one_way t h.0 g.0 h.1 g.1) h.2) r

  pub goes_on : (k : ℕ) (t u : ErasedTerm) → after erased_rules defs k t ≡ Some u → Moves (one defs) u → GoesOn erased_rules defs k t
  goes_on k t u e m j le = (λ v r. no_value j k t u v le e m r.0 r.1, λ kind r. by j le kind r)
    where
      by : (j : ℕ) → j ≤ k → (kind : TrapKind) → TrapsAt erased_rules defs j t kind → ⊥
      by zero le kind r = r
      by (suc j) le kind r = no_trap j k t u r.0 kind le e r.1 r.2
