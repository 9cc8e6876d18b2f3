-- Premises that never say two things: they are not met and blamed at once, and blame one refusal at most.
use Rattle.std.proofs.Common.{◌≡◌, sym, ◌∙◌, ap, inl, inr, ℕ, Option, Some, None}
use Rattle.core_syntax.specs.declared.span.Span.{Span}
use Rattle.core_syntax.specs.Sorts.{Refusal}
use Rattle.core_syntax.specs.Blame.{Premises, nothing, premise, tested, measure, ◌then◌, with_any}
use Rattle.core_syntax.proofs.Unique.{some_is}
use Rattle.core_syntax.proofs.Carries.{Carries}

-- two readings of premises: what one blames the other doesn't meet, and both blame the same
pub record Agree (p q : Premises) : Type 0 where
  pub one : (r s : Refusal) → p.blames r → q.blames s → r ≡ s
  pub met : (s : Refusal) → p.met → q.blames s → ⊥
  pub blamed : (r : Refusal) → p.blames r → q.met → ⊥

pub nothing_agrees : Agree nothing nothing
nothing_agrees = record { one = λ r s b c. absurd b; met = λ s m c. absurd c; blamed = λ r b m. absurd b }

-- premises that are equivalent
pub premise_agrees : (n : ℕ) (at : Span) {P Q : Type 0} → (P → Q) → (Q → P) → Agree (premise n at P) (premise n at Q)
premise_agrees n at h k = record {
  one = λ r s b c. b.1 ∙ sym c.1;
  met = λ s m c. c.0 (h m);
  blamed = λ r b m. b.0 (k m);
}

pub tested_agrees : (o : Option Refusal) → Agree (tested o) (tested o)
tested_agrees o = record {
  one = λ r s b c. some_is r s (sym b ∙ c);
  met = λ s m c. none_is_some s (sym m ∙ c);
  blamed = λ r b m. none_is_some r (sym m ∙ b);
}
  where
    none_is_some : (r : Refusal) → None ≡ Some r → ⊥
    none_is_some r e = cc

pub measure_agrees : (o o' : Option ℕ) (at : Span) → o ≡ o' → Agree (measure o at) (measure o' at)
measure_agrees o o' at e = record {
  one = λ r s b c. b.2 ∙ ap (λ n. (n, at)) (some_is b.0 c.0 (sym b.1 ∙ e ∙ c.1)) ∙ sym c.2;
  met = λ s m c. none_is_some c.0 (sym m ∙ e ∙ c.1);
  blamed = λ r b m. none_is_some b.0 (sym m ∙ sym e ∙ b.1);
}
  where
    none_is_some : (n : ℕ) → None ≡ Some n → ⊥
    none_is_some n e = cc

pub then_agrees : {p q p' q' : Premises} → Agree p q → (p.met → q.met → Agree p' q') → Agree (p then p') (q then q')
then_agrees h k = record {
  one = λ r s b c. elim b [
    | inl b ↦ elim c [
      | inl c ↦ h.one r s b c
      | inr c ↦ absurd (h.blamed r b c.0)
    ]
    | inr b ↦ elim c [
      | inl c ↦ absurd (h.met s b.0 c)
      | inr c ↦ (k b.0 c.0).one r s b.1 c.1
    ]
  ];
  met = λ s m c. elim c [
    | inl c ↦ h.met s m.0 c
    | inr c ↦ (k m.0 c.0).met s m.1 c.1
  ];
  blamed = λ r b m. elim b [
    | inl b ↦ h.blamed r b m.0
    | inr b ↦ (k b.0 m.0).blamed r b.1 m.1
  ];
}

pub with_any_agrees : {A : Type 0} {P Q : A → Type 0} {f g : A → Premises} → ((a b : A) → P a → Q b → Agree (f a) (g b)) → Agree (with_any P f) (with_any Q g)
with_any_agrees h = record {
  one = λ r s b c. (h b.0 c.0 b.1 c.1).one r s b.2 c.2;
  met = λ s m c. (h m.0 c.0 m.1 c.1).met s m.2 c.2;
  blamed = λ r b m. (h b.0 m.0 b.1 m.1).blamed r b.2 m.2;
}

-- premises that carry over to the second agree with them too
pub carried_agrees : {p q q' : Premises} → Agree p q → Carries q' q → Agree p q'
carried_agrees h k = record {
  one = λ r s b c. h.one r s b (k.blames s c);
  met = λ s m c. h.met s m (k.blames s c);
  blamed = λ r b m. h.blamed r b (k.met m);
}
