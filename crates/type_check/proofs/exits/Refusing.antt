-- The first premise that isn't met, part by part.
use Rattle.std.proofs.Common.{◌≡◌, ap, inl, inr, ℕ}
use Rattle.core_syntax.specs.declared.span.Span.{Span}
use Rattle.core_syntax.specs.Sorts.{Refusal}
use Rattle.core_syntax.specs.Blame.{Premises, premise, ◌then◌, with_any}
use Rattle.type_check.specs.declared.refusal.TypeRefusal.{TypeRefusal}
use Rattle.type_check.specs.declared.refusal.TypeRefusal.TheVariants.{Refused, Memory}
use Rattle.type_check.specs.Found.{Refuses}

pub in_first : (p q : Premises) (r : TypeRefusal) → Refuses p r → Refuses (p then q) r
in_first p q (Refused n at) h = inl h
in_first p q Memory h = tt

pub in_later : (p q : Premises) (r : TypeRefusal) → p.met → Refuses q r → Refuses (p then q) r
in_later p q (Refused n at) m h = inr (m, h)
in_later p q Memory m h = tt

pub in_any : {A : Type 0} (P : A → Type 0) (f : A → Premises) (a : A) (r : TypeRefusal) → P a → Refuses (f a) r → Refuses (with_any P f) r
in_any P f a (Refused n at) p h = (a, p, h)
in_any P f a Memory p h = tt

pub fails : (n : ℕ) (at at' : Span) (P : Type 0) → (¬ P) → at' ≡ at → Refuses (premise n at P) (Refused n at')
fails n at at' P not e = (not, ap (λ at. (n, at)) e)

-- a refusal of premises is one of others that blame what these blame
pub refused_as : (ps qs : Premises) → ((r : Refusal) → ps.blames r → qs.blames r) → (r : TypeRefusal) → Refuses ps r → Refuses qs r
refused_as ps qs f (Refused n at) h = f (n, at) h
refused_as ps qs f Memory h = tt
