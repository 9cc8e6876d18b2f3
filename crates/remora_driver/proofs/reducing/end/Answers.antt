use Rattle.std.proofs.Common.{refl, sym, subst}
use Rattle.std.specs.Prelude.{IfOk}
use Rattle.typed_step.specs.declared.closed.Next.{Next}
use Rattle.remora_driver.specs.declared.reducing.Reduction.TheVariants as reduction
use Rattle.remora_driver.specs.Reductions.{IsEndOf, Prints}
use Rattle.remora_driver.proofs.reducing.end.Goals as goal

pub value_end-requires : goal.value_end-requires
value_end-requires c = subst (λ (n : Next). Prints n) c.in-Value.is c.requires

pub returns-in-Value : goal.returns-in-Value
returns-in-Value c = subst (λ (n : Next). IfOk c.value_end.result (λ e. IsEndOf n e)) (sym c.in-Value.is) c.value_end.ensures

pub returns-in-Trap : goal.returns-in-Trap
returns-in-Trap c = subst (λ (n : Next). IsEndOf n (reduction.Trap c.in-Trap.kind)) (sym c.in-Trap.is) refl

pub returns-in-Goes : goal.returns-in-Goes
returns-in-Goes c = subst (λ (n : Next). IsEndOf n reduction.Going) (sym c.in-Goes.is) refl
