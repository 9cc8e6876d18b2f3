use Rattle.std.proofs.Common.{sym, subst, Result}
use Rattle.std.specs.Prelude.{IfOk}
use Rattle.core_syntax.specs.declared.errors.Memory.{Memory}
use Rattle.typed_step.specs.declared.closed.Next.{Next}
use Rattle.remora_driver.specs.Reductions.{IsEndIn, Prints}
use Rattle.remora_driver.proofs.reducing.end_of.Goals as goal

pub end-requires : goal.end-requires
end-requires c = subst (λ (r : Result Next Memory). IfOk r (λ n. Prints n)) c.in-Ok.is c.requires

pub returns-in-Ok : goal.returns-in-Ok
returns-in-Ok c = subst (λ (r : Result Next Memory). IfOk c.end.result (λ e. IsEndIn r e)) (sym c.in-Ok.is) c.end.ensures
