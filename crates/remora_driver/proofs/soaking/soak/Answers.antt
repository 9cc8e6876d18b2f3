use Rattle.std.proofs.Common.{subst, ◌∙◌, ℕ, List, []}
use Rattle.remora_driver.specs.declared.telling.Telling.TheVariants.{Soak}
use Rattle.remora_driver.specs.Calls.{TellsDue}
use Rattle.remora_driver.specs.Due.{IsRunDue}
use Rattle.remora_driver.specs.Jobs.{usual_budget}
use Rattle.remora_driver.proofs.soaking.soak.Goals as goal

pub returns-in-Ok : goal.returns-in-Ok
returns-in-Ok c =
    subst (λ (bytes : List ℕ). TellsDue (IsRunDue (Soak c.args.count) bytes [] usual_budget) c.run_told.result) (c.as_slice.ensures.value ∙ c.in-Ok.ensures) c.run_told.ensures
