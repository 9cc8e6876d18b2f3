use Rattle.std.proofs.Common.{sym, subst}
use Rattle.std.specs.Prelude.{IfOk}
use Rattle.remora_driver.specs.declared.job.Job.{Job}
use Rattle.remora_driver.specs.declared.job.Job.TheVariants.{Check, Build, Run, Exec, Reduce, Soak}
use Rattle.remora_driver.specs.Tasks.{IsAsked, IsBegun}
use Rattle.remora_driver.proofs.Tasks.{check_answered, build_answered, soak_answered, begun_answered, begun_opened}
use Rattle.remora_driver.proofs.commands.begin.Goals as goal

pub returns-in-Check : goal.returns-in-Check
returns-in-Check c =
    subst (λ (job : Job). IfOk c.answered.result (λ b. IsBegun job c.args.bytes.now b)) (sym c.in-Check.is)
    (begun_answered Check c.args.bytes.now c.check.result c.answered.result (check_answered c.args.bytes.now c.check.result c.check.ensures) c.answered.ensures)

pub returns-in-Build : goal.returns-in-Build
returns-in-Build c =
    subst (λ (job : Job). IfOk c.answered-in-Build.result (λ b. IsBegun job c.args.bytes.now b)) (sym c.in-Build.is)
    (begun_answered Build c.args.bytes.now c.built.result c.answered-in-Build.result (build_answered c.args.bytes.now c.built.result c.built.ensures) c.answered-in-Build.ensures)

pub returns-in-Run : goal.returns-in-Run
returns-in-Run c =
    subst (λ (job : Job). IfOk c.opened.result (λ b. IsBegun job c.args.bytes.now b)) (sym c.in-Run.is)
    (begun_opened (Run c.in-Run.budget) c.args.bytes.now c.run_task.result c.opened.result c.run_task.ensures c.opened.ensures)

pub returns-in-Exec : goal.returns-in-Exec
returns-in-Exec c =
    subst (λ (job : Job). IfOk c.opened-in-Exec.result (λ b. IsBegun job c.args.bytes.now b)) (sym c.in-Exec.is)
    (begun_opened (Exec c.in-Exec.budget) c.args.bytes.now c.exec_task.result c.opened-in-Exec.result c.exec_task.ensures c.opened-in-Exec.ensures)

pub returns-in-Reduce : goal.returns-in-Reduce
returns-in-Reduce c =
    subst (λ (job : Job). IfOk c.opened-in-Reduce.result (λ b. IsBegun job c.args.bytes.now b)) (sym c.in-Reduce.is)
    (begun_opened (Reduce c.in-Reduce.budget) c.args.bytes.now c.reduce_task.result c.opened-in-Reduce.result c.reduce_task.ensures c.opened-in-Reduce.ensures)

pub soaked-requires : goal.soaked-requires
soaked-requires c = let asked = subst IsAsked c.in-Soak.is c.requires in record { low = asked.0; high = asked.1 }

pub returns-in-Soak : goal.returns-in-Soak
returns-in-Soak c =
    subst (λ (job : Job). IfOk c.answered-in-Soak.result (λ b. IsBegun job c.args.bytes.now b)) (sym c.in-Soak.is)
    (begun_answered (Soak c.in-Soak.count) c.args.bytes.now c.soaked.result c.answered-in-Soak.result (soak_answered c.in-Soak.count c.args.bytes.now c.soaked.result c.soaked.ensures) c.answered-in-Soak.ensures)
