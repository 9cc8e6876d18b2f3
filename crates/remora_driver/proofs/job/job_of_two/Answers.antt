use Rattle.std.proofs.Common.{◌≡◌, sym, ◌∙◌, subst, [], ◌∷◌, false, Option, codes}
use Rattle.std.proofs.lemmas.Slice.Eq.{bytes_eq-Decides}
use Rattle.remora_driver.specs.declared.job.Job.{Job}
use Rattle.remora_driver.proofs.JobWords.{Decided, plain_decided, soak_asked, no_soak, not_soak}
use Rattle.remora_driver.proofs.job.job_of_two.Goals as goal

pub returns-in_err-count : goal.returns-in_err-count
returns-in_err-count c =
    let is : c.args.command.now ≡ codes "soak" = (bytes_eq-Decides c.args.command.now (codes "soak")).0 (sym c.eq.ensures ∙ c.if-eq.true) in
    subst (λ (o : Option Job). Decided (c.args.command.now ∷ c.args.word.now ∷ []) o) (sym c.from_residual.ensures) (no_soak c.args.command.now c.args.word.now is c.in_err-count.ensures)

pub returns-in_ok-count : goal.returns-in_ok-count
returns-in_ok-count c =
    soak_asked c.args.command.now c.args.word.now c.in_ok-count.field-0 ((bytes_eq-Decides c.args.command.now (codes "soak")).0 (sym c.eq.ensures ∙ c.if-eq.true)) c.in_ok-count.ensures

pub returns-else-eq : goal.returns-else-eq
returns-else-eq c =
    let e : c.eq.result ≡ false = (let f = c.if-eq.false in cc) in
    plain_decided c.args.command.now c.args.word.now c.plain_job.result (not_soak c.args.command.now c.eq.result c.eq.ensures e) c.plain_job.ensures
