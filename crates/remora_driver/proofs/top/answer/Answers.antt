use Rattle.std.proofs.Common.{map, string_bytes, subst, ◌+◌}
use Rattle.rem_base.specs.Taken.{TakesAtMost}
use Rattle.remora_driver.specs.declared.job.Job.{Job}
use Rattle.remora_driver.specs.Jobs.{longest, reads_source}
use Rattle.remora_driver.specs.Sources.{seen}
use Rattle.std.specs.Prelude.{IsTrue}
use Rattle.remora_driver.proofs.JobWords.{asked_so}
use Rattle.remora_driver.proofs.OneDue.{one_job}
use Rattle.remora_driver.proofs.Dues.{job_is_due, usage_is_due}
use Rattle.remora_driver.proofs.top.answer.Goals as goal

pub returns-in-Some-clause-due : goal.returns-in-Some-clause-due
returns-in-Some-clause-due g c =
    job_is_due (map string_bytes c.args.words.now) (g.P.Source.left c.args.program.now) (g.I.Source.left c.args.input.now) c.in-Some.job c.job_answer.result c.in-Some.ensures c.job_answer.ensures.due

pub returns-in-Some-clause-program_unread : goal.returns-in-Some-clause-program_unread
returns-in-Some-clause-program_unread g c = λ none. c.job_answer.ensures.program_unread (λ reads. none (c.in-Some.job, c.in-Some.ensures, reads))

pub returns-in-Some-clause-end : goal.returns-in-Some-clause-end
returns-in-Some-clause-end g c = λ asks.
    c.job_answer.ensures.end (subst (λ (j : Job). IsTrue (reads_source j)) (one_job (map string_bytes c.args.words.now) asks.0 c.in-Some.job asks.1 c.in-Some.ensures) asks.2)

pub job_answer-requires : goal.job_answer-requires
job_answer-requires g c = asked_so (map string_bytes c.args.words.now) c.in-Some.job c.in-Some.ensures

pub returns-in-Some-clause-input_unread : goal.returns-in-Some-clause-input_unread
returns-in-Some-clause-input_unread g c = λ none. c.job_answer.ensures.unread (λ bytes told. none c.in-Some.job bytes c.in-Some.ensures told)

pub returns-in_ok-usage_answer-in-None-clause-due : goal.returns-in_ok-usage_answer-in-None-clause-due
returns-in_ok-usage_answer-in-None-clause-due g c =
    usage_is_due (map string_bytes c.args.words.now) (g.P.Source.left c.args.program.now) (g.I.Source.left c.args.input.now) (seen c.in_ok-usage_answer-in-None.field-0) c.in-None.ensures c.in_ok-usage_answer-in-None.ensures

pub returns-in-Some-clause-taken : goal.returns-in-Some-clause-taken
returns-in-Some-clause-taken g c = λ job is.
    subst (λ (j : Job). TakesAtMost (longest j + 1) (g.P.Source.left c.args.program.now) (g.P.Source.left c.job_answer.new.program)) (one_job (map string_bytes c.args.words.now) c.in-Some.job job c.in-Some.ensures is) c.job_answer.ensures.taken.0

pub returns-in-Some-clause-input_end : goal.returns-in-Some-clause-input_end
returns-in-Some-clause-input_end g c = λ asks. c.job_answer.ensures.input_end (λ bytes told. asks c.in-Some.job bytes c.in-Some.ensures told)
