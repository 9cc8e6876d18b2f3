use Rattle.std.proofs.Common.{subst, []}
use Rattle.std.specs.Io.KnownBytes.{IsAtEnd}
use Rattle.remora_driver.specs.Due.{IsJobDue, TakesData}
use Rattle.remora_driver.specs.Sources.{seen}
use Rattle.remora_driver.specs.Tasks.{HasInputs, IsBegun}
use Rattle.remora_driver.proofs.Tops.{untaken_due, task_due, ends_taken}
use Rattle.remora_driver.proofs.top.bytes_answer.Goals as goal

pub returns-in-Ok-Answered-clause-due : goal.returns-in-Ok-Answered-clause-due
returns-in-Ok-Answered-clause-due g c =
    let is = subst (IsBegun c.args.job c.args.bytes.now) c.in-Ok-Answered.field-0-is c.in-Ok-Answered.ensures in
    untaken_due (TakesData c.args.job c.args.bytes.now) (IsJobDue c.args.job c.args.bytes.now) (g.I.Source.left c.args.input.now) (seen c.in-Ok-Answered.reply) is.takes_none (is.due [])

pub returns-in-Ok-Open-clause-due : goal.returns-in-Ok-Open-clause-due
returns-in-Ok-Open-clause-due g c =
    let is = subst (IsBegun c.args.job c.args.bytes.now) c.in-Ok-Open.field-0-is c.in-Ok-Open.ensures in
    task_due c.args.job c.args.bytes.now c.in-Ok-Open.task (g.I.Source.left c.args.input.now) c.task_answer.result is c.task_answer.ensures.due

pub returns-in-Ok-Open-clause-unread : goal.returns-in-Ok-Open-clause-unread
returns-in-Ok-Open-clause-unread g c =
    let is = subst (IsBegun c.args.job c.args.bytes.now) c.in-Ok-Open.field-0-is c.in-Ok-Open.ensures in
    λ none. c.task_answer.ensures.unread (λ has. none (is.takes.0 has))

pub returns-in-Ok-Open-clause-end : goal.returns-in-Ok-Open-clause-end
returns-in-Ok-Open-clause-end g c =
    let is = subst (IsBegun c.args.job c.args.bytes.now) c.in-Ok-Open.field-0-is c.in-Ok-Open.ensures in
    ends_taken (HasInputs c.in-Ok-Open.task) (TakesData c.args.job c.args.bytes.now) (IsAtEnd (g.I.Source.left c.task_answer.new.input)) c.task_answer.result is.takes.1 c.task_answer.ensures.end
