use Rattle.std.proofs.Common.{rules, subst, sym, length, ◌<◌, ℕ}
use Rattle.std.specs.Prelude.{IfSome}
use Rattle.remora_driver.specs.Sources.{seen}
use Rattle.remora_driver.specs.Top.{IsTold}
use Rattle.remora_driver.proofs.Answers.{told_read}
use Rattle.remora_driver.proofs.Dues.{told_too_long}
use Rattle.remora_driver.proofs.Tops.{bytes_due}
use Rattle.remora_driver.proofs.top.source_answer.Goals as goal

pub returns-in-Ok-clause-due : goal.returns-in-Ok-clause-due
returns-in-Ok-clause-due g c =
    bytes_due c.args.job c.as_slice.result.now (g.P.Source.left c.args.program.now) (g.I.Source.left c.args.input.now) c.bytes_answer.result
    (subst (IsTold (g.P.Source.left c.args.program.now)) (sym c.as_slice.ensures.value) (told_read _ _ c.in-Ok.source.items c.in-Ok.ensures.all c.in-Ok.ensures.end)) c.bytes_answer.ensures.due

pub returns-in_ok-too_long-in-Err-TooLong-clause-due : goal.returns-in_ok-too_long-in-Err-TooLong-clause-due
returns-in_ok-too_long-in-Err-TooLong-clause-due g c =
    let long : IfSome (g.P.Source.left c.args.program.now) (λ bytes. c.longest.result < length bytes) = search rules in
    told_too_long c.args.job (g.P.Source.left c.args.program.now) (g.I.Source.left c.args.input.now) (seen c.in_ok-too_long-in-Err-TooLong.field-0) c.requires.reads
    (subst (λ (n : ℕ). IfSome (g.P.Source.left c.args.program.now) (λ bytes. n < length bytes)) c.longest.ensures long) c.in_ok-too_long-in-Err-TooLong.ensures
