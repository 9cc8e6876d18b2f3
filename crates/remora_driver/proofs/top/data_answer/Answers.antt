use Rattle.std.proofs.Common.{rules, sym, subst, length, ◌<◌}
use Rattle.std.specs.Prelude.{IfSome}
use Rattle.remora_driver.specs.Sources.{seen}
use Rattle.remora_driver.specs.Top.{IsTold}
use Rattle.value_text.specs.DataTexts.{longest_data}
use Rattle.remora_driver.proofs.Answers.{told_read}
use Rattle.remora_driver.proofs.Tops.{told_data_too_long}
use Rattle.remora_driver.proofs.top.data_answer.Goals as goal

pub returns-in_ok-finish-in-Ok-clause-due : goal.returns-in_ok-finish-in-Ok-clause-due
returns-in_ok-finish-in-Ok-clause-due g c = (
  c.as_slice.result.now,
  subst (IsTold (g.I.Source.left c.args.input.now)) (sym c.as_slice.ensures.value) (told_read _ _ c.in-Ok.given.items c.in-Ok.ensures.all c.in-Ok.ensures.end),
  c.in_ok-finish-in-Ok.ensures,
)

pub returns-in_ok-data_too_long-in-Err-TooLong-clause-due : goal.returns-in_ok-data_too_long-in-Err-TooLong-clause-due
returns-in_ok-data_too_long-in-Err-TooLong-clause-due g c =
    let long : IfSome (g.I.Source.left c.args.input.now) (λ bytes. longest_data < length bytes) = search rules in
    told_data_too_long c.args.task.now (g.I.Source.left c.args.input.now) (seen c.in_ok-data_too_long-in-Err-TooLong.field-0) long c.in_ok-data_too_long-in-Err-TooLong.ensures
