use Rattle.remora_driver.proofs.Dues.{text_due, text_lost, not_built}
use Rattle.remora_driver.proofs.calls.build.Goals as goal

pub returns-in-Ok-clause-text : goal.returns-in-Ok-clause-text
returns-in-Ok-clause-text c = text_due c.args.source.now c.in-Ok.code (λ text. text.items) c.code_lines.result c.in-Ok.ensures c.code_lines.ensures.text

pub returns-in-Ok-clause-refused : goal.returns-in-Ok-clause-refused
returns-in-Ok-clause-refused c = text_lost c.args.source.now c.code_lines.result c.code_lines.ensures.memory

pub returns-in-Err-clause-refused : goal.returns-in-Err-clause-refused
returns-in-Err-clause-refused c = not_built c.args.source.now c.in-Err.refusal c.in-Err.ensures
