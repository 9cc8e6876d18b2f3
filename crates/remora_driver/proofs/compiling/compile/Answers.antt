use Rattle.remora_driver.proofs.Sourced.{source_compiled, not_compiled}
use Rattle.remora_driver.proofs.compiling.compile.Goals as goal

pub returns-in-Ok : goal.returns-in-Ok
returns-in-Ok c = source_compiled c.args.source.now c.in-Ok.checked c.program_code.result c.in-Ok.ensures c.program_code.ensures.code c.program_code.ensures.memory

pub returns-in-Err : goal.returns-in-Err
returns-in-Err c = not_compiled c.args.source.now c.in-Err.refusal c.in-Err.ensures
