use Rattle.core_syntax.specs.Programs.{def_of}
use Rattle.type_check.proofs.whole_programs.ProgramParts.{def_type_refused}
use Rattle.type_check.proofs.program.definition.Goals as goal

pub returns-in-Err : goal.returns-in-Err
returns-in-Err c = def_type_refused (def_of c.args.def.now) c.args.checker.now c.in-Err.refusal c.in-Err.ensures
