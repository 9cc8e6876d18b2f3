use Rattle.std.proofs.Common.{[]}
use Rattle.core_syntax.specs.Programs.{def_of}
use Rattle.type_check.proofs.whole_programs.ProgramParts.{def_defined, def_value_refused}
use Rattle.type_check.proofs.program.typed_definition.Goals as goal

pub definition_value-requires-clause-written : goal.definition_value-requires-clause-written
definition_value-requires-clause-written c = (c.requires.written []).1.1

pub returns-in-Ok : goal.returns-in-Ok
returns-in-Ok c =
    def_defined (def_of c.args.def.now) c.requires.array c.args.checker.now c.definition_value.new.checker c.define.new.self c.args.ty c.requires.written c.in-Ok.ensures
    c.define.result c.define.ensures.defined c.define.ensures.memory

pub returns-in-Err : goal.returns-in-Err
returns-in-Err c =
    def_value_refused (def_of c.args.def.now) c.requires.array c.args.checker.now c.definition_value.new.checker c.args.ty c.in-Err.refusal c.requires.written c.in-Err.ensures
