use Rattle.core_syntax.specs.Lists.{each}
use Rattle.core_syntax.specs.Programs.{def_of}
use Rattle.type_check.specs.ProgramAnswers.{DefsAnswer}
use Rattle.type_check.proofs.whole_programs.ProgramParts.{carried, defs_steady, value_made, type_made, defs_stop, defs_go_on}
use Rattle.type_check.proofs.program.definitions.Goals as goal

pub definition-requires-clause-steady : goal.definition-requires-clause-steady
definition-requires-clause-steady c = defs_steady c.args.defs.now c.loop-def.def-index c.def-item.result c.loop-def-test.true c.def-item.is c.loop-def.checker c.loop-def.invariant

pub definition-requires-clause-made : goal.definition-requires-clause-made
definition-requires-clause-made c = value_made c.args.defs.now c.loop-def.def-index c.def-item.result c.loop-def-test.true c.def-item.is c.loop-def.checker c.loop-def.invariant c.requires.made

pub definition-requires-clause-array : goal.definition-requires-clause-array
definition-requires-clause-array c = type_made c.args.defs.now c.loop-def.def-index c.def-item.result c.loop-def-test.true c.def-item.is c.loop-def.checker c.loop-def.invariant c.requires.made

pub returns-in_err-definition : goal.returns-in_err-definition
returns-in_err-definition c =
    carried (DefsAnswer (each def_of c.args.defs.now) c.definition.new.checker) c.from_residual.result c.in_err-definition.field-0.0 c.from_residual.ensures.1
    (defs_stop c.args.defs.now c.loop-def.def-index c.def-item.result c.loop-def-test.true c.def-item.is c.loop-def.checker c.loop-def.invariant c.in_err-definition.field-0.0 c.in_err-definition.ensures)

pub loop-def-preserved : goal.loop-def-preserved
loop-def-preserved c =
    defs_go_on c.args.defs.now c.loop-def.def-index c.def-item.result c.loop-def-test.true c.def-item.is c.loop-def.checker c.loop-def.invariant c.definition.new.checker c.in_ok-definition.ensures
