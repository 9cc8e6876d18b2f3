use Rattle.std.proofs.Common.{take, []}
use Rattle.core_syntax.specs.Lists.{each}
use Rattle.core_syntax.specs.Programs.{def_of}
use Rattle.type_check.specs.ProgramState.{IsBehind}
use Rattle.type_check.proofs.program.definitions.Given as goal

abbrev pub invariant-loop-def : goal.invariant-loop-def
invariant-loop-def l = IsBehind (each def_of (take l.def-index l.fn.defs)) [] l.checker
