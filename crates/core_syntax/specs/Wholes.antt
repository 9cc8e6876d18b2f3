-- The program of a tree.
use Rattle.core_syntax.specs.declared.program.Program.{Program}
use Rattle.core_syntax.specs.Programs.{program_with}
use Rattle.core_syntax.specs.Syntax as syntax

abbrev pub program_of : Program → syntax.Program
program_of P = program_with P.defs P.inputs P.body
