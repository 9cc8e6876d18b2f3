use Rattle.std.proofs.Common.{subst}
use Rattle.core_syntax.specs.declared.program.Program.{Program}
use Rattle.core_syntax.specs.Literals.{LiteralsFit}
use Rattle.core_syntax.specs.Wholes.{program_of}
use Rattle.remora_driver.proofs.compiling.program_code.Goals as goal

pub returns-in-Ok-clause-code : goal.returns-in-Ok-clause-code
returns-in-Ok-clause-code c = record { literals = subst (λ (P : Program). LiteralsFit (program_of P)) c.program.ensures c.read_literals.ensures; compiled = c.in-Ok.ensures }
