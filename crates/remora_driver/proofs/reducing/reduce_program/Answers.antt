use Rattle.std.proofs.Common.{subst}
use Rattle.core_syntax.specs.declared.program.Program.{Program}
use Rattle.core_syntax.specs.Lists.{each}
use Rattle.core_syntax.specs.Literals.{LiteralsFit}
use Rattle.core_syntax.specs.Wholes.{program_of}
use Rattle.array_values.specs.Data.{array_data}
use Rattle.remora_driver.proofs.Reductions.{start_prints, start_ends}
use Rattle.remora_driver.proofs.reducing.reduce_program.Goals as goal

pub run-requires : goal.run-requires
run-requires c =
    start_prints c.args.checked.now (each array_data c.args.inputs.now) c.in-Ok.closed c.in-Ok.ensures c.requires
    (subst (λ (P : Program). LiteralsFit (program_of P)) c.program.ensures c.read_literals.ensures)

pub returns-in-Ok : goal.returns-in-Ok
returns-in-Ok c = start_ends c.args.checked.now (each array_data c.args.inputs.now) c.in-Ok.closed c.in-Ok.ensures c.args.budget c.run.result c.run.ensures
