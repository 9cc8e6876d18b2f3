use Rattle.core_syntax.specs.Refine.{ty_of}
use Rattle.type_check.proofs.whole_programs.ProgramParts.{input_entered}
use Rattle.type_check.proofs.program.input.Goals as goal

pub returns-in-Ok : goal.returns-in-Ok
returns-in-Ok c =
    input_entered (ty_of c.args.ty.now) c.requires.array c.args.checker.now c.enter_term.new.self c.in-Ok.normal c.in-Ok.ensures c.enter_term.result c.enter_term.ensures.entered c.enter_term.ensures.memory
