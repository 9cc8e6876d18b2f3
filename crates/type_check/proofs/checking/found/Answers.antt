use Rattle.core_syntax.specs.Wholes.{program_of}
use Rattle.type_check.proofs.whole_programs.ProgramParts.{findings_checked}
use Rattle.type_check.proofs.checking.found.Goals as goal

pub returns-in-Ok-clause-checked : goal.returns-in-Ok-clause-checked
returns-in-Ok-clause-checked c =
    findings_checked (program_of c.args.p.now) c.in-Ok.body c.program_type.new.checker c.in-Ok.ensures c.gathered.result c.gathered.ensures.body c.gathered.ensures.normal c.gathered.ensures.inputs c.gathered.ensures.notes
