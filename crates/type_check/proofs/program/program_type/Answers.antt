use Rattle.std.proofs.Common.{sym, subst}
use Rattle.core_syntax.specs.Lists.{each, Each}
use Rattle.core_syntax.specs.Made.{behind_defs}
use Rattle.core_syntax.specs.Refine.{ty_of}
use Rattle.core_syntax.specs.Wholes.{program_of}
use Rattle.type_check.specs.Written.{IsWrittenArray}
use Rattle.type_check.proofs.whole_programs.ProgramParts.{all_arrays, behind_all, body_steady, body_made, program_answered}
use Rattle.type_check.proofs.program.program_type.Goals as goal

pub inputs-requires-clause-arrays : goal.inputs-requires-clause-arrays
inputs-requires-clause-arrays c =
    subst (λ ts. Each (IsWrittenArray 0 0) (each ty_of ts)) (sym c.as_slice-2.ensures) (all_arrays (behind_defs 0) (each ty_of c.args.p.now.inputs) c.args.p.now.well_made.inputs)

pub body_type-requires-clause-steady : goal.body_type-requires-clause-steady
body_type-requires-clause-steady c =
    body_steady (program_of c.args.p.now) c.inputs.new.checker
    (behind_all c.args.p.now.defs c.as_slice.result.now c.args.p.now.inputs c.as_slice-2.result.now c.definitions.new.checker c.inputs.new.checker c.as_slice.ensures c.as_slice-2.ensures c.in_ok-definitions.ensures c.in_ok-inputs.ensures)
    c.args.p.now.well_made

pub body_type-requires-clause-made : goal.body_type-requires-clause-made
body_type-requires-clause-made c =
    body_made (program_of c.args.p.now) c.inputs.new.checker
    (behind_all c.args.p.now.defs c.as_slice.result.now c.args.p.now.inputs c.as_slice-2.result.now c.definitions.new.checker c.inputs.new.checker c.as_slice.ensures c.as_slice-2.ensures c.in_ok-definitions.ensures c.in_ok-inputs.ensures)
    c.args.p.now.well_made

pub returns : goal.returns
returns c =
    program_answered (program_of c.args.p.now) c.inputs.new.checker c.body_type.new.checker
    (behind_all c.args.p.now.defs c.as_slice.result.now c.args.p.now.inputs c.as_slice-2.result.now c.definitions.new.checker c.inputs.new.checker c.as_slice.ensures c.as_slice-2.ensures c.in_ok-definitions.ensures c.in_ok-inputs.ensures)
    c.body_type.result c.body_type.ensures
