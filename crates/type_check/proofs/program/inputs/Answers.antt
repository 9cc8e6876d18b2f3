use Rattle.std.proofs.Common.{◌∙◌}
use Rattle.core_syntax.specs.Lists.{each}
use Rattle.core_syntax.specs.Refine.{ty_of}
use Rattle.type_check.specs.ProgramAnswers.{InputsAnswer}
use Rattle.type_check.specs.Written.{IsWrittenArray}
use Rattle.type_check.proofs.one_by_one.Loops.{each_item}
use Rattle.type_check.proofs.whole_programs.ProgramParts.{carried, inputs_stop, inputs_go_on, inputs_met_on}
use Rattle.type_check.proofs.program.inputs.Goals as goal

pub input-requires-clause-array : goal.input-requires-clause-array
input-requires-clause-array c = each_item ty_of (IsWrittenArray 0 0) c.args.types.now c.loop-ty.ty-index c.ty-item.result c.loop-ty-test.true c.ty-item.is c.requires.arrays

pub returns-in_err-input : goal.returns-in_err-input
returns-in_err-input c =
    carried (InputsAnswer (each ty_of c.args.types.now) c.args.checker.now c.input.new.checker) c.from_residual.result c.in_err-input.field-0.0 c.from_residual.ensures.1
    (inputs_stop c.args.types.now c.loop-ty.ty-index c.ty-item.result c.loop-ty-test.true c.ty-item.is c.loop-ty.invariant.1 c.in_err-input.field-0.0 c.in_err-input.ensures)

pub loop-ty-preserved : goal.loop-ty-preserved
loop-ty-preserved c =
    let f = c.in_ok-input.ensures in (
      f.0 ∙ c.loop-ty.invariant.0,
      inputs_met_on c.args.types.now c.loop-ty.ty-index c.ty-item.result c.loop-ty-test.true c.ty-item.is c.loop-ty.invariant.1 f.1,
      inputs_go_on c.args.types.now c.loop-ty.ty-index c.ty-item.result c.loop-ty-test.true c.ty-item.is c.args.checker.now c.loop-ty.checker c.input.new.checker c.loop-ty.invariant.2 f.2,
    )
