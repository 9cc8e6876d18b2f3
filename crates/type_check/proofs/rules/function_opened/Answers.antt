use Rattle.core_syntax.specs.Refine.{ty_of}
use Rattle.type_check.proofs.exits.RuleLemmas.{scope_like, written_of, inputs_written_of}
use Rattle.type_check.proofs.rules.function_opened.Goals as goal

pub function_types-requires : goal.function_types-requires
function_types-requires c =
    let s = c.args.checker.now in
    record { inputs = inputs_written_of s c.args.inputs.now c.requires.inputs; output = written_of s (ty_of c.args.output.now) c.requires.output }

pub returns-clause-opens : goal.returns-clause-opens
returns-clause-opens c = λ Γ l. c.function_types.ensures.written Γ (scope_like c.args.checker.now Γ l)
