use Rattle.core_syntax.specs.Blame.{written, all_written}
use Rattle.core_syntax.specs.Refine.{ty_of, tys_of}
use Rattle.type_check.proofs.exits.Refusing.{in_first, in_later}
use Rattle.type_check.proofs.trees.WrittenLemmas.{rescoped}
use Rattle.type_check.proofs.functions.function_types.Goals as goal

pub returns-in-Ok-written-clause-written : goal.returns-in-Ok-written-clause-written
returns-in-Ok-written-clause-written c Γ scope =
    let inputs = c.in-Ok.ensures.written Γ scope in
    let output = c.in-Ok-written.ensures.written Γ (rescoped c.args.types _ _ Γ c.in-Ok.ensures.kept scope) in
    ((inputs.0, output.0), record { inputs_tested = inputs.0; inputs = inputs.1; output_tested = output.0; output = output.1 })

pub returns-in-Err-written-clause-written : goal.returns-in-Err-written-clause-written
returns-in-Err-written-clause-written c Γ scope =
    in_later (all_written Γ (tys_of c.args.inputs.now)) (written Γ (ty_of c.args.output.now)) c.in-Err-written.refusal (c.in-Ok.ensures.written Γ scope).0
    (c.in-Err-written.ensures.written Γ (rescoped c.args.types _ _ Γ c.in-Ok.ensures.kept scope))

pub returns-in-Err-clause-written : goal.returns-in-Err-clause-written
returns-in-Err-clause-written c Γ scope =
    in_first (all_written Γ (tys_of c.args.inputs.now)) (written Γ (ty_of c.args.output.now)) c.in-Err.refusal (c.in-Err.ensures.written Γ scope)
