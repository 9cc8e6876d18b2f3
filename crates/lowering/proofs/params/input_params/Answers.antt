use Rattle.std.proofs.Common.{◌≡◌, ap, ◌∙◌, subst, List, map}
use Rattle.std.specs.Prelude.{IfOk}
use Rattle.core_syntax.specs.declared.program.Program.{Program}
use Rattle.core_syntax.specs.declared.ty.Ty.{Ty}
use Rattle.core_syntax.specs.Lists.{each}
use Rattle.core_syntax.specs.Refine.{ty_of}
use Rattle.machine_table.specs.Codes.{param_of}
use Rattle.lowering.specs.Params.{ty_param}
use Rattle.lowering.proofs.InputTypes.{code_params, params_types}
use Rattle.lowering.proofs.params.input_params.Goals as goal

-- the params of the program's inputs
made : (c : goal.After-params) → IfOk c.params.result (λ ps. map param_of ps ≡ each ty_param (each ty_of c.args.checked.now.program.inputs))
made c =
    subst (λ (ts : List Ty). IfOk c.params.result (λ ps. map param_of ps ≡ each ty_param (each ty_of ts))) (c.as_slice.ensures ∙ ap (λ (P : Program). P.inputs) c.program.ensures) c.params.ensures

pub returns-clause-params : goal.returns-clause-params
returns-clause-params c = code_params c.args.checked.now c.params.result (made c)

pub returns-clause-types : goal.returns-clause-types
returns-clause-types c = params_types c.args.checked.now c.params.result (made c)
