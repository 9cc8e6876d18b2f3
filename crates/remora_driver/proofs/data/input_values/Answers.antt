use Rattle.std.proofs.Common.{ap, ◌∙◌, subst, List}
use Rattle.std.specs.Prelude.{IfOk, IfErr}
use Rattle.core_syntax.specs.Lists.{each}
use Rattle.core_syntax.specs.Syntax.{Ty}
use Rattle.array_values.specs.Data.{array_data}
use Rattle.value_text.specs.DataFits.{Fits}
use Rattle.value_text.specs.DataTexts.{IsDue}
use Rattle.value_text.specs.InputTypes.{types_of}
use Rattle.remora_driver.proofs.data.input_values.Goals as goal

pub returns-in-Ok-clause-found : goal.returns-in-Ok-clause-found
returns-in-Ok-clause-found c =
    subst (λ (ts : List Ty). IfOk c.read_data.result (λ v. Fits c.args.given.now ts (each array_data v.items))) (ap types_of c.as_slice.ensures ∙ c.in-Ok.ensures.types) c.read_data.ensures.found

pub returns-in-Ok-clause-blame : goal.returns-in-Ok-clause-blame
returns-in-Ok-clause-blame c =
    subst (λ (ts : List Ty). IfErr c.read_data.result (λ e. IsDue c.args.given.now ts e)) (ap types_of c.as_slice.ensures ∙ c.in-Ok.ensures.types) c.read_data.ensures.blame
