use Rattle.std.proofs.Common.{◌∙◌, rules, FitsSigned, w64}
use Rattle.std.proofs.lemmas.Int.{to_z-of_z}
use Rattle.core_syntax.specs.Arrays.{single}
use Rattle.array_values.specs.declared.value.Value.TheVariants as atom
use Rattle.machine_table.specs.Begins.{Answers}
use Rattle.prim_kernels.proofs.ScalarTests.{value_entry}
use Rattle.prim_kernels.proofs.scalars.on_scalars.Goals as goal

pub returns-in-Int-clause-entry : goal.returns-in-Int-clause-entry
returns-in-Int-clause-entry c = λ is.
    let z = c.in-Int.z in
    let fits : FitsSigned w64 z = search rules in
    value_entry c.scalar_array.result _ _ c.scalar_array.ensures ((λ i. Answers (single (atom.Int (to_z-of_z w64 z fits i)))) ∙ c.in-Int.ensures is)

pub returns-in-Bool-clause-entry : goal.returns-in-Bool-clause-entry
returns-in-Bool-clause-entry c = λ is. value_entry c.scalar_array-in-Bool.result _ _ c.scalar_array-in-Bool.ensures (c.in-Bool.ensures is)
