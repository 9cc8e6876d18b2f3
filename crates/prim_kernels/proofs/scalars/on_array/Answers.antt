use Rattle.std.proofs.Common.{◌≡◌, ◌∙◌, ap, [], ◌∷◌, length, arith}
use Rattle.core_syntax.specs.Arrays.{array}
use Rattle.core_syntax.specs.Delta.{delta}
use Rattle.array_values.specs.Lent.{value_of}
use Rattle.machine_table.specs.Begins.{answer_entry}
use Rattle.prim_kernels.specs.Kernels.{machine_atoms}
use Rattle.prim_kernels.proofs.Items.{sole}
use Rattle.prim_kernels.proofs.ScalarArrays.{scalar_form, alone}
use Rattle.prim_kernels.proofs.scalars.on_array.Goals as goal

pub returns-then-len-eq1 : goal.returns-then-len-eq1
returns-then-len-eq1 c = λ is.
    let q = c.args.op in
    let a = c.args.a.now in
    let x = value_of c.atom_at.result in
    let one : length a.atoms ≡ 1 = omega (arith, c.len.ensures.len, c.if-len-eq1.true) in
    c.on_one.ensures is
    ∙ ap answer_entry (alone machine_atoms q is (scalar_form machine_atoms q c.requires) a.dims x ∙ ap (λ xs. delta machine_atoms q is (array a.dims xs ∷ [])) (sole a.atoms x one c.atom_at.ensures.atom))
