use Rattle.std.proofs.Common.{◌≡◌, ◌∙◌, ap, [], ◌∷◌, length, arith}
use Rattle.core_syntax.specs.Arrays.{array}
use Rattle.core_syntax.specs.Delta.{delta}
use Rattle.array_values.specs.Lent.{value_of}
use Rattle.machine_table.specs.Begins.{answer_entry}
use Rattle.prim_kernels.specs.Kernels.{machine_atoms}
use Rattle.prim_kernels.proofs.Items.{sole}
use Rattle.prim_kernels.proofs.ScalarArrays.{scalar_form, beside}
use Rattle.prim_kernels.proofs.scalars.on_arrays.Goals as goal

pub returns-then-len-eq1-2 : goal.returns-then-len-eq1-2
returns-then-len-eq1-2 c = λ is.
    let q = c.args.op in
    let a = c.args.a.now in
    let b = c.args.b.now in
    let x = value_of c.atom_at.result in
    let y = value_of c.atom_at-then-len-eq1-2.result in
    let one : length a.atoms ≡ 1 = omega (arith, c.len.ensures.len, c.if-len-eq1.true) in
    let other : length b.atoms ≡ 1 = omega (arith, c.len-then-len-eq1.ensures.len, c.if-len-eq1-2.true) in
    c.on_two.ensures is
    ∙ ap answer_entry
    (beside machine_atoms q is (scalar_form machine_atoms q c.requires) a.dims b.dims x y
    ∙ (λ i. delta machine_atoms q is (array a.dims (sole a.atoms x one c.atom_at.ensures.atom i) ∷ array b.dims (sole b.atoms y other c.atom_at-then-len-eq1-2.ensures.atom i) ∷ [])))
