use Rattle.std.proofs.Common.{◌≡◌, ◌∙◌, sym, ap, subst, true}
use Rattle.core_syntax.specs.Arrays.{array}
use Rattle.core_syntax.specs.Delta.{delta}
use Rattle.core_syntax.specs.Fits.{forms}
use Rattle.core_syntax.specs.Lists.{product}
use Rattle.prim_kernels.specs.Kernels.{machine_atoms, made_answer}
use Rattle.prim_kernels.proofs.Ready.{given_whole, never_unfit}
use Rattle.prim_kernels.proofs.deltas.value.Goals as goal

pub array-requires-clause-forms : goal.array-requires-clause-forms
array-requires-clause-forms c =
    let p = c.args.p.now in
    let given = ap made_answer (sym c.in-Gives.is) ∙ c.in_ok-dims.ensures ∙ ap (λ is. delta machine_atoms p.op is c.args.args.now) c.held.ensures in
    let w = given_whole p.op p.typed p.indices c.args.args.now c.requires.ready c.are_arrays.ensures (array c.in-Gives.dims.items c.in-Gives.atoms.items) given in
    subst (λ d. forms d ≡ true) (sym c.as_slice.ensures.value) w.0

pub array-requires-clause-full : goal.array-requires-clause-full
array-requires-clause-full c =
    let p = c.args.p.now in
    let given = ap made_answer (sym c.in-Gives.is) ∙ c.in_ok-dims.ensures ∙ ap (λ is. delta machine_atoms p.op is c.args.args.now) c.held.ensures in
    let w = given_whole p.op p.typed p.indices c.args.args.now c.requires.ready c.are_arrays.ensures (array c.in-Gives.dims.items c.in-Gives.atoms.items) given in
    w.1 ∙ ap product (sym c.as_slice.ensures.value)

pub unreachable-requires : goal.unreachable-requires
unreachable-requires c =
    let p = c.args.p.now in
    never_unfit p.op p.typed p.indices c.args.args.now c.requires.ready c.are_arrays.ensures (ap made_answer (sym c.in-Unfit.is) ∙ c.in_ok-dims.ensures ∙ ap (λ is. delta machine_atoms p.op is c.args.args.now) c.held.ensures)
