use Rattle.std.proofs.Common.{◌≡◌, ◌∙◌, sym, ap, suc, ◌+◌, ◌-◌, ◌*◌, ◌++◌, length, drop, [], arith}
use Rattle.std.proofs.lemmas.List.{nil_from_length}
use Rattle.core_syntax.specs.Arrays.{runs}
use Rattle.core_syntax.specs.Lists.{joined, onto, product}
use Rattle.prim_kernels.proofs.ArrayCuts.{nothing_reversed, reversed_more}
use Rattle.typed_prims.proofs.arrays.reversed.Goals as goal

pub returns-then-is_empty : goal.returns-then-is_empty
returns-then-is_empty c =
    let h : length c.args.atoms.now ≡ 0 = grind arith in
    c.new-all.ensures.items ∙ sym (nothing_reversed c.args.count (product c.args.cell.now) c.args.atoms.now (nil_from_length c.args.atoms.now h))

pub loop-done-preserved : goal.loop-done-preserved
loop-done-preserved c =
    let size = product c.args.cell.now in
    let xs = c.args.atoms.now in
    let done = c.loop-done.done in
    let p = c.args.count - 1 - done in
    let here : c.args.count - done ≡ suc p = omega (arith, c.loop-done-test.true) in
    let place : p ≡ c.args.count - (done + 1) = omega arith in
    let more : suc done ≡ done + 1 = omega arith in
    c.in_ok-push_copies.ensures ∙ ap (λ zs. c.loop-done.all.items ++ zs) c.at.ensures
    ∙ reversed_more size p done xs c.loop-done.all.items (c.loop-done.invariant ∙ ap (λ k. joined (onto (runs done size (drop (k * size) xs)) [])) here)
    ∙ (λ i. joined (onto (runs (more i) size (drop (place i * size) xs)) []))
