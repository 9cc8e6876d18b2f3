use Rattle.std.proofs.Common.{◌≡◌, ◌∙◌, sym, length, arith}
use Rattle.std.proofs.lemmas.List.{nil_from_length}
use Rattle.prim_kernels.proofs.ArrayCuts.{nothing_repeated, repeated_more}
use Rattle.typed_prims.proofs.arrays.repeated.Goals as goal

pub returns-then-is_empty : goal.returns-then-is_empty
returns-then-is_empty c =
    let h : length c.args.atoms.now ≡ 0 = grind arith in
    c.new-all.ensures.items ∙ sym (nothing_repeated c.args.count c.args.atoms.now (nil_from_length c.args.atoms.now h))

pub loop-done-preserved : goal.loop-done-preserved
loop-done-preserved c = c.in_ok-push_copies.ensures ∙ repeated_more c.loop-done._done c.args.atoms.now c.loop-done.all.items c.loop-done.invariant
