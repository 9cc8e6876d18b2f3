use Rattle.std.proofs.Common.{◌≡◌, ◌++◌, ◌∷◌, [], rules}
use Rattle.prim_table.proofs.PartLemmas.{one_part_more}
use Rattle.prim_table.proofs.parts.arrays.Goals as goal

pub loop-part-preserved : goal.loop-part-preserved
loop-part-preserved c =
    let e : c.push.new.self.items ≡ c.loop-part.types.items ++ c.in_ok-ty.ty ∷ [] = search rules in
    one_part_more c.args.parts.now _ _ _ _ c.in_ok-ty.ty c.loop-part-test.true e c.in_ok-ty.ensures c.loop-part.invariant
