use Rattle.typed_prims.proofs.Numbers.{numbers_more}
use Rattle.typed_prims.proofs.arrays.numbers.Goals as goal

pub loop-place-preserved : goal.loop-place-preserved
loop-place-preserved c = numbers_more c.loop-place.atoms.items c.push_number.new.atoms.items c.loop-place.place c.loop-place.invariant c.in_ok-push_number.ensures
