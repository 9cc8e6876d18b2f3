use Rattle.std.proofs.Common.{refl, ◌++◌}
use Rattle.std.specs.Prelude.{map, codes}
use Rattle.core_syntax.specs.Norm.{spaced}
use Rattle.soak_gen.specs.SoakText.{cell_text}
use Rattle.soak_gen.proofs.Numbers.{one_put}
use Rattle.soak_gen.proofs.writing.put_cells.Goals as goal

pub loop-i-preserved : goal.loop-i-preserved
loop-i-preserved c = one_put (λ k. codes " " ++ cell_text k) (λ ks. spaced (map cell_text ks)) (λ k ks. refl) c.loop-i.i c.args.count _ _ _ c.loop-i-test.true c.in_ok-put_next_cell.ensures c.loop-i.invariant
