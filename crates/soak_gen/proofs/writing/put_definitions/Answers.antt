use Rattle.std.proofs.Common.{refl}
use Rattle.std.specs.Prelude.{flat_map}
use Rattle.soak_gen.specs.SoakText.{definition_text}
use Rattle.soak_gen.proofs.Numbers.{one_put}
use Rattle.soak_gen.proofs.writing.put_definitions.Goals as goal

pub loop-i-preserved : goal.loop-i-preserved
loop-i-preserved c = one_put definition_text (flat_map definition_text) (λ k ks. refl) c.loop-i.i c.args.count _ _ _ c.loop-i-test.true c.in_ok-put_definition.ensures c.loop-i.invariant
