use Rattle.std.proofs.Common.{◌≡◌, ◌∙◌, refl, ap, ◌<◌, ◌^◌, [], ◌∷◌, ◌++◌, rules}
use Rattle.core_syntax.specs.Typed.{closed}
use Rattle.core_syntax.specs.Value.{dim_val, dim_vals}
use Rattle.term_values.proofs.Pushes.{pushing_more, pushing_ends, small_value, small_one}
use Rattle.term_values.proofs.indices.push_numbers.Goals as goal

pub loop-part-preserved : goal.loop-part-preserved
loop-part-preserved c =
    let e : c.push.new.self.items ≡ c.loop-part.dims.items ++ c.in-Ok.dim ∷ [] = search rules in
    let same : c.in-Ok.dim ≡ c.number.result = search rules in
    let small : c.in-Ok.dim < 2 ^ 32 = search rules in
    let is = small_value c.in-Ok.dim _ _ small same c.number.ensures in
    pushing_more (λ i. dim_val closed i ∷ []) (dim_vals closed) refl (λ i is. refl) c.args.parts.now c.loop-part.part-index c.part-item.result c.args.dims.now.items c.loop-part.dims.items c.push.new.self.items
    c.loop-part-test.true c.part-item.is (e ∙ ap (λ n. c.loop-part.dims.items ++ n ∷ []) is) (small_one c.in-Ok.dim _ small is) c.loop-part.invariant

pub returns : goal.returns
returns c = pushing_ends (λ i. dim_val closed i ∷ []) (dim_vals closed) refl (λ i is. refl) c.args.parts.now c.loop-part.part-index c.args.dims.now.items c.loop-part.dims.items c.loop-part-test.false c.loop-part.invariant
