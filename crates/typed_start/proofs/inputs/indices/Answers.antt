use Rattle.std.proofs.Common.{◌≡◌, ap, ◌∙◌, ◌++◌, ◌∷◌, [], rules}
use Rattle.array_values.specs.Data.{index_data}
use Rattle.core_syntax.specs.Lists.{each}
use Rattle.core_syntax.specs.Refine.{index_of}
use Rattle.core_syntax.specs.Typed.{value_index}
use Rattle.typed_start.proofs.ValueArrays.{matched_more, matched_through}
use Rattle.typed_start.proofs.inputs.indices.Goals as goal

pub loop-value-preserved : goal.loop-value-preserved
loop-value-preserved c =
    let e : c.push.new.self.items ≡ c.loop-value.indices.items ++ c.in_ok-index.index ∷ [] = search rules in
    matched_more index_of (λ v. value_index (index_data v)) c.loop-value.indices.items c.push.new.self.items c.args.values.now c.loop-value.value-index c.in_ok-index.index c.value-item.result
    c.loop-value-test.true c.value-item.is e c.in_ok-index.ensures c.loop-value.invariant

pub returns : goal.returns
returns c =
    ap (each index_of) c.from_vec.ensures
    ∙ matched_through index_of value_index index_data c.loop-value.indices.items c.args.values.now c.loop-value.value-index c.loop-value-test.false c.loop-value.invariant
