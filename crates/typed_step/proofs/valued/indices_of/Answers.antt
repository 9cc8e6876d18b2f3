use Rattle.std.proofs.Common.{◌≡◌, ap, ◌∙◌, ◌++◌, ◌∷◌, [], rules}
use Rattle.array_values.specs.Data.{index_data}
use Rattle.core_syntax.specs.Lists.{each}
use Rattle.core_syntax.specs.Refine.{index_of}
use Rattle.core_syntax.specs.Typed.{closed_value}
use Rattle.typed_start.proofs.ValueArrays.{index_fits, matched_more, matched_through}
use Rattle.typed_step.proofs.valued.indices_of.Goals as goal

pub index_value-requires : goal.index_value-requires
index_value-requires c = index_fits c.args.indices.now c.loop-index.index-index c.index-item.result c.loop-index-test.true c.index-item.is c.requires

pub loop-index-preserved : goal.loop-index-preserved
loop-index-preserved c =
    let e : c.push.new.self.items ≡ c.loop-index.values.items ++ c.in_ok-value.value ∷ [] = search rules in
    matched_more index_data (λ i. closed_value (index_of i)) c.loop-index.values.items c.push.new.self.items c.args.indices.now c.loop-index.index-index c.in_ok-value.value c.index-item.result c.loop-index-test.true c.index-item.is e c.in_ok-value.ensures c.loop-index.invariant

pub returns : goal.returns
returns c =
    ap (each index_data) c.from_vec.ensures
    ∙ matched_through index_data closed_value index_of c.loop-index.values.items c.args.indices.now c.loop-index.index-index c.loop-index-test.false c.loop-index.invariant
