use Rattle.std.proofs.Common.{◌≡◌, ◌∙◌, ◌++◌, ◌∷◌, [], rules}
use Rattle.typed_start.proofs.DataTerms.{terms_pushed, terms_end}
use Rattle.typed_start.proofs.inputs.arrays.Goals as goal

pub loop-place-preserved : goal.loop-place-preserved
loop-place-preserved c =
    let e : c.push.new.self.items ≡ c.loop-place.terms.items ++ c.in_ok-term.term ∷ [] = search rules in
    terms_pushed c.args.types.now c.args.inputs.now c.loop-place.place c.index-types-place.result c.index-inputs-place.result c.loop-place.terms.items c.push.new.self.items c.in_ok-term.term
    c.requires c.loop-place-test.true c.index-types-place.is c.index-inputs-place.is e c.in_ok-term.ensures c.loop-place.invariant

pub returns : goal.returns
returns c = c.loop-place.invariant ∙ terms_end c.args.types.now c.args.inputs.now c.loop-place.place c.requires c.loop-place-test.false
