use Rattle.std.proofs.Common.{◌≡◌, sym, ap, ◌∙◌, subst, ◌++◌, ◌∷◌, [], option_map, IfSome, take, drop, rules}
use Rattle.core_syntax.specs.Refine.{index_of}
use Rattle.core_syntax.specs.RefineTerms.{term_of}
use Rattle.core_syntax.specs.Rules.{dims_of}
use Rattle.core_syntax.specs.Typed.{closed, typed_rules}
use Rattle.core_syntax.specs.Value.{shape_val}
use Rattle.typed_step.proofs.FrameRanks.{ranked_more, frames_other}
use Rattle.typed_step.proofs.lifting.ranks.Goals as goal

pub returns-then-cells-args-clause-frames : goal.returns-then-cells-args-clause-frames
returns-then-cells-args-clause-frames c = frames_other c.args.cells.now c.args.args.now c.if-cells-args.true

pub loop-place-preserved : goal.loop-place-preserved
loop-place-preserved c =
    let e : c.push.new.self.items ≡ c.loop-place.ranks.items ++ c.in-Some.rank ∷ [] = search rules in
    let d = dims_of typed_rules (term_of c.index-args-place.result) in
    let front = sym (ap (option_map (λ rank. take rank d)) c.in-Some.is) ∙ c.in_ok-rank.ensures.frame in
    let back = subst (λ o. IfSome o (λ rank. drop rank d ≡ shape_val closed (index_of c.index-cells-place.result))) c.in-Some.is c.in_ok-rank.ensures.cell in
    ranked_more c.loop-place.ranks.items c.push.new.self.items c.args.cells.now c.args.args.now c.loop-place.place c.in-Some.rank c.index-cells-place.result c.index-args-place.result
    c.if-cells-args.false c.loop-place-test.true c.index-cells-place.is c.index-args-place.is e front back c.loop-place.invariant
