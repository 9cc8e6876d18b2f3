use Rattle.std.proofs.Common.{◌≡◌, ◌∙◌, ◌++◌, ◌∷◌, [], rules}
use Rattle.core_syntax.specs.RefineTerms.{term_of}
use Rattle.typed_step.specs.Frames.{one_at}
use Rattle.typed_step.proofs.Pairs.{pairs_made, pairs_end, cells_are}
use Rattle.typed_step.proofs.lifting.arguments_at.Goals as goal

pub loop-i-preserved : goal.loop-i-preserved
loop-i-preserved c =
    let e : c.push.new.self.items ≡ c.loop-i.cells.items ++ c.in_ok-cell.cell ∷ [] = search rules in
    pairs_made (λ k t. one_at c.args.place k (term_of t)) c.args.ranks.now c.args.args.now c.loop-i.cells.items c.push.new.self.items c.loop-i.i c.index-args-i.result c.in_ok-cell.cell
    c.requires c.loop-i-test.true c.index-args-i.is e c.in_ok-cell.ensures c.loop-i.invariant

pub returns : goal.returns
returns c =
    c.loop-i.invariant ∙ pairs_end (λ k t. one_at c.args.place k (term_of t)) c.args.ranks.now c.args.args.now c.loop-i.i c.requires c.loop-i-test.false ∙ cells_are c.args.place c.args.ranks.now c.args.args.now
