use Rattle.std.proofs.Common.{sym, ap, ◌∙◌, ◌≤◌, length, take, option_map, lt_of_not-le}
use Rattle.std.proofs.lemmas.Bool.{false≢true}
use Rattle.typed_step.proofs.FrameRanks.{front_is, front_short, front_other, behind_is}
use Rattle.typed_step.proofs.lifting.frame_rank.Goals as goal

pub returns-in_err-rank-clause-frame : goal.returns-in_err-rank-clause-frame
returns-in_err-rank-clause-frame c =
    let far : length c.args.cell.now ≤ length c.args.dims.now → ⊥ = c.in_err-rank.ensures in
    ap (option_map (λ rank. take rank c.args.dims.now)) c.from_residual.ensures ∙ front_short c.args.cell.now c.args.dims.now (lt_of_not-le far)

pub returns-then-eq-clause-frame : goal.returns-then-eq-clause-frame
returns-then-eq-clause-frame c = front_is c.args.cell.now c.args.dims.now c.in_ok-rank.rank ((behind_is c.eq.result c.args.dims.now c.args.cell.now c.in_ok-rank.rank c.eq.ensures).0 c.if-eq.true)

pub returns-then-eq-clause-cell : goal.returns-then-eq-clause-cell
returns-then-eq-clause-cell c = (behind_is c.eq.result c.args.dims.now c.args.cell.now c.in_ok-rank.rank c.eq.ensures).0 c.if-eq.true

pub returns-else-eq-clause-frame : goal.returns-else-eq-clause-frame
returns-else-eq-clause-frame c =
    front_other c.args.cell.now c.args.dims.now c.in_ok-rank.rank c.in_ok-rank.ensures.1
    (λ e. false≢true (sym c.if-eq.false ∙ (behind_is c.eq.result c.args.dims.now c.args.cell.now c.in_ok-rank.rank c.eq.ensures).1 e))
