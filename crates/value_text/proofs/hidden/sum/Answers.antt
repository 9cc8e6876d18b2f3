use Rattle.std.proofs.Common.{◌∙◌}
use Rattle.value_text.specs.Answers.{inside}
use Rattle.value_text.specs.DataRead.{hidden}
use Rattle.value_text.proofs.HiddenLemmas.{summed_more, summed_all}
use Rattle.value_text.proofs.hidden.sum.Goals as goal

pub loop-coef-preserved : goal.loop-coef-preserved
loop-coef-preserved c =
    c.saturating_add-sum.ensures
    ∙ summed_more (hidden (inside c.args.hidden.now)) c.args.constant c.args.coefs.now c.loop-coef.coef-index c.loop-coef.sum c.saturating_mul-part.result c.hidden_dim.result _ c.loop-coef-test.true
    c.loop-coef.invariant c.hidden_dim.ensures c.saturating_mul-part.ensures

pub returns : goal.returns
returns c = summed_all (hidden (inside c.args.hidden.now)) c.args.constant c.args.coefs.now c.loop-coef.coef-index c.loop-coef.sum c.loop-coef-test.false c.loop-coef.invariant
