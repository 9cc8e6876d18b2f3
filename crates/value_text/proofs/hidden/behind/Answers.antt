use Rattle.std.proofs.Common.{rules}
use Rattle.value_text.specs.Answers.{inside}
use Rattle.value_text.specs.DataRead.{hidden}
use Rattle.value_text.proofs.HiddenLemmas.{behind_more, behind_fails}
use Rattle.value_text.proofs.hidden.behind.Goals as goal

pub returns-in_err-rest : goal.returns-in_err-rest
returns-in_err-rest c =
    let fails = behind_fails (hidden (inside c.args.hidden.now)) c.args.letters.now c.args.dims.now c.loop-letter.letter-index c.loop-letter.rest.now c.loop-letter.invariant
    c.letter-item.result c.loop-letter-test.true c.letter-item.is c.in_err-rest.ensures in
    search rules

pub loop-letter-preserved : goal.loop-letter-preserved
loop-letter-preserved c =
    behind_more (hidden (inside c.args.hidden.now)) c.args.letters.now c.args.dims.now c.loop-letter.letter-index c.loop-letter.rest.now c.loop-letter.invariant
    c.letter-item.result c.loop-letter-test.true c.letter-item.is c.in_ok-rest.rest.now c.in_ok-rest.ensures
