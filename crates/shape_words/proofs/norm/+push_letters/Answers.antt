use Rattle.std.proofs.Common.{◌∙◌, ◌++◌, rules}
use Rattle.shape_words.proofs.LetterLemmas.{dims_all, join_all}
use Rattle.shape_words.proofs.RefusalLemmas.{dims_refused, join_refused}
use Rattle.shape_words.proofs.norm.+push_letters.Goals as goal

pub returns-after-loop-part-clause-ok : goal.returns-after-loop-part-clause-ok
returns-after-loop-part-clause-ok t c =
    c.loop-part.invariant ∙ dims_all (λ w. c.args.letters.now.items ++ w) c.args.i.now _ _ _ c.in-Dims.is c.as_slice-part-items.ensures c.loop-part-test.false

pub returns-after-loop-part-2-clause-ok : goal.returns-after-loop-part-2-clause-ok
returns-after-loop-part-2-clause-ok t c =
    c.loop-part-2.invariant
    ∙ join_all (λ w. c.args.letters.now.items ++ w) c.args.i.now _ _ _ c.in-Join.is c.as_slice-part-items-in-Join.ensures c.loop-part-2-test.false

pub returns-in_err-dim-in-Dims-clause-err : goal.returns-in_err-dim-in-Dims-clause-err
returns-in_err-dim-in-Dims-clause-err t c =
    let due = dims_refused c.args.i.now _ _ _ _ _ c.as_slice-part-items.ensures c.loop-part-test.true c.part-item.is c.in-Dims.is c.in_err-dim-in-Dims.ensures.refused in
    search rules

pub returns-in_err-push_letters-in-Join-clause-err : goal.returns-in_err-push_letters-in-Join-clause-err
returns-in_err-push_letters-in-Join-clause-err t c =
    let due = join_refused c.args.i.now _ _ _ _ _ c.as_slice-part-items-in-Join.ensures c.loop-part-2-test.true c.part-item-in-loop-part-2.is c.in-Join.is
    c.in_err-push_letters-in-Join.ensures.err in
    search rules
