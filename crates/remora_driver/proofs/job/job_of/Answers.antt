use Rattle.remora_driver.proofs.JobWords.{two_words, four_words, no_budget}
use Rattle.remora_driver.proofs.job.job_of.Goals as goal

pub returns-in_err-budget-in-len4 : goal.returns-in_err-budget-in-len4
returns-in_err-budget-in-len4 c =
    no_budget c.args.words.now c.command-item-then-words-lt5.result c.command-item-then-words-lt5.result c.flag-item.result c.flag-item.result c.steps-item.result c.steps-item.result
    c.as_str-in-len4.result.now c.as_str-then-words-lt5.result.now c.as_str-in-len4-2.result.now c.eq.result c.in-len4.len_at_least c.in-len4.len_below
    c.command-item-then-words-lt5.is c.flag-item.is c.steps-item.is c.as_str-in-len4.ensures.value c.as_str-then-words-lt5.ensures.value c.as_str-in-len4-2.ensures.value c.eq.ensures c.if-eq.true
    c.from_residual.result c.in_err-budget-in-len4.ensures c.from_residual.ensures

pub returns-in-len2 : goal.returns-in-len2
returns-in-len2 c =
    two_words c.args.words.now c.command-item.result c.word-item.result c.command-item.result c.word-item.result c.as_str.result.now c.as_str-in-len2.result.now c.job_of_two.result c.in-len2.len_at_least c.in-len2.len_below
    c.command-item.is c.word-item.is c.as_str.ensures.value c.as_str-in-len2.ensures.value c.job_of_two.ensures

pub returns-in_ok-budget-in-len4 : goal.returns-in_ok-budget-in-len4
returns-in_ok-budget-in-len4 c =
    four_words c.args.words.now c.command-item-then-words-lt5.result c.command-item-then-words-lt5.result c.flag-item.result c.flag-item.result c.steps-item.result c.steps-item.result
    c.as_str-in-len4.result.now c.as_str-then-words-lt5.result.now c.as_str-in-len4-2.result.now c.eq.result c.in-len4.len_at_least c.in-len4.len_below
    c.command-item-then-words-lt5.is c.flag-item.is c.steps-item.is c.as_str-in-len4.ensures.value c.as_str-then-words-lt5.ensures.value c.as_str-in-len4-2.ensures.value c.eq.ensures c.if-eq.true
    _ c.limited_job.result c.in_ok-budget-in-len4.ensures c.limited_job.ensures
