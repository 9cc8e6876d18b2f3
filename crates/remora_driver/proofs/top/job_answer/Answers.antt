use Rattle.std.proofs.Common.{◌≡◌, sym, ◌∙◌, false, []}
use Rattle.remora_driver.proofs.Answers.{not_true}
use Rattle.remora_driver.proofs.Tops.{sourceless_due, sourceless_asks}
use Rattle.remora_driver.proofs.top.job_answer.Goals as goal

pub source_answer-requires-clause-reads : goal.source_answer-requires-clause-reads
source_answer-requires-clause-reads g c = sym c.reads_source.ensures ∙ c.if-reads_source.true

pub returns-else-reads_source-clause-due : goal.returns-else-reads_source-clause-due
returns-else-reads_source-clause-due g c =
    let e : c.reads_source.result ≡ false = (let f = c.if-reads_source.false in cc) in
    sourceless_due c.args.job (λ reads. not_true c.reads_source.result e (c.reads_source.ensures ∙ reads)) [] (g.P.Source.left c.args.program.now) (g.I.Source.left c.args.input.now) c.bytes_answer.result c.bytes_answer.ensures.due

pub returns-else-reads_source-clause-input_end : goal.returns-else-reads_source-clause-input_end
returns-else-reads_source-clause-input_end g c =
    let e : c.reads_source.result ≡ false = (let f = c.if-reads_source.false in cc) in
    λ takes. absurd (sourceless_asks c.args.job (λ reads. not_true c.reads_source.result e (c.reads_source.ensures ∙ reads)) (g.P.Source.left c.args.program.now) takes)
