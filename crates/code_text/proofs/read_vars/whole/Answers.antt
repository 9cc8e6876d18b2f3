use Rattle.std.proofs.Common.{◌∙◌, ◌-◌, ℕ, true, ap, sym, arith}
use Rattle.code_text.specs.Reading.{number_at}
use Rattle.code_text.proofs.types.Stack.{whole_name}
use Rattle.code_text.proofs.read_vars.whole.Goals as goal

pub returns : goal.returns
returns c =
    let bs = c.args.binders.now in
    let total = c.len-total.result in
    let number = c.in-Ok.number in
    whole_name c.args.sort c.args.top bs number (total - 1 - number) c.sort.result c.args.bytes.now c.in-Ok.rest.now (omega arith) (omega arith) (omega arith)
    (ap (λ (n : ℕ). number_at true (n - 1) c.args.bytes.now) (sym c.len-total.ensures.value) ∙ c.in-Ok.ensures.value)
    (ap (λ (n : ℕ). n - 1 - number) c.len-total.ensures.value)
    (omega arith)
    c.sort.ensures
    (sym c.same.ensures ∙ c.if-not-same.false)
    (sym c.digit_next.ensures ∙ c.if-digit_next.false)
