use Rattle.std.proofs.Common.{◌∙◌, sym, ap, ◌-◌, ◌^◌, min}
use Rattle.core_syntax.proofs.PartLemmas.{is_sum}
use Rattle.type_equal.specs.Counted.{counts_of, put_under, put_constant}
use Rattle.type_equal.proofs.counting.+constants.Goals as goal

pub constant_in-returns-in-Sum : goal.constant_in-returns-in-Sum
constant_in-returns-in-Sum t c =
    c.constants_in.ensures ∙ sym (ap (λ i. min (put_constant (counts_of (put_under c.args.under c.args.counts.now)) i) (2 ^ 64 - 1)) (is_sum c.args.i.now _ _ c.as_slice.ensures c.in-Sum.is))
