use Rattle.std.proofs.Common.{◌∙◌, sym, ap, ◌-◌, ◌^◌, min}
use Rattle.core_syntax.proofs.PartLemmas.{is_sum}
use Rattle.type_equal.specs.Counted.{counts_of, put_under, put_variables}
use Rattle.type_equal.proofs.counting.+variables.Goals as goal

pub variables_in-returns-in-Sum : goal.variables_in-returns-in-Sum
variables_in-returns-in-Sum t c =
    c.all_variables_in.ensures ∙ sym (ap (λ i. min (put_variables (counts_of (put_under c.args.under c.args.counts.now)) i) (2 ^ 64 - 1)) (is_sum c.args.i.now _ _ c.as_slice.ensures c.in-Sum.is))
