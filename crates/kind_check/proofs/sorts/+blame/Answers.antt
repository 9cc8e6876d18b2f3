use Rattle.std.proofs.Common.{sym, ap, ◌∙◌}
use Rattle.core_syntax.specs.Lists.{onto}
use Rattle.core_syntax.specs.Sorts.{inner_blame}
use Rattle.core_syntax.proofs.PartLemmas.{is_sum, is_dims, is_join}
use Rattle.kind_check.proofs.BlameLemmas.{found, passed}
use Rattle.kind_check.proofs.sorts.+blame.Goals as goal

pub first_inside-returns-in-Sum : goal.first_inside-returns-in-Sum
first_inside-returns-in-Sum t c =
    c.first_among.ensures ∙ sym (ap (inner_blame (onto c.args.scope.now c.args.around.now)) (is_sum c.args.i.now _ _ c.as_slice.ensures c.in-Sum.is))

pub first_inside-returns-in-Dims : goal.first_inside-returns-in-Dims
first_inside-returns-in-Dims t c =
    c.first_among-in-Dims.ensures ∙ sym (ap (inner_blame (onto c.args.scope.now c.args.around.now)) (is_dims c.args.i.now _ _ c.as_slice-in-Dims.ensures c.in-Dims.is))

pub first_inside-returns-in-Join : goal.first_inside-returns-in-Join
first_inside-returns-in-Join t c =
    c.first_among-in-Join.ensures ∙ sym (ap (inner_blame (onto c.args.scope.now c.args.around.now)) (is_join c.args.i.now _ _ c.as_slice-in-Join.ensures c.in-Join.is))

pub first_among-returns-in-Some : goal.first_among-returns-in-Some
first_among-returns-in-Some t c = found _ _ _ _ c.first_other.ensures c.in-Some.is

pub first_among-returns-in-None : goal.first_among-returns-in-None
first_among-returns-in-None t c = c.first_inside_each.ensures ∙ sym (passed _ _ _ c.first_other.ensures c.in-None.is)
