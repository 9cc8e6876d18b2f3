use Rattle.std.proofs.Common.{◌∙◌, sym, ap}
use Rattle.core_syntax.proofs.PartLemmas.{is_dims, is_join}
use Rattle.type_equal.specs.Counted.{counts_of, put_under, put_large}
use Rattle.type_equal.proofs.counting.+large.Goals as goal

pub is_large_in-returns-in-Dims : goal.is_large_in-returns-in-Dims
is_large_in-returns-in-Dims t c =
    c.any_large_dim.ensures ∙ sym (ap (put_large (counts_of (put_under c.args.under c.args.counts.now))) (is_dims c.args.i.now _ _ c.as_slice.ensures c.in-Dims.is))

pub is_large_in-returns-in-Join : goal.is_large_in-returns-in-Join
is_large_in-returns-in-Join t c =
    c.any_large_in.ensures ∙ sym (ap (put_large (counts_of (put_under c.args.under c.args.counts.now))) (is_join c.args.i.now _ _ c.as_slice-in-Join.ensures c.in-Join.is))
