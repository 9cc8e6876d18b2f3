use Rattle.std.proofs.Common.{◌∙◌, sym, ap, ◌-◌, ◌^◌, min}
use Rattle.core_syntax.proofs.PartLemmas.{is_dims, is_join}
use Rattle.type_equal.specs.Counted.{counts_of, put_under, put_letters}
use Rattle.type_equal.proofs.counting.+letters.Goals as goal

pub letters_in-returns-in-Dims : goal.letters_in-returns-in-Dims
letters_in-returns-in-Dims t c =
    c.dims_in.ensures ∙ sym (ap (λ i. min (put_letters (counts_of (put_under c.args.under c.args.counts.now)) i) (2 ^ 64 - 1)) (is_dims c.args.i.now _ _ c.as_slice.ensures c.in-Dims.is))

pub letters_in-returns-in-Join : goal.letters_in-returns-in-Join
letters_in-returns-in-Join t c =
    c.all_letters_in.ensures ∙ sym (ap (λ i. min (put_letters (counts_of (put_under c.args.under c.args.counts.now)) i) (2 ^ 64 - 1)) (is_join c.args.i.now _ _ c.as_slice-in-Join.ensures c.in-Join.is))
